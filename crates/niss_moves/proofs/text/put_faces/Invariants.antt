use Rattle.niss_moves.proofs.Names.{Token, ◌+◌, ◌*◌, ◌≤◌, map, drop, length}
use Rattle.niss_moves.proofs.Words.{Writes}
use Rattle.niss_moves.proofs.text.put_faces.Given as goal

abbrev pub invariant-loop-turn : goal.invariant-loop-turn
invariant-loop-turn l = record {
  room : length l.text.items + l.words.len ≤ length l.initial.text.items + 3 * l.turn-index;
  writes : Writes l.text.items l.words (map Token.Face (drop l.turn-index l.turns)) l.initial.text.items (map Token.Face l.turns);
}
