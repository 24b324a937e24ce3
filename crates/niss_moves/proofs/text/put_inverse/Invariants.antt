use Rattle.niss_moves.proofs.Names.{◌+◌, ◌*◌, ◌≤◌, length, inverse}
use Rattle.niss_moves.proofs.Words.{Writes}
use Rattle.niss_moves.proofs.text.put_inverse.Given as goal

abbrev pub invariant-loop-last : goal.invariant-loop-last
invariant-loop-last l = record {
  room : length l.text.items + l.words.len + 4 * length l.rest ≤ length l.initial.text.items + 4 * length l.tokens;
  writes : Writes l.text.items l.words (inverse l.rest) l.initial.text.items (inverse l.tokens);
}

abbrev pub decreases-loop-last : goal.decreases-loop-last
decreases-loop-last l = length l.rest
