use Rattle.niss_moves.proofs.Names.{◌*◌, ◌≤◌, length}
use Rattle.niss_moves.proofs.Home.{Left}
use Rattle.niss_moves.proofs.rotation.to_faces.Given as goal

abbrev pub invariant-loop-token : goal.invariant-loop-token
invariant-loop-token l = record {
  room : length l.turns.items ≤ 2 * l.token-index;
  left : Left l.tokens l.token-index l.turns.items l.rotation;
}
