use Rattle.niss_moves.proofs.Names.{◌≡◌, ◌+◌, ◌≤◌, ◌++◌, length, inverse}
use Rattle.niss_moves.proofs.niss.push_inverse.Given as goal

abbrev pub invariant-loop-last : goal.invariant-loop-last
invariant-loop-last l = record {
  room : length l.moves.items + length l.rest ≤ 256;
  moves : l.moves.items ++ inverse l.rest ≡ l.initial.moves.items ++ inverse l.tokens;
}

abbrev pub decreases-loop-last : goal.decreases-loop-last
decreases-loop-last l = length l.rest
