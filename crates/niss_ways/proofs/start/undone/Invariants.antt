use Rattle.std.proofs.Common.{◌≡◌, ◌+◌, ◌≤◌, ◌++◌, length}
use Rattle.niss_moves.specs.Effects.{inverse}
use Rattle.niss_ways.proofs.start.undone.Given as goal

abbrev pub invariant-loop-last : goal.invariant-loop-last
invariant-loop-last l = record {
  few : length l.moves.items + length l.rest ≤ 256;
  undo : l.moves.items ++ inverse l.rest ≡ inverse l.line.bracketed;
}

abbrev pub decreases-loop-last : goal.decreases-loop-last
decreases-loop-last l = length l.rest
