use Rattle.std.proofs.Common.{◌≡◌, ◌+◌, ◌++◌, map, length, reverse}
use Rattle.niss_moves.specs.Effects.{inverse_turn}
use Rattle.niss_ways.proofs.counting.inverse_of.Given as goal

abbrev pub invariant-loop-last : goal.invariant-loop-last
invariant-loop-last l = record {
  few : length l.inverse.items + length l.rest ≡ length l.turns;
  turns : l.inverse.items ++ reverse (map inverse_turn l.rest) ≡ reverse (map inverse_turn l.turns);
}

abbrev pub decreases-loop-last : goal.decreases-loop-last
decreases-loop-last l = length l.rest
