use Rattle.std.proofs.Common.{length}
use Rattle.niss_ways.proofs.LastLemmas.{Ends}
use Rattle.niss_ways.proofs.last_turns.last_on.Given as goal

-- what is left is followed by turns on the axis, which are counted
abbrev pub invariant-loop-last : goal.invariant-loop-last
invariant-loop-last l = Ends l.axis l.turns l.rest l.count

abbrev pub decreases-loop-last : goal.decreases-loop-last
decreases-loop-last l = length l.rest
