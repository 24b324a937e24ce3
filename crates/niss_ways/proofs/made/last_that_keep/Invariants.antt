use Rattle.std.proofs.Common.{◌+◌, ◌≤◌, length}
use Rattle.niss_ways.proofs.made.last_that_keep.Given as goal

abbrev pub invariant-loop-last : goal.invariant-loop-last
invariant-loop-last l = l.count + length l.rest ≤ 512

abbrev pub decreases-loop-last : goal.decreases-loop-last
decreases-loop-last l = length l.rest
