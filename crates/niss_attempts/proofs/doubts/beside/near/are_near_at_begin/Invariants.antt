use Rattle.std.proofs.Common.{◌↔◌, length}
use Rattle.niss_attempts.specs.Ends.{AreNearAtBegin}
use Rattle.niss_attempts.proofs.doubts.beside.near.are_near_at_begin.Given as goal

abbrev pub invariant-loop-front : goal.invariant-loop-front
invariant-loop-front l = AreNearAtBegin l.rest l.other_rest ↔ AreNearAtBegin l.one l.other

abbrev pub decreases-loop-front : goal.decreases-loop-front
decreases-loop-front l = length l.rest
