use Rattle.std.proofs.Common.{◌↔◌, length}
use Rattle.niss_attempts.specs.Beside.{AreNear}
use Rattle.niss_attempts.proofs.doubts.beside.near.are_near.Given as goal

abbrev pub invariant-loop-after : goal.invariant-loop-after
invariant-loop-after l = AreNear l.rest l.other_rest ↔ AreNear l.one l.other

abbrev pub decreases-loop-after : goal.decreases-loop-after
decreases-loop-after l = length l.rest
