use Rattle.std.proofs.Common.{◌≡◌, length}
use Rattle.niss_attempts.specs.Attempts.{first_doubt}
use Rattle.niss_attempts.proofs.doubts.first_doubt.Given as goal

abbrev pub invariant-loop-line : goal.invariant-loop-line
invariant-loop-line l = first_doubt l.rest ≡ first_doubt l.lines

abbrev pub decreases-loop-line : goal.decreases-loop-line
decreases-loop-line l = length l.rest
