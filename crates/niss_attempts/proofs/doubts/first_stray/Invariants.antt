use Rattle.std.proofs.Common.{◌≡◌, length}
use Rattle.niss_attempts.specs.Attempts.{first_stray}
use Rattle.niss_attempts.proofs.doubts.first_stray.Given as goal

abbrev pub invariant-loop-line : goal.invariant-loop-line
invariant-loop-line l = first_stray l.rest ≡ first_stray l.lines

abbrev pub decreases-loop-line : goal.decreases-loop-line
decreases-loop-line l = length l.rest
