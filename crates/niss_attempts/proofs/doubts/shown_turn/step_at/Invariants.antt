use Rattle.std.proofs.Common.{◌≡◌, length}
use Rattle.niss_attempts.specs.ShownTurn.{step_at}
use Rattle.niss_attempts.proofs.doubts.shown_turn.step_at.Given as goal

abbrev pub invariant-loop-line : goal.invariant-loop-line
invariant-loop-line l = step_at l.rest l.left ≡ step_at l.lines l.number

abbrev pub decreases-loop-line : goal.decreases-loop-line
decreases-loop-line l = length l.rest
