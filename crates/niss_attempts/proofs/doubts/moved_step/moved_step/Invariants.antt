use Rattle.std.proofs.Common.{◌<◌, ℕ, false, Ok}
use Rattle.niss_attempts.specs.MovedStep.{IsMovedAt}
use Rattle.niss_attempts.proofs.doubts.moved_step.moved_step.Given as goal

abbrev pub invariant-loop-step : goal.invariant-loop-step
invariant-loop-step l = (j : ℕ) → j < l.step → IsMovedAt (Ok l.whole.scramble.now) l.whole.steps.now l.whole.bounds.now j false
