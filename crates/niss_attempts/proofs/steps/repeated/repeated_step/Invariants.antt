use Rattle.std.proofs.Common.{◌≡◌, ◌<◌, ℕ, false, Ok}
use Rattle.niss_attempts.specs.Corners.{IsAroundPart}
use Rattle.niss_attempts.specs.Parts.{solves_repeated}
use Rattle.niss_attempts.proofs.steps.repeated.repeated_step.Given as goal

abbrev pub invariant-loop-step : goal.invariant-loop-step
invariant-loop-step l = record {
  before : IsAroundPart l.whole.scramble.now l.whole.steps.now l.whole.bounds.now l.step l.step l.before;
  none : (k : ℕ) → k < l.step → solves_repeated (Ok l.whole.scramble.now) l.whole.steps.now l.whole.bounds.now k ≡ false;
}
