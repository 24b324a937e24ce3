use Rattle.std.proofs.Common.{◌≡◌, ◌+◌, ◌<◌, ℕ, true, length, get_or}
use Rattle.niss_attempts.specs.declared.steps.corners.StepCorners.{StepCorners}
use Rattle.niss_attempts.specs.Corners.{Reads}
use Rattle.niss_attempts.specs.Parts.{steps_line}
use Rattle.niss_attempts.proofs.doubts.moved_step.fronts_of.Given as goal

abbrev pub invariant-loop-step : goal.invariant-loop-step
invariant-loop-step l = record {
  number : length l.fronts.items ≡ l.step + 1;
  front : l.whole.corners.now.are_lines ≡ true → Reads (steps_line l.whole.steps.now l.whole.bounds.now 0 l.step) l.front;
  reads : l.whole.corners.now.are_lines ≡ true → (place : ℕ) (none : StepCorners) → place < length l.fronts.items →
      Reads (steps_line l.whole.steps.now l.whole.bounds.now 0 place) (get_or l.fronts.items place none);
}
