use Rattle.std.proofs.Common.{◌≡◌, ◌+◌, ◌<◌, ◌≤◌, ℕ, Ok, false, true}
use Rattle.niss_attempts.specs.Corners.{Reads}
use Rattle.niss_attempts.specs.MovedStep.{solves_moved}
use Rattle.niss_attempts.specs.Parts.{steps_line}
use Rattle.niss_attempts.proofs.doubts.moved_step.is_moved_up.Given as goal

abbrev pub invariant-loop-place : goal.invariant-loop-place
invariant-loop-place l = record {
  above : l.place + 1 ≤ l.step;
  late : l.whole.corners.now.are_lines ≡ true → Reads (steps_line l.whole.steps.now l.whole.bounds.now l.place l.step) l.late;
  none : (place : ℕ) → l.place ≤ place → place + 1 < l.step →
      solves_moved (Ok l.whole.scramble.now) l.whole.steps.now l.whole.bounds.now l.step place ≡ false;
}
