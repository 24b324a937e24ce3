use Rattle.std.proofs.Common.{◌≡◌, ◌+◌, ◌<◌, ◌≤◌, ℕ, Ok, false, true}
use Rattle.niss_attempts.specs.Corners.{Reads}
use Rattle.niss_attempts.specs.MovedStep.{solves_moved}
use Rattle.niss_attempts.specs.Parts.{steps_line}
use Rattle.niss_attempts.proofs.doubts.moved_step.is_moved_down.Given as goal

abbrev pub invariant-loop-above : goal.invariant-loop-above
invariant-loop-above l = record {
  below : l.step + 1 ≤ l.above;
  early : l.whole.corners.now.are_lines ≡ true → Reads (steps_line l.whole.steps.now l.whole.bounds.now (l.step + 1) l.above) l.early;
  none : (place : ℕ) → l.step + 1 < place → place ≤ l.above →
      solves_moved (Ok l.whole.scramble.now) l.whole.steps.now l.whole.bounds.now l.step place ≡ false;
}
