use Rattle.std.proofs.Common.{◌≡◌, ℕ, ◌+◌, ◌<◌, true, length, get_or}
use Rattle.niss_attempts.specs.declared.steps.corners.StepCorners.{StepCorners}
use Rattle.niss_attempts.specs.Corners.{Reads}
use Rattle.niss_attempts.specs.Parts.{steps_line}
use Rattle.niss_attempts.proofs.steps.corners.are_lines.Given as goal

abbrev pub invariant-loop-at : goal.invariant-loop-at
invariant-loop-at l = record {
  number : length l.steps.items + 1 ≡ l.at;
  reads : l.all ≡ true → (k : ℕ) (none : StepCorners) → k < length l.steps.items → Reads (steps_line l.text l.bounds k (k + 1)) (get_or l.steps.items k none);
}
