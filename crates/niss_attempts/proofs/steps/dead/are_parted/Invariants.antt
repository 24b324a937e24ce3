use Rattle.std.proofs.Common.{ℕ, ◌+◌, ◌<◌}
use Rattle.std.specs.Prelude.{slice_index, slice_range}
use Rattle.niss_attempts.specs.DeadSteps.{EndsWhole}
use Rattle.niss_attempts.proofs.steps.dead.are_parted.Given as goal

abbrev pub invariant-loop-at : goal.invariant-loop-at
invariant-loop-at l = (step : ℕ) → step + 2 < l.at → EndsWhole (slice_range l.text (slice_index l.bounds step) (slice_index l.bounds (step + 1)))
