use Rattle.std.proofs.Common.{◌≡◌, ℕ, ◌<◌, ◌%◌, length}
use Rattle.std.specs.Prelude.{slice_index}
use Rattle.niss_attempts.proofs.steps.cube_corners.Corners.then.Given as goal

abbrev pub invariant-loop-corner : goal.invariant-loop-corner
invariant-loop-corner l = record {
  places : length l.to ≡ 8;
  done : (k : ℕ) → k < l.corner → slice_index l.to k ≡ slice_index l.next.to (slice_index l.self.to k % 8);
}
