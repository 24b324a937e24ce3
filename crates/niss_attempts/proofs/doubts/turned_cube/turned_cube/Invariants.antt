use Rattle.std.proofs.Common.{◌<◌, ℕ, false, Ok}
use Rattle.niss_attempts.specs.Corners.{IsAroundPart}
use Rattle.niss_attempts.specs.TurnedCube.{IsTurnedAt}
use Rattle.niss_attempts.proofs.doubts.turned_cube.turned_cube.Given as goal

abbrev pub invariant-loop-number : goal.invariant-loop-number
invariant-loop-number l = record {
  are_around : IsAroundPart l.whole.scramble.now l.whole.steps.now l.whole.bounds.now l.number l.number l.around;
  none : (j : ℕ) → j < l.number → IsTurnedAt (Ok l.whole.scramble.now) l.whole.steps.now l.whole.bounds.now j false;
}
