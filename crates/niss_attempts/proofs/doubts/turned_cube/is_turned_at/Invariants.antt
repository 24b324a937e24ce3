use Rattle.std.proofs.Common.{◌≡◌, ◌<◌, ℕ, false, Ok}
use Rattle.niss_attempts.specs.TurnedCube.{hold_numbered, solves_turned}
use Rattle.niss_attempts.proofs.doubts.turned_cube.is_turned_at.Given as goal

abbrev pub invariant-loop-at : goal.invariant-loop-at
invariant-loop-at l = (j : ℕ) → j < l.at →
    solves_turned (Ok l.whole.scramble.now) l.whole.steps.now l.whole.bounds.now l.number (hold_numbered j).rotation ≡ false
