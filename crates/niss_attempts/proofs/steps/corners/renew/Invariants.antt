use Rattle.std.proofs.Common.{◌≡◌, ℕ, List, length}
use Rattle.niss_attempts.specs.Corners.{AreSteps, AreTails}
use Rattle.niss_attempts.specs.DeadSteps.{AreParted}
use Rattle.niss_attempts.proofs.steps.corners.renew.Given as goal

abbrev pub invariant-loop-step : goal.invariant-loop-step
invariant-loop-step l = record {
  places : length l.tails ≡ 13;
  are : (text bounds : List ℕ) → AreSteps text bounds l.steps → AreParted text bounds → AreTails text bounds l.set l.count l.initial.tails → AreTails text bounds l.set l.step l.tails;
}
