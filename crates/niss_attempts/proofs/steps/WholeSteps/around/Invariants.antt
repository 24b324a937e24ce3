use Rattle.niss_attempts.specs.Corners.{IsAroundPart}
use Rattle.niss_attempts.proofs.steps.WholeSteps.around.Given as goal

abbrev pub invariant-loop-step : goal.invariant-loop-step
invariant-loop-step l = IsAroundPart l.self.scramble.now l.self.steps.now l.self.bounds.now l.step l.step l.around
