use Rattle.std.proofs.Common.{◌+◌}
use Rattle.niss_attempts.proofs.steps.WholeSteps.around.Goals as goal

pub loop-step-init : goal.loop-step-init
loop-step-init c = c.begin-around.ensures c.args.self.now.scramble.now c.args.self.now.steps.now c.args.self.now.bounds.now c.requires.whole.corners

pub loop-step-preserved : goal.loop-step-preserved
loop-step-preserved c =
    let scramble = c.args.self.now.scramble.now in
    let steps = c.args.self.now.steps.now in
    let bounds = c.args.self.now.bounds.now in
    let step = c.loop-step.step in
    c.passed-around.ensures scramble steps bounds step (step + 1) (c.longer.ensures scramble steps bounds step c.loop-step.invariant)
