use Rattle.niss_shell.proofs.Names.{◌≡◌, take, length, ap, ◌∙◌, arith, flat_map, take_all, steps, Step, step_line, ℕ}
use Rattle.niss_shell.proofs.shell.set_steps.Goals as goal

pub loop-step-init : goal.loop-step-init
loop-step-init c = record { names = c.clear.ensures; room = omega (arith, ap (length {A = ℕ}) c.clear.ensures); items = c.all-step-items.ensures }

pub returns : goal.returns
returns c =
    let all : take c.loop-step.step-index steps ≡ steps = take_all c.loop-step.step-index steps (omega (arith, c.loop-step-test.false, ap (length {A = Step}) c.all-step-items.ensures)) in
    c.loop-step.invariant.names ∙ ap (flat_map step_line) all
