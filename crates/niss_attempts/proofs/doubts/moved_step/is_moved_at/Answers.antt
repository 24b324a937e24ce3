use Rattle.std.proofs.Common.{◌+◌, ◌<◌, Bool, Ok, subst}
use Rattle.niss_attempts.specs.MovedStep.{IsMovedAmong}
use Rattle.niss_attempts.proofs.MovedLemmas.{moved_else}
use Rattle.niss_attempts.proofs.doubts.moved_step.is_moved_at.Goals as goal

pub returns-else-is_moved_up : goal.returns-else-is_moved_up
returns-else-is_moved_up c =
    let whole = c.args.whole.now in
    let scramble = Ok whole.scramble.now in
    moved_else scramble whole.steps.now whole.bounds.now c.args.step c.is_moved_down.result
    (subst (λ (is : Bool). IsMovedAmong (λ place. place + 1 < c.args.step) scramble whole.steps.now whole.bounds.now c.args.step is) c.if-is_moved_up.false c.is_moved_up.ensures)
    c.requires.asked c.is_moved_down.ensures
