use Rattle.std.proofs.Common.{false, Ok, subst}
use Rattle.niss_attempts.specs.MovedStep.{IsMovedAt}
use Rattle.niss_attempts.proofs.LostLemmas.{one_more}
use Rattle.niss_attempts.proofs.doubts.moved_step.moved_step.Goals as goal

pub loop-step-preserved : goal.loop-step-preserved
loop-step-preserved c =
    let scramble = Ok c.args.whole.now.scramble.now in
    let steps = c.args.whole.now.steps.now in
    let bounds = c.args.whole.now.bounds.now in
    one_more (λ j. IsMovedAt scramble steps bounds j false) c.loop-step.step c.loop-step.invariant
    (subst (IsMovedAt scramble steps bounds c.loop-step.step) c.if-is_moved_at.false c.is_moved_at.ensures)
