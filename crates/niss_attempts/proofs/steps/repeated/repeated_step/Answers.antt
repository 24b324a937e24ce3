use Rattle.std.proofs.Common.{◌≡◌, ◌∙◌, ◌+◌, Ok, false, sym, arith}
use Rattle.niss_attempts.specs.Parts.{solves_repeated}
use Rattle.niss_attempts.proofs.LostLemmas.{one_more}
use Rattle.niss_attempts.proofs.steps.repeated.repeated_step.Goals as goal

pub loop-step-init : goal.loop-step-init
loop-step-init c = record {
  before = c.begin-before.ensures c.args.whole.now.scramble.now c.args.whole.now.steps.now c.args.whole.now.bounds.now c.requires.whole.corners;
  none = λ k less. absurd (omega (arith, less));
}

pub solves_repeated-requires-clause-around : goal.solves_repeated-requires-clause-around
solves_repeated-requires-clause-around c =
    c.longer-around.ensures c.args.whole.now.scramble.now c.args.whole.now.steps.now c.args.whole.now.bounds.now c.loop-step.step c.loop-step.invariant.before

pub loop-step-preserved : goal.loop-step-preserved
loop-step-preserved c =
    let scramble = c.args.whole.now.scramble.now in
    let text = c.args.whole.now.steps.now in
    let bounds = c.args.whole.now.bounds.now in
    let step = c.loop-step.step in
    record {
      before = c.passed-before.ensures scramble text bounds step (step + 1) (c.longer-around.ensures scramble text bounds step c.loop-step.invariant.before);
      none = one_more (λ k. solves_repeated (Ok scramble) text bounds k ≡ false) step c.loop-step.invariant.none (sym c.solves_repeated.ensures ∙ c.if-solves_repeated.false);
    }
