use Rattle.std.proofs.Common.{◌+◌, Ok}
use Rattle.niss_attempts.specs.Parts.{solves_part}
use Rattle.niss_attempts.proofs.PartLemmas.{from_more}
use Rattle.niss_attempts.proofs.steps.parts.part_from.Goals as goal

pub loop-step-preserved : goal.loop-step-preserved
loop-step-preserved c = record {
  around = c.longer-around.ensures c.args.whole.now.scramble.now c.args.whole.now.steps.now c.args.whole.now.bounds.now c.args.first c.loop-step.invariant.around;
  none = from_more (solves_part (Ok c.args.whole.now.scramble.now) c.args.whole.now.steps.now c.args.whole.now.bounds.now) c.args.first (c.loop-step.step + 1) c.loop-step.invariant.none c.in_default.ensures;
}

pub solving_how-requires-clause-around : goal.solving_how-requires-clause-around
solving_how-requires-clause-around c =
    c.longer-around.ensures c.args.whole.now.scramble.now c.args.whole.now.steps.now c.args.whole.now.bounds.now c.args.first c.loop-step.invariant.around
