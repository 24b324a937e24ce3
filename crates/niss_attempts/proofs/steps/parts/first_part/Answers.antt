use Rattle.std.proofs.Common.{◌+◌, Ok, arith}
use Rattle.niss_attempts.specs.Parts.{number_of_steps, solves_part}
use Rattle.niss_attempts.proofs.PartLemmas.{none_more}
use Rattle.niss_attempts.proofs.steps.parts.first_part.Goals as goal

pub loop-first-init : goal.loop-first-init
loop-first-init c = record {
  before = c.begin-before.ensures c.args.whole.now.scramble.now c.args.whole.now.steps.now c.args.whole.now.bounds.now c.requires.whole.corners;
  none = λ q among less. absurd (omega (arith, less));
}

pub loop-first-preserved : goal.loop-first-preserved
loop-first-preserved c =
    let scramble = c.args.whole.now.scramble.now in
    let text = c.args.whole.now.steps.now in
    let bounds = c.args.whole.now.bounds.now in
    let first = c.loop-first.first in
    record {
      before = c.passed-before.ensures scramble text bounds first (first + 1) (c.longer.ensures scramble text bounds first c.loop-first.invariant.before);
      none = none_more (solves_part (Ok scramble) text bounds) (number_of_steps bounds) first c.loop-first.invariant.none c.in_default.ensures;
    }
