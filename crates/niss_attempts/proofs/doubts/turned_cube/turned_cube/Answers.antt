use Rattle.std.proofs.Common.{◌+◌, arith, false, Ok, subst}
use Rattle.niss_attempts.specs.TurnedCube.{IsTurnedAt}
use Rattle.niss_attempts.proofs.LostLemmas.{one_more}
use Rattle.niss_attempts.proofs.doubts.turned_cube.turned_cube.Goals as goal

pub loop-number-init : goal.loop-number-init
loop-number-init c = record {
  are_around = c.begin-around.ensures c.args.whole.now.scramble.now c.args.whole.now.steps.now c.args.whole.now.bounds.now c.requires.whole.corners;
  none = λ j l. absurd (omega (arith, l));
}

pub loop-number-preserved : goal.loop-number-preserved
loop-number-preserved c =
    let scramble = c.args.whole.now.scramble.now in
    let steps = c.args.whole.now.steps.now in
    let bounds = c.args.whole.now.bounds.now in
    let number = c.loop-number.number in
    let here : IsTurnedAt (Ok scramble) steps bounds number false = subst (IsTurnedAt (Ok scramble) steps bounds number) c.if-is_turned_at.false c.is_turned_at.ensures in
    record {
      are_around = c.passed-around.ensures scramble steps bounds number (number + 1) (c.longer.ensures scramble steps bounds number c.loop-number.invariant.are_around);
      none = one_more (λ j. IsTurnedAt (Ok scramble) steps bounds j false) number c.loop-number.invariant.none here;
    }
