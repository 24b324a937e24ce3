use Rattle.std.proofs.Common.{◌≡◌, ◌∙◌, false, Ok, ap, arith, subst, sym}
use Rattle.niss_moves.specs.declared.rotation.Rotation.{Rotation}
use Rattle.niss_attempts.specs.Between.{solves_between}
use Rattle.niss_attempts.specs.TurnedCube.{hold_numbered, solves_turned}
use Rattle.niss_attempts.specs.declared.doubts.turned_cube.holds.Hold.{Hold}
use Rattle.niss_attempts.proofs.HoldLemmas.{every_hold, hold_turns}
use Rattle.niss_attempts.proofs.LostLemmas.{one_more}
use Rattle.niss_attempts.proofs.doubts.turned_cube.is_turned_at.Goals as goal

pub loop-at-preserved-then-not-may_hold : goal.loop-at-preserved-then-not-may_hold
loop-at-preserved-then-not-may_hold c =
    let scramble = Ok c.args.whole.now.scramble.now in
    let steps = c.args.whole.now.steps.now in
    let bounds = c.args.whole.now.bounds.now in
    one_more (λ j. solves_turned scramble steps bounds c.args.number (hold_numbered j).rotation ≡ false) c.loop-at.at c.loop-at.invariant
    (subst (λ (h : Hold). solves_turned scramble steps bounds c.args.number h.rotation ≡ false) c.hold_numbered-hold.ensures.is
    (c.may_hold.ensures c.args.whole.now.scramble.now steps bounds c.args.number c.requires.around c.if-not-may_hold.true))

pub returns-then-solve_with : goal.returns-then-solve_with
returns-then-solve_with c =
    let scramble = Ok c.args.whole.now.scramble.now in
    let steps = c.args.whole.now.steps.now in
    let bounds = c.args.whole.now.bounds.now in (
      c.hold_numbered-hold.result.rotation,
      (λ same. hold_turns c.loop-at.at c.loop-at-test.true (ap (λ (h : Hold). h.rotation) (sym c.hold_numbered-hold.ensures.is) ∙ same)),
      ap (solves_between scramble steps bounds c.args.number) (sym c.turned_bytes.ensures) ∙ sym c.solve_with.ensures ∙ c.if-solve_with.true,
    )

pub loop-at-preserved : goal.loop-at-preserved
loop-at-preserved c =
    let scramble = Ok c.args.whole.now.scramble.now in
    let steps = c.args.whole.now.steps.now in
    let bounds = c.args.whole.now.bounds.now in
    one_more (λ j. solves_turned scramble steps bounds c.args.number (hold_numbered j).rotation ≡ false) c.loop-at.at c.loop-at.invariant
    (subst (λ (h : Hold). solves_turned scramble steps bounds c.args.number h.rotation ≡ false) c.hold_numbered-hold.ensures.is
    (ap (solves_between scramble steps bounds c.args.number) (sym c.turned_bytes.ensures) ∙ sym c.solve_with.ensures ∙ c.if-solve_with.false))

pub returns : goal.returns
returns c r other =
    let n = every_hold r other in
    subst (λ (rotation : Rotation). solves_turned (Ok c.args.whole.now.scramble.now) c.args.whole.now.steps.now c.args.whole.now.bounds.now c.args.number rotation ≡ false) n.2
    (c.loop-at.invariant n.0 (omega (arith, n.1, c.loop-at-test.false)))
