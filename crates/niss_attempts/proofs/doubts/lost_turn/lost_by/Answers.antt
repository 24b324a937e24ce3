use Rattle.std.proofs.Common.{◌≡◌, ℕ, None, Ok, rules}
use Rattle.niss_attempts.specs.LostTurn.{shown_if, solves_with_turn, turn_numbered}
use Rattle.niss_attempts.specs.ShownTurn.{shown_between}
use Rattle.niss_attempts.specs.declared.doubts.shown_turn.Border.{Border}
use Rattle.niss_attempts.specs.declared.steps.WholeSteps.{WholeSteps}
use Rattle.niss_attempts.proofs.LostLemmas.{one_more}
use Rattle.niss_attempts.proofs.doubts.lost_turn.lost_by.Goals as goal

-- Nothing is told of the turn of a number.
abbrev NothingTold : WholeSteps → Border → ℕ → Type 0
NothingTold whole border j =
    None ≡ shown_if (solves_with_turn (Ok whole.scramble.now) whole.steps.now whole.bounds.now border.number (turn_numbered j))
    (shown_between border.text.now border.above border.below border.has_one_sign (turn_numbered j))

pub loop-place-preserved-in_default : goal.loop-place-preserved-in_default
loop-place-preserved-in_default c =
    let here : NothingTold c.args.whole.now c.args.border.now c.loop-place.place = search rules in
    one_more (NothingTold c.args.whole.now c.args.border.now) c.loop-place.place c.loop-place.invariant here

pub loop-place-preserved-then-not-may_with_turn : goal.loop-place-preserved-then-not-may_with_turn
loop-place-preserved-then-not-may_with_turn c =
    let here : NothingTold c.args.whole.now c.args.border.now c.loop-place.place = search rules in
    one_more (NothingTold c.args.whole.now c.args.border.now) c.loop-place.place c.loop-place.invariant here

pub loop-place-preserved : goal.loop-place-preserved
loop-place-preserved c =
    let here : NothingTold c.args.whole.now c.args.border.now c.loop-place.place = search rules in
    one_more (NothingTold c.args.whole.now c.args.border.now) c.loop-place.place c.loop-place.invariant here
