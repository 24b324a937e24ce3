use Rattle.std.proofs.Common.{None, Ok, Option, subst}
use Rattle.niss_attempts.specs.LostTurn.{IsLostAt}
use Rattle.niss_attempts.specs.ShownTurn.{shown_at, shown_between}
use Rattle.niss_attempts.specs.declared.doubts.Doubt.{Doubt}
use Rattle.niss_attempts.proofs.LostLemmas.{border_told, one_more}
use Rattle.niss_attempts.proofs.doubts.lost_turn.lost_turn.Goals as goal

pub loop-number-preserved : goal.loop-number-preserved
loop-number-preserved c =
    let scramble = Ok c.args.whole.now.scramble.now in
    let steps = c.args.whole.now.steps.now in
    let bounds = c.args.whole.now.bounds.now in
    let text = c.args.text.now in
    let lines = c.args.lines.now in
    let number = c.loop-number.number in
    let border = c.loop-number.border in
    let here : IsLostAt scramble steps bounds number (shown_at text lines number) None =
    border_told scramble steps bounds text lines number border None (subst (λ (it : Option Doubt). IsLostAt scramble steps bounds border.number (shown_between border.text.now border.above border.below border.has_one_sign) it) c.in_default.is c.lost_at.ensures)
    c.loop-number.invariant.is_border in
    record {
      is_border = c.next-border.ensures text lines number c.loop-number.invariant.is_border;
      none = one_more (λ j. IsLostAt scramble steps bounds j (shown_at text lines j) None) number c.loop-number.invariant.none here;
    }
