use Rattle.std.proofs.Common.{◌∙◌, ◌-◌, ap, sym, arith}
use Rattle.std.specs.Prelude.{not, slice_index}
use Rattle.niss_attempts.specs.Blanks.{is_blank}
use Rattle.niss_attempts.proofs.LostLemmas.{find_passed}
use Rattle.niss_attempts.proofs.doubts.shown_turn.last_place.Goals as goal

pub loop-blanks-preserved : goal.loop-blanks-preserved
loop-blanks-preserved c =
    sym (find_passed (λ n. not (is_blank (slice_index c.args.text.now (c.args.end - 1 - n)))) c.loop-blanks.blanks (c.args.end - c.args.begin)
    (omega (arith, c.loop-blanks-test.true, c.saturating_sub-blanks-end.ensures))
    (ap (λ byte. not (is_blank byte)) (sym c.byte_at.ensures) ∙ ap not (sym c.is_blank.ensures ∙ c.if-not-is_blank.false)))
    ∙ c.loop-blanks.invariant
