use Rattle.std.proofs.Common.{◌+◌, ◌∙◌, Some, drop, sym, ap}
use Rattle.niss_text.proofs.HeadLemmas.{going_on, going_digit, going_over, going_further, going_at, gone}
use Rattle.niss_text.proofs.parts.number_in.Goals.{then-is_digit_byte, else-is_digit_byte+else-ends_number}
use Rattle.niss_text.proofs.parts.number_in.Goals as goal

pub returns-then-ends_number : goal.returns-then-ends_number
returns-then-ends_number c =
    sym (going_at c.args.head.now c.loop-byte.number c.loop-byte.has_letters c.loop-byte.byte-index c.loop-byte-test.true c.loop-byte.invariant
    ∙ going_over c.loop-byte.number c.loop-byte.has_letters _ _ (sym c.is_digit_byte.ensures ∙ c.if-is_digit_byte.false) (sym c.ends_number.ensures ∙ c.if-ends_number.true))

pub loop-byte-preserved : goal.loop-byte-preserved
loop-byte-preserved c =
    let now = going_at c.args.head.now c.loop-byte.number c.loop-byte.has_letters c.loop-byte.byte-index c.loop-byte-test.true c.loop-byte.invariant in
    elim c.if-is_digit_byte.branch [
      | then-is_digit_byte w ↦ now ∙ going_digit c.loop-byte.number c.loop-byte.has_letters c.or_letter-has_letters.result _ _ (sym c.is_digit_byte.ensures ∙ w.if-is_digit_byte.true)
          ∙ ap (λ n. going_on n c.or_letter-has_letters.result (drop (c.loop-byte.byte-index + 1) c.args.head.now)) (ap (λ n. Some n) (sym w.with_digit.ensures) ∙ sym w.number-is)
      | else-is_digit_byte+else-ends_number w ↦ now ∙ going_further c.loop-byte.number c.loop-byte.has_letters _ _ (sym c.is_digit_byte.ensures ∙ w.if-is_digit_byte.false)
          (sym w.ends_number.ensures ∙ w.if-ends_number.false)
          ∙ ap (λ t. going_on c.loop-byte.number t (drop (c.loop-byte.byte-index + 1) c.args.head.now)) (sym c.or_letter-has_letters.ensures)
          ∙ ap (λ n. going_on n c.or_letter-has_letters.result (drop (c.loop-byte.byte-index + 1) c.args.head.now)) (sym w.number-is)
    ]

pub returns : goal.returns
returns c = gone c.args.head.now c.loop-byte.number c.loop-byte.has_letters c.loop-byte.byte-index c.loop-byte-test.false c.loop-byte.invariant
