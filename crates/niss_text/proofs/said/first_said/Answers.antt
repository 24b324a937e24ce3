use Rattle.std.proofs.Common.{◌≡◌, ℕ, List, ◌-◌, false, slice_range, sym, subst, ◌∙◌, arith}
use Rattle.std.proofs.lemmas.Bool.{false≢true}
use Rattle.niss_text.proofs.DeniedLemmas.{Knows, knows_first, letter_passed, sign_passed}
use Rattle.niss_text.proofs.said.first_said.Goals as goal

pub loop-at-init : goal.loop-at-init
loop-at-init c =
    let part : List ℕ = slice_range c.args.text.now c.args.from c.args.to in
    let none : c.args.from - c.args.from ≡ 0 = omega arith in
    subst (λ n. Knows part n false) (sym none) (knows_first part false)

pub loop-at-preserved-then-is_sign : goal.loop-at-preserved-then-is_sign
loop-at-preserved-then-is_sign c =
    sign_passed c.args.text.now c.args.from c.args.to c.loop-at.at c.loop-at.is_denied c.denies_by_sign-is_denied.result (omega (arith, c.loop-at.auto.at))
    (omega (arith, c.loop-at-test.true)) c.loop-at.invariant (c.is_sign.ensures.letter c.if-is_sign.true) c.denies_by_sign-is_denied.ensures

pub loop-at-preserved : goal.loop-at-preserved
loop-at-preserved c =
    let after = c.denied_after-is_denied in
    let word = c.word_of in
    letter_passed c.args.text.now word.result.now c.args.from c.args.to c.loop-at.at c.begins_word-is_begun.result c.loop-at.is_denied after.result
    (omega (arith, c.loop-at.auto.at)) (omega (arith, c.loop-at-test.true)) c.loop-at.invariant
    (λ blank. false≢true (sym c.if-is_sign.false ∙ c.is_sign.ensures.blank blank)) c.begins_word-is_begun.ensures.begun c.begins_word-is_begun.ensures.within
    word.ensures.is word.ensures.letters word.ensures.ended after.ensures.within after.ensures.none after.ensures.goes_on
