use Rattle.std.proofs.Common.{◌≡◌, ◌<◌, length, ◌&&◌, List, ℕ, true, get_or, ap, sym, ◌∙◌, length-drop, arith, subst}
use Rattle.std.proofs.lemmas.List.{get_or-drop}
use Rattle.niss_text.specs.Signs.{is_digit, begins_count}
use Rattle.niss_text.proofs.KeptLemmas.{count_is}
use Rattle.niss_text.proofs.forms.count_length.Goals as goal

pub returns-clause-is : goal.returns-clause-is
returns-clause-is c = λ some.
    let text : List ℕ = c.args.text.now in
    let number : List ℕ = c.from_place-number.result.now in
    let words : List ℕ = c.from_place-words.result.now in
    let digits : ℕ = c.digits_length-digits.result in
    let many : 0 < digits = omega (arith, c.if-digits-eq0.false) in
    let second : get_or number 0 0 ≡ get_or text 1 0 = ap (λ v. get_or v 0 0) c.from_place-number.ensures ∙ get_or-drop 1 text 0 0 in
    let digit : is_digit (get_or text 1 0) ≡ true = subst (λ b. is_digit b ≡ true) second (c.digits_length-digits.ensures.digits 0 many) in
    let begins : begins_count (get_or text 0 0) (get_or text 1 0) ≡ true =
    ap (λ v. v && is_digit (get_or text 1 0)) (sym c.opens.ensures ∙ c.if-not-opens.false) ∙ digit in
    count_is text number c.from_place-total.result.now words c.from_place-close.result.now digits c.total_length.result c.moves_length.result
    c.close_length-end.result _ begins c.from_place-number.ensures c.digits_length-digits.ensures.fits c.digits_length-digits.ensures.digits
    c.from_place-total.ensures c.total_length.ensures.letters c.from_place-words.ensures c.moves_length.ensures.word c.from_place-close.ensures
    c.close_length-end.ensures.letters many
    (omega (
      arith,
      ap length c.from_place-number.ensures,
      length-drop 1 text,
      ap length c.from_place-total.ensures,
      length-drop digits number,
      ap length c.from_place-words.ensures,
      length-drop c.total_length.result c.from_place-total.result.now,
      ap length c.from_place-close.ensures,
      length-drop c.moves_length.result words,
      c.digits_length-digits.ensures.fits,
      c.total_length.ensures.fits,
      c.moves_length.ensures.fits,
    ))
