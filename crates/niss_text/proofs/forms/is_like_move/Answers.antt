use Rattle.std.proofs.Common.{◌≡◌, ◌+◌, ℕ, List, length, get_or, ap, ◌∙◌, eq-eqb, length-drop, arith}
use Rattle.std.proofs.lemmas.List.{get_or-drop}
use Rattle.niss_text.proofs.TurnLemmas.{turn_next}
use Rattle.niss_text.proofs.forms.is_like_move.Goals as goal

pub returns-then-wide-eq1 : goal.returns-then-wide-eq1
returns-then-wide-eq1 c = λ turns all.
    let word : List ℕ = c.args.word.now in
    let letter : List ℕ = c.from_place-letter.result.now in
    let wide : List ℕ = c.from_place-wide.result.now in
    let w : ℕ = c.word_length.result in
    let same : 1 + (w + 0) ≡ w + 1 = omega arith in
    let there : get_or wide 0 0 ≡ get_or word (w + 1) 0 =
    ap (λ v. get_or v 0 0) c.from_place-wide.ensures ∙ get_or-drop w letter 0 0 ∙ ap (λ v. get_or v (w + 0) 0) c.from_place-letter.ensures
    ∙ get_or-drop 1 word (w + 0) 0 ∙ ap (λ n. get_or word n 0) same in
    eq-eqb (get_or wide 0 0) 50 (there ∙ turn_next word w turns all
    (omega (arith, c.if-wide-eq1.true, ap length c.from_place-wide.ensures, length-drop w letter, ap length c.from_place-letter.ensures, length-drop 1 word)))
