use Rattle.std.proofs.Common.{◌≡◌, ◌<◌, ◌∷◌, [], false, length, get_or, arith}
use Rattle.niss_text.specs.Signs.{is_changed}
use Rattle.niss_text.proofs.SignLemmas.{begins_none, one_none}
use Rattle.niss_text.proofs.sign.longer_sign.Goals.{then-text-gt1+in_default, else-text-gt1, then-text-gt2+in_default-kind_of_three, else-text-gt2}
use Rattle.niss_text.proofs.sign.longer_sign.Goals as goal

pub returns-in-Some-kind_of_three-clause-kept : goal.returns-in-Some-kind_of_three-clause-kept
returns-in-Some-kind_of_three-clause-kept c = λ is.
    let text = c.args.text.now in
    let two : 1 < length text → is_changed (get_or text 0 0 ∷ get_or text 1 0 ∷ []) ≡ false = λ lt. elim c.if-text-gt1.branch [
      | then-text-gt1+in_default w ↦ w.kind_of_two.ensures.none w.in_default.is
      | else-text-gt1 w ↦ absurd (omega (arith, lt, w.if-text-gt1.false))
    ] in
    begins_none text c.requires (one_none (get_or text 0 0) c.in-Some-kind_of_three.ensures.beyond) two (λ lt. c.in-Some-kind_of_three.ensures.kept is)

pub returns-clause-kept : goal.returns-clause-kept
returns-clause-kept c = λ is.
    let text = c.args.text.now in
    let two : 1 < length text → is_changed (get_or text 0 0 ∷ get_or text 1 0 ∷ []) ≡ false = λ lt. elim c.if-text-gt1.branch [
      | then-text-gt1+in_default w ↦ w.kind_of_two.ensures.none w.in_default.is
      | else-text-gt1 w ↦ absurd (omega (arith, lt, w.if-text-gt1.false))
    ] in
    let three : 2 < length text → is_changed (get_or text 0 0 ∷ get_or text 1 0 ∷ get_or text 2 0 ∷ []) ≡ false = λ lt. elim c.if-text-gt2.branch [
      | then-text-gt2+in_default-kind_of_three w ↦ w.in_default-kind_of_three.ensures.kept
      | else-text-gt2 w ↦ absurd (omega (arith, lt, w.if-text-gt2.false))
    ] in
    begins_none text c.requires (c.kind_of_byte.ensures.kept is) two three
