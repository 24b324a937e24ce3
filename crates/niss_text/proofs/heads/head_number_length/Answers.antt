use Rattle.std.proofs.Common.{ℕ, List, ◌≡◌, ◌+◌, ◌-◌, length, take, ap, subst, inl, refl, length-drop, arith}
use Rattle.niss_text.specs.Kept.{HasOnlyWords, words_of_title}
use Rattle.niss_text.proofs.KeptLemmas.{only_begin, only_moves, only_then, digits_only, mark_begins}
use Rattle.niss_text.proofs.heads.head_number_length.Goals as goal

pub returns-then-is_parted-clause-words : goal.returns-then-is_parted-clause-words
returns-then-is_parted-clause-words c =
    let text : List ℕ = c.args.text.now in
    let number : List ℕ = c.trimmed-number.result.now in
    let marked : List ℕ = c.from_place-marked.result.now in
    let rest : List ℕ = c.from_place-rest.result.now in
    let total : List ℕ = c.behind_total-total.result.now in
    let end : List ℕ = c.behind_end-end.result.now in
    let mark : ℕ = c.mark_length.result in
    let digits : ℕ = c.digits_length-digits.result in
    let blanks : ℕ = length text - length number in
    let of : ℕ = length rest - length total in
    let sign : ℕ = length total - length end in
    let w : List (List ℕ) = words_of_title in
    let ended : HasOnlyWords w (take (of + sign) rest) =
    only_then w rest total of sign c.behind_total-total.ensures.words c.behind_total-total.ensures.rest (only_begin w (take sign total) c.behind_end-end.ensures.begin) in
    let counted : HasOnlyWords w (take (digits + (of + sign)) marked) =
    only_then w marked rest digits (of + sign) (digits_only w marked digits c.digits_length-digits.ensures.fits c.digits_length-digits.ensures.digits)
    c.from_place-rest.ensures ended in
    let numbered : HasOnlyWords w (take (mark + (digits + (of + sign))) number) =
    only_then w number marked mark (digits + (of + sign)) (only_begin w (take mark number) (mark_begins number mark 35 c.mark_length.ensures.is (inl refl)))
    c.from_place-marked.ensures counted in
    let there : blanks + (mark + (digits + (of + sign))) ≡ length text - length end =
    omega (
      arith,
      ap length c.from_place-marked.ensures,
      length-drop mark number,
      ap length c.from_place-rest.ensures,
      length-drop digits marked,
      c.trimmed-number.ensures.fits,
      c.mark_length.ensures.fits,
      c.digits_length-digits.ensures.fits,
      c.behind_total-total.ensures.fits,
      c.behind_end-end.ensures.fits,
    ) in
    subst (λ n. HasOnlyWords w (take n text)) there
    (only_then w text number blanks (mark + (digits + (of + sign))) (only_moves w (take blanks text) c.trimmed-number.ensures.skipped)
    c.trimmed-number.ensures.rest numbered)
