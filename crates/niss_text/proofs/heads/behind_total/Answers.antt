use Rattle.std.proofs.Common.{ℕ, List, ◌≡◌, ◌+◌, ◌-◌, length, take, ap, subst, length-drop, arith}
use Rattle.niss_text.specs.Kept.{HasOnlyWords, words_of_title}
use Rattle.niss_text.proofs.KeptLemmas.{only_moves, only_then, digits_only}
use Rattle.niss_text.proofs.heads.behind_total.Goals as goal

pub returns-else-digits-eq0-clause-words : goal.returns-else-digits-eq0-clause-words
returns-else-digits-eq0-clause-words c =
    let line : List ℕ = c.args.line.now in
    let word : List ℕ = c.trimmed-word.result.now in
    let after : List ℕ = c.from_place.result.now in
    let number : List ℕ = c.trimmed-number.result.now in
    let next : List ℕ = c.from_place-else-digits-eq0.result.now in
    let of : ℕ = c.of_length-of.result in
    let digits : ℕ = c.digits_length-digits.result in
    let first : ℕ = length line - length word in
    let second : ℕ = length after - length number in
    let w : List (List ℕ) = words_of_title in
    let counted : HasOnlyWords w (take (second + digits) after) =
    only_then w after number second digits (only_moves w (take second after) c.trimmed-number.ensures.skipped) c.trimmed-number.ensures.rest
    (digits_only w number digits c.digits_length-digits.ensures.fits c.digits_length-digits.ensures.digits) in
    let said : HasOnlyWords w (take (of + (second + digits)) word) =
    only_then w word after of (second + digits) c.of_length-of.ensures.words c.from_place.ensures counted in
    let there : first + (of + (second + digits)) ≡ length line - length next =
    omega (
      arith,
      ap length c.from_place.ensures,
      length-drop of word,
      ap length c.from_place-else-digits-eq0.ensures,
      length-drop digits number,
      c.trimmed-word.ensures.fits,
      c.trimmed-number.ensures.fits,
      c.of_length-of.ensures.fits,
      c.digits_length-digits.ensures.fits,
    ) in
    subst (λ n. HasOnlyWords w (take n line)) there
    (only_then w line word first (of + (second + digits)) (only_moves w (take first line) c.trimmed-word.ensures.skipped) c.trimmed-word.ensures.rest said)
