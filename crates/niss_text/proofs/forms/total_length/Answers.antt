use Rattle.std.proofs.Common.{List, ℕ, take, inl, inr, refl}
use Rattle.niss_text.proofs.KeptLemmas.{mark_spells, none_more, digits_begin, begin_letters}
unfoldable use Rattle.niss_text.specs.Kept.{spells}
use Rattle.niss_text.proofs.forms.total_length.Goals as goal

pub returns-else-digits-eq0-clause-letters : goal.returns-else-digits-eq0-clause-letters
returns-else-digits-eq0-clause-letters c =
    let text : List ℕ = c.args.text.now in
    let number : List ℕ = c.from_place.result.now in
    let slash : ℕ = c.mark_length-slash.result in
    let digits : ℕ = c.digits_length-digits.result in
    none_more spells text number slash digits (mark_spells text slash 47 c.mark_length-slash.ensures.is (inr (inr (inl refl)))) c.from_place.ensures
    (begin_letters (take digits number) (digits_begin number digits c.digits_length-digits.ensures.fits c.digits_length-digits.ensures.digits))
