use Rattle.std.proofs.Common.{take, refl, arith}
use Rattle.niss_text.proofs.KeptLemmas.{title_end}
use Rattle.niss_text.proofs.LabelLemmas.{colon_end}
use Rattle.niss_text.proofs.SpacingLemmas.{colon_ends}
use Rattle.niss_text.proofs.forms.words_before_colon.Goals as goal

pub returns-clause-end : goal.returns-clause-end
returns-clause-end c =
    title_end c.args.line.now c.from_place-count.result.now c.from_place.result.now c.trimmed-rest.result.now c.label_words_length-words.result c.count_length.result
    c.sign_length-colon.result _ c.from_place-count.ensures
    (omega (arith, c.label_words_length-words.ensures.fits)) c.count_length.ensures.fits c.count_length.ensures.is c.from_place.ensures
    c.trimmed-rest.ensures.fits c.trimmed-rest.ensures.rest c.trimmed-rest.ensures.spacing c.sign_length-colon.ensures.fits
    (colon_ends (take c.sign_length-colon.result c.trimmed-rest.result.now) (c.sign_length-colon.ensures.is (omega arith))) refl

pub returns-clause-colon : goal.returns-clause-colon
returns-clause-colon c = λ some no_turns.
    colon_end c.args.line.now c.from_place-count.result.now c.from_place.result.now c.trimmed-rest.result.now c.label_words_length-words.result c.count_length.result
    c.sign_length-colon.result _ c.from_place-count.ensures (omega (arith, c.label_words_length-words.ensures.fits)) c.count_length.ensures.fits c.count_length.ensures.is
    c.from_place.ensures c.trimmed-rest.ensures.fits c.trimmed-rest.ensures.rest c.trimmed-rest.ensures.spacing c.sign_length-colon.ensures.fits
    c.label_words_length-words.ensures.words no_turns (c.sign_length-colon.ensures.is (omega arith)).0 refl
