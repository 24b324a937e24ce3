use Rattle.niss_text.proofs.KeptLemmas.{number_words}
use Rattle.niss_text.proofs.heads.listed_length.Goals as goal

pub returns-then-is_parted-clause-words : goal.returns-then-is_parted-clause-words
returns-then-is_parted-clause-words c =
    number_words c.args.line.now c.from_place-number.result.now c.from_place-rest.result.now c.list_mark_length-mark.result c.digits_length-digits.result
    c.number_end_length-end.result c.list_mark_length-mark.ensures.words c.from_place-number.ensures c.digits_length-digits.ensures.fits
    c.digits_length-digits.ensures.digits c.from_place-rest.ensures c.number_end_length-end.ensures.begin
