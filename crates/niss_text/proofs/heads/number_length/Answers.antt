use Rattle.std.proofs.Common.{inl, refl}
use Rattle.niss_text.proofs.KeptLemmas.{mark_begins, number_begins}
use Rattle.niss_text.proofs.heads.number_length.Goals as goal

pub returns-then-is_parted-clause-begin : goal.returns-then-is_parted-clause-begin
returns-then-is_parted-clause-begin c =
    number_begins c.args.line.now c.from_place-number.result.now c.from_place-rest.result.now c.mark_length-mark.result c.digits_length-digits.result
    c.number_end_length-end.result (mark_begins c.args.line.now c.mark_length-mark.result 35 c.mark_length-mark.ensures.is (inl refl)) c.from_place-number.ensures
    c.digits_length-digits.ensures.fits c.digits_length-digits.ensures.digits c.from_place-rest.ensures c.number_end_length-end.ensures.begin
