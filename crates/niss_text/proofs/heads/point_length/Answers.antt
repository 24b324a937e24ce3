use Rattle.std.proofs.Common.{inl, inr, refl}
use Rattle.niss_text.proofs.KeptLemmas.{mark_begins, sign_begins}
use Rattle.niss_text.proofs.heads.point_length.Goals as goal

pub returns-then-point-gt0-clause-begin : goal.returns-then-point-gt0-clause-begin
returns-then-point-gt0-clause-begin c = mark_begins c.args.text.now c.mark_length-point.result 46 c.mark_length-point.ensures.is (inr (inr refl))

pub returns-then-bracket-gt0-clause-begin : goal.returns-then-bracket-gt0-clause-begin
returns-then-bracket-gt0-clause-begin c = mark_begins c.args.text.now c.mark_length-bracket.result 41 c.mark_length-bracket.ensures.is (inr (inl refl))

pub returns-clause-begin : goal.returns-clause-begin
returns-clause-begin c = sign_begins c.args.text.now c.sign_length.result (λ some. (c.sign_length.ensures.is some).1)
