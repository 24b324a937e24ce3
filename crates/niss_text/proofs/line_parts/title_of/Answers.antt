use Rattle.niss_text.proofs.CommentLemmas.{plain_colon}
use Rattle.niss_text.proofs.line_parts.title_of.Goals as goal

pub returns-in-Some-clause-plain : goal.returns-in-Some-clause-plain
returns-in-Some-clause-plain c = λ plain.
    absurd (plain_colon c.args.line.now c.in-Some.label.length c.in-Some.ensures.fits plain c.in-Some.ensures.colon)
