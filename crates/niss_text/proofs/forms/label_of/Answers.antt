use Rattle.std.proofs.Common.{subst, take}
use Rattle.niss_text.specs.Titles.{IsTitle}
use Rattle.niss_text.proofs.forms.label_of.Goals as goal

pub returns-clause-title : goal.returns-clause-title
returns-clause-title c =
    subst (λ v. IsTitle (take c.words_before_colon-words.result.0 c.args.line.now) v) c.from_place.ensures (c.is_step.ensures c.if-is_step.false)
