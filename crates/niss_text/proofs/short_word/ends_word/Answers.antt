use Rattle.std.proofs.Common.{sym}
use Rattle.niss_text.proofs.WordLemmas.{over_end, over_within}
use Rattle.niss_text.proofs.short_word.ends_word.Goals as goal

pub returns-then-at-text-clause-is : goal.returns-then-at-text-clause-is
returns-then-at-text-clause-is c = sym (over_end c.args.text.now c.args.at c.if-at-text.true)

pub returns-clause-is : goal.returns-clause-is
returns-clause-is c = sym (over_within c.args.text.now c.args.at c.if-at-text.false)
