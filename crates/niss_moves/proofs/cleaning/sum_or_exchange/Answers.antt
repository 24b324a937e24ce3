use Rattle.niss_moves.proofs.Names.{◌∙◌, sym}
use Rattle.niss_moves.proofs.Cleaned.{cleaned_sum, cleaned_passed}
use Rattle.niss_moves.proofs.cleaning.sum_or_exchange.Goals as goal

pub returns-then-is-clause-cleaned : goal.returns-then-is-clause-cleaned
returns-then-is-clause-cleaned c = cleaned_sum c.pop.new.self.items _ _ c.in-Some.last c.args.turn c.requires.canonical c.in-Some.ensures.items (sym c.is.ensures ∙ c.if-is.true) c.push_sum.ensures.items

pub returns-else-is-clause-cleaned : goal.returns-else-is-clause-cleaned
returns-else-is-clause-cleaned c = cleaned_passed c.pop.new.self.items _ c.push_or_sum.new.turns.items _ c.in-Some.last c.args.turn c.requires.canonical c.in-Some.ensures.items (sym c.is.ensures ∙ c.if-is.false) c.requires.breaks c.push_or_sum.ensures.items c.push-else-is.ensures.items
