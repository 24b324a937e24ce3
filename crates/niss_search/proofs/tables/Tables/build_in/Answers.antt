use Rattle.niss_search.proofs.Words.{arith}
use Rattle.niss_search.proofs.FillLemmas.{ticks_at_most}
use Rattle.niss_search.proofs.tables.Tables.build_in.Goals as goal

pub returns-clause-ticks : goal.returns-clause-ticks
returns-clause-ticks g c = c.in_ok-kind.ensures.1

pub returns-clause-at_most : goal.returns-clause-at_most
returns-clause-at_most g c = omega (arith, c.in_ok-kind.ensures.1, ticks_at_most c.args.step)
