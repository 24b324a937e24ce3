use Rattle.niss_search.proofs.tables.Tables.build.Goals as goal

pub returns-clause-step : goal.returns-clause-step
returns-clause-step c = c.build_in.ensures.step

pub returns-clause-ticks : goal.returns-clause-ticks
returns-clause-ticks c = c.build_in.ensures.ticks

pub returns-clause-at_most : goal.returns-clause-at_most
returns-clause-at_most c = c.build_in.ensures.at_most
