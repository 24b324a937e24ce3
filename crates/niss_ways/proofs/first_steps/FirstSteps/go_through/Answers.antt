use Rattle.niss_ways.proofs.SinkLemmas.{sink_more}
use Rattle.niss_ways.proofs.first_steps.FirstSteps.go_through.Goals as goal

pub returns-in_err-search-2-clause-room : goal.returns-in_err-search-2-clause-room
returns-in_err-search-2-clause-room g c =
    sink_more c.args.self.now c.search.new.self c.search-2.new.self c.search.ensures.room c.search-2.ensures.room

pub returns-clause-room : goal.returns-clause-room
returns-clause-room g c =
    sink_more c.args.self.now c.search-2.new.self c.search-3.new.self
    (sink_more c.args.self.now c.search.new.self c.search-2.new.self c.search.ensures.room c.search-2.ensures.room) c.search-3.ensures.room
