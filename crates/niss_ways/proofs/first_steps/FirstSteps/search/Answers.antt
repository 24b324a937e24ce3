use Rattle.niss_ways.specs.Sinks.{Keeps}
use Rattle.niss_ways.proofs.RoomLemmas.{by_search}
use Rattle.niss_ways.proofs.SinkLemmas.{sink_none, sink_more}
use Rattle.niss_ways.proofs.first_steps.FirstSteps.search.Goals as goal

pub returns-in-Ok-clause-room : goal.returns-in-Ok-clause-room
returns-in-Ok-clause-room g c =
    by_search c.args.self.now c.search.new.sink Keeps sink_none sink_more _ _ _ _ _ _ _ _ c.search.ensures.solutions

pub returns-in-Err-clause-room : goal.returns-in-Err-clause-room
returns-in-Err-clause-room g c =
    by_search c.args.self.now c.search.new.sink Keeps sink_none sink_more _ _ _ _ _ _ _ _ c.search.ensures.solutions
