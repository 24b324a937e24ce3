use Rattle.niss_ways.proofs.SinkLemmas.{sink_more}
use Rattle.niss_ways.proofs.first_steps.FirstSteps.take_after.Goals as goal

pub returns-in_err-second-clause-room : goal.returns-in_err-second-clause-room
returns-in_err-second-clause-room g c =
    sink_more c.args.self.now c.take_reductions.new.self c.take_reductions-2.new.self c.take_reductions.ensures.room c.take_reductions-2.ensures.room

pub returns-clause-room : goal.returns-clause-room
returns-clause-room g c =
    sink_more c.args.self.now c.take_reductions.new.self c.take_reductions-2.new.self c.take_reductions.ensures.room c.take_reductions-2.ensures.room
