use Rattle.std.proofs.Common.{◌∙◌}
use Rattle.niss_ways.proofs.SinkLemmas.{sink_more}
use Rattle.niss_ways.proofs.first_steps.FirstSteps.take_after_all.Goals as goal

pub returns-in_err-next-clause-room : goal.returns-in_err-next-clause-room
returns-in_err-next-clause-room g c =
    sink_more c.args.self.now c.loop-axis.self c.take_after.new.self c.loop-axis.invariant.room c.take_after.ensures.room

pub loop-axis-preserved : goal.loop-axis-preserved
loop-axis-preserved g c = record {
  most = c.take_after.ensures.most ∙ c.loop-axis.invariant.most;
  room = sink_more c.args.self.now c.loop-axis.self c.take_after.new.self c.loop-axis.invariant.room c.take_after.ensures.room;
}
