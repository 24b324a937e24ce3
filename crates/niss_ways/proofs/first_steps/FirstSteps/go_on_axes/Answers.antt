use Rattle.std.proofs.Common.{◌∙◌}
use Rattle.niss_ways.proofs.SinkLemmas.{sink_more}
use Rattle.niss_ways.proofs.first_steps.FirstSteps.go_on_axes.Goals as goal

pub returns-in_err-go_on_axis-clause-room : goal.returns-in_err-go_on_axis-clause-room
returns-in_err-go_on_axis-clause-room g c =
    sink_more c.args.self.now c.loop-axis.self c.go_on_axis.new.self c.loop-axis.invariant.room c.go_on_axis.ensures.room

pub loop-axis-preserved : goal.loop-axis-preserved
loop-axis-preserved g c = record {
  most = c.go_on_axis.ensures.most ∙ c.loop-axis.invariant.most;
  room = sink_more c.args.self.now c.loop-axis.self c.go_on_axis.new.self c.loop-axis.invariant.room c.go_on_axis.ensures.room;
}
