use Rattle.std.proofs.Common.{◌∙◌}
use Rattle.niss_ways.proofs.SinkLemmas.{sink_more}
use Rattle.niss_ways.proofs.first_steps.FirstSteps.go.Goals as goal

pub returns-in_err-go_through-clause-room : goal.returns-in_err-go_through-clause-room
returns-in_err-go_through-clause-room g c =
    sink_more c.args.self.now c.loop-length.self c.go_through.new.self c.loop-length.invariant.room c.go_through.ensures.room

pub loop-length-preserved : goal.loop-length-preserved
loop-length-preserved g c = record {
  most = c.go_through.ensures.most ∙ c.loop-length.invariant.most;
  room = sink_more c.args.self.now c.loop-length.self c.go_through.new.self c.loop-length.invariant.room c.go_through.ensures.room;
}
