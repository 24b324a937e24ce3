use Rattle.niss_ways.proofs.SinkLemmas.{rows_more}
use Rattle.niss_ways.proofs.first_steps.FirstSteps.go_twice.Goals as goal

pub returns-clause-room : goal.returns-clause-room
returns-clause-room g c =
    rows_more c.args.self.now c.go_within-bound.new.self c.go_within-taken.new.self c.go_within-bound.ensures.room c.go_within-taken.ensures.room
