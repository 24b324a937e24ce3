use Rattle.niss_shell.proofs.OutputLemmas.{line_taken, line_refused}
use Rattle.niss_shell.proofs.output.OutputSink.take.Goals as goal

pub returns-clause-ok : goal.returns-clause-ok
returns-clause-ok g c =
    line_taken g.W.Target.call _ c.args.self.now c.write.new.self c.set_solution.ensures c.write.ensures.empty c.write.ensures.written

pub returns-clause-err : goal.returns-clause-err
returns-clause-err g c =
    line_refused g.W.Target.call _ c.args.self.now c.write.new.self c.set_solution.ensures c.write.ensures.empty c.write.ensures.written
