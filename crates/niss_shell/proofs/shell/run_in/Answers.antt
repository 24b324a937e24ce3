use Rattle.niss_shell.proofs.Names.{◌≡◌, sym, ◌∙◌}
use Rattle.niss_shell.proofs.RunLemmas.{runs_flushed}
use Rattle.niss_shell.proofs.shell.run_in.Goals as goal

pub returns : goal.returns
returns g c =
    let back : c.out-1.given.0 ≡ c.finish-outcome.new.self.target.now =
    c.out-1.given.1 (sym (c.finish-outcome.ensures.same_target ∙ c.answer_command-answered.ensures.answers.delivered.same_target ∙ c.new-output.ensures.same_target)) in
    record {
      runs = rw (back, ← c.new-output.ensures.unchanged) (runs_flushed g.W.Target.call g.E.Target.call c.counts_and_bounds.ensures.within _ _ _ _ _ _ _ _
          c.new-output.ensures.empty c.answer_command-answered.ensures
          c.finish-outcome.ensures.flushes c.report.ensures.reports c.report.ensures.short c.report.ensures.status);
    }
