use Rattle.niss_shell.proofs.Names.{refl, err_from_is_err_and}
use Rattle.niss_shell.proofs.output.Output.finish.Goals as goal

pub returns-in_err-answered-clause-flushes : goal.returns-in_err-answered-clause-flushes
returns-in_err-answered-clause-flushes g c =
    let p = err_from_is_err_and c.from_residual.result c.from_residual.ensures.1 in
    record { flushed = c.flush-flushed.result; made = c.flush-flushed.ensures.made; outcome_is = rw (p.1, p.2, c.in_err-answered.was) refl }

pub returns-in_err-flushed-clause-flushes : goal.returns-in_err-flushed-clause-flushes
returns-in_err-flushed-clause-flushes g c =
    let p = err_from_is_err_and c.from_residual-in_err-flushed.result c.from_residual-in_err-flushed.ensures.1 in
    record {
      flushed = c.flush-flushed.result;
      made = c.flush-flushed.ensures.made;
      outcome_is = rw (p.1, p.2, c.in_ok-answered.was, c.in_err-flushed.was) refl;
    }

pub returns-clause-flushes : goal.returns-clause-flushes
returns-clause-flushes g c = record {
  flushed = c.flush-flushed.result;
  made = c.flush-flushed.ensures.made;
  outcome_is = rw (c.in_ok-answered.was, c.in_ok-flushed.was) refl;
}
