use Rattle.niss_page.proofs.run_call.nissy_run.Goals as goal

pub returns-clause-runs : goal.returns-clause-runs
returns-clause-runs c = c.run_bytes-answer.ensures.runs
