use Rattle.niss_shell.proofs.shell.run.Goals as goal

pub returns : goal.returns
returns g c = record { runs = c.run_in.ensures.runs }
