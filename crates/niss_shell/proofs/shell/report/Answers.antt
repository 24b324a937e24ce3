use Rattle.niss_shell.proofs.RunLemmas.{nothing_reported}
use Rattle.niss_shell.proofs.shell.report.Goals as goal

pub returns-in_default-clause-reports : goal.returns-in_default-clause-reports
returns-in_default-clause-reports g c = rw c.in_default.is (nothing_reported g.E.Target.call c.args.err.now)
