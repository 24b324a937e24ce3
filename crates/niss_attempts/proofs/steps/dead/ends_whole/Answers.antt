use Rattle.niss_attempts.proofs.DeadLemmas.{whole_line}
use Rattle.niss_attempts.proofs.steps.dead.ends_whole.Goals as goal

pub returns-in-Some : goal.returns-in-Some
returns-in-Some c feed = whole_line c.args.step.now c.in-Some.field-0-1.now c.in-Some.last.now c.in-Some.ensures.cases.0 feed
