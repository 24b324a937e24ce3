use Rattle.niss_attempts.proofs.SetLemmas.{last_is, last_few}
use Rattle.niss_attempts.proofs.steps.sets.StepSet.last.Goals as goal

pub returns-clause-is : goal.returns-clause-is
returns-clause-is c =
    last_is c.args.self.number c.ilog2.result c.requires.0 c.requires.1 c.ilog2.ensures.power_le c.ilog2.ensures.next_power_gt

pub returns-clause-few : goal.returns-clause-few
returns-clause-few c =
    rw (last_is c.args.self.number c.ilog2.result c.requires.0 c.requires.1 c.ilog2.ensures.power_le c.ilog2.ensures.next_power_gt)
    (last_few c.args.self.number c.requires.0 c.requires.1)
