use Rattle.niss_attempts.proofs.SetLemmas.{first_is, first_among}
use Rattle.niss_attempts.proofs.steps.sets.StepSet.first.Goals as goal

pub returns-clause-is : goal.returns-clause-is
returns-clause-is c = first_is c.args.self.number c.requires.0 c.requires.1

pub returns-clause-among : goal.returns-clause-among
returns-clause-among c steps within =
    rw (first_is c.args.self.number c.requires.0 c.requires.1) (first_among c.args.self.number steps c.requires.0 c.requires.1 within)
