use Rattle.niss_shell.proofs.Names.{arith, length, rules}
use Rattle.niss_shell.proofs.EngineLemmas.{none_below}
use Rattle.niss_shell.proofs.lines.line_length.Goals as goal

pub returns-in-Some-clause-inside : goal.returns-in-Some-clause-inside
returns-in-Some-clause-inside c = none_below c.args.bytes.now c.in-Some.length (search rules) (search rules)

pub returns-in-None-clause-inside : goal.returns-in-None-clause-inside
returns-in-None-clause-inside c = none_below c.args.bytes.now (length c.args.bytes.now) (omega arith) (search rules)
