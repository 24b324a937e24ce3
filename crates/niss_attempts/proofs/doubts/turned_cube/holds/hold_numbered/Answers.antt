use Rattle.std.proofs.Common.{arith}
use Rattle.std.proofs.lemmas.List.{get_or_default}
use Rattle.niss_attempts.specs.declared.doubts.turned_cube.holds.TheConstants.{HOLDS}
use Rattle.niss_attempts.proofs.HoldLemmas.{hold_brings}
use Rattle.niss_attempts.proofs.doubts.turned_cube.holds.hold_numbered.Goals as goal

pub returns-clause-is : goal.returns-clause-is
returns-clause-is c = get_or_default HOLDS c.args.number _ _ (omega (arith, c.requires))

pub returns-clause-brings : goal.returns-clause-brings
returns-clause-brings c = hold_brings c.args.number _ c.requires (get_or_default HOLDS c.args.number _ _ (omega (arith, c.requires)))
