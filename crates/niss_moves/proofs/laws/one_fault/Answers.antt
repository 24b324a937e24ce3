use Rattle.niss_moves.proofs.Reading.{one_fault}
use Rattle.niss_moves.proofs.laws.one_fault.Goals as goal

pub returns : goal.returns
returns c = one_fault
