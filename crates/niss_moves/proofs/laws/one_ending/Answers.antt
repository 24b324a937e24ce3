use Rattle.niss_moves.proofs.Reading.{one_ending_of_two}
use Rattle.niss_moves.proofs.laws.one_ending.Goals as goal

pub returns : goal.returns
returns c = one_ending_of_two
