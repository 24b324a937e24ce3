use Rattle.niss_moves.proofs.Reading.{one_reading}
use Rattle.niss_moves.proofs.laws.one_reading.Goals as goal

pub returns : goal.returns
returns c = one_reading
