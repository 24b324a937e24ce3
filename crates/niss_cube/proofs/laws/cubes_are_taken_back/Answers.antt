use Rattle.niss_cube.proofs.InverseRanks.{cubes_are_taken_back}
use Rattle.niss_cube.proofs.laws.cubes_are_taken_back.Goals as goal

pub returns : goal.returns
returns c = cubes_are_taken_back
