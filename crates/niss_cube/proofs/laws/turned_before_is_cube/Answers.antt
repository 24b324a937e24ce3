use Rattle.niss_cube.proofs.CoordinateLaws.{turned_before_is_cube}
use Rattle.niss_cube.proofs.laws.turned_before_is_cube.Goals as goal

pub returns : goal.returns
returns c = turned_before_is_cube
