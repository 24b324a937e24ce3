use Rattle.niss_cube.proofs.CubieKinds.{kept_is_equal}
use Rattle.niss_cube.proofs.laws.kept_is_equal.Goals as goal

pub returns : goal.returns
returns c = kept_is_equal
