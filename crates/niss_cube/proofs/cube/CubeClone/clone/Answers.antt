use Rattle.niss_cube.proofs.Words.{refl}
use Rattle.niss_cube.proofs.cube.CubeClone.clone.Goals as goal

pub returns : goal.returns
returns c = refl
