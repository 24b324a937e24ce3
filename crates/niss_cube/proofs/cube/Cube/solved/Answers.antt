use Rattle.niss_cube.proofs.Words.{Alike, Places, holds, refl}
use Rattle.niss_cube.proofs.CubieKinds.{map_lists}
use Rattle.niss_cube.proofs.Codes.{home, home-valid}
use Rattle.niss_cube.proofs.cube.Cube.solved.Goals as goal

pub invariant_of-result : goal.invariant_of-result
invariant_of-result c = record { are_cubies = home-valid }

pub returns : goal.returns
returns c = holds (Places λ q. Alike (map_lists home q) q) refl
