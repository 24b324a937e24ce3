use Rattle.niss_cube.proofs.BadPieces.{bad_pieces_are_counted}
use Rattle.niss_cube.proofs.laws.bad_pieces_are_counted.Goals as goal

pub returns : goal.returns
returns c = bad_pieces_are_counted
