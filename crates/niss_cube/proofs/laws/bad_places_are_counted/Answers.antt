use Rattle.niss_cube.proofs.BadPlaces.{bad_places_are_counted}
use Rattle.niss_cube.proofs.laws.bad_places_are_counted.Goals as goal

pub returns : goal.returns
returns c = bad_places_are_counted
