use Rattle.niss_cube.proofs.BadPlaces.{bad_places_see_places}
use Rattle.niss_cube.proofs.laws.bad_places_see_places.Goals as goal

pub returns : goal.returns
returns c = bad_places_see_places
