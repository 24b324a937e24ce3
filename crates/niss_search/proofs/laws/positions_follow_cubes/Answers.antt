use Rattle.niss_search.proofs.LookLemmas.{positions_follow_cubes}
use Rattle.niss_search.proofs.laws.positions_follow_cubes.Goals as goal

pub returns : goal.returns
returns c = positions_follow_cubes c.are_coordinates.ensures c.turned_is_cube.ensures c.start_is_kept.ensures c.steps_see_places.ensures c.domino_keeps_start.ensures
