-- Facts on the public definitions that the crates above cite, and the laws for the functions that state them. Of this crate's
-- proofs the crates above name this file alone.
use Rattle.niss_cube.proofs.CoordinateLaws.{are_coordinates}
use Rattle.niss_cube.proofs.CubieKinds.{cubes_permute_places}
use Rattle.niss_cube.proofs.Codes.{kept_is_tested, sets_are_places}
use Rattle.niss_cube.proofs.BadPieces.{bad_pieces_are_counted, bad_edges_are_even, no_corner_alone, goals_by_bad_pieces}
use Rattle.niss_cube.proofs.BadPlaces.{bad_places_are_counted, bad_places_see_places}
use Rattle.niss_cube.proofs.InverseRanks.{cubes_are_taken_back}
use Rattle.niss_cube.proofs.Leaving.{inverse_is_as_bad, bad_pieces_see_places}
use Rattle.niss_cube.proofs.Shown.{home_is_tested, home_sees_places}
use Rattle.niss_cube.proofs.StepLemmas.{reached_steps_see_places}
use Rattle.niss_cube.proofs.StepLemmas.{start_is_kept, start_is_kept_before, inverse_has_steps, steps_see_places, other_turns_leave_start, inverses_of_steps}
use Rattle.niss_cube.proofs.IdleTurns.{idle_turns_leave_steps}
use Rattle.niss_cube.proofs.StepLemmas.{step_turns_in_order, step_turns_are_counted, domino_keeps_start}
-- maps of cubes
pub use Rattle.niss_cube.proofs.CoordinateLaws.{cube-itself, alike_is_cube}
-- a number that is 0 where a set is kept
pub use Rattle.niss_cube.proofs.Codes.{zero_test}
-- how many turns a step has, and that its name is its own
pub use Rattle.niss_cube.proofs.StepLemmas.{turns_of-length, turns_of-oriented, names_differ}

pub ruleset laws = (cubes_permute_places, cubes_are_taken_back, are_coordinates, kept_is_tested, sets_are_places, start_is_kept, start_is_kept_before, inverse_has_steps, other_turns_leave_start, steps_see_places, idle_turns_leave_steps, inverses_of_steps, step_turns_in_order, step_turns_are_counted, domino_keeps_start, names_differ, inverse_is_as_bad, bad_pieces_are_counted, bad_edges_are_even, no_corner_alone, bad_pieces_see_places, goals_by_bad_pieces, bad_places_are_counted, bad_places_see_places, home_is_tested, home_sees_places, reached_steps_see_places)
