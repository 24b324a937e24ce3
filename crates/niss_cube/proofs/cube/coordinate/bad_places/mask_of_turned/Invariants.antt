use Rattle.niss_cube.proofs.Words.{◌≡◌, ◌≤◌, drop}
use Rattle.niss_cube.specs.BadPlaces.{turned_away}
use Rattle.niss_cube.proofs.cube.coordinate.bad_places.mask_of_turned.Given as goal
use lib.Lanes.{mask_l}

abbrev pub invariant-loop-place : goal.invariant-loop-place
invariant-loop-place g l = record {
  within : l.place ≤ g.row.PLACES;
  bits : l.mask ≡ mask_l (drop l.place (turned_away g.row.FACELETS l.homes l.turns l.marks));
}

abbrev pub decreases-loop-place : goal.decreases-loop-place
decreases-loop-place g l = l.place
