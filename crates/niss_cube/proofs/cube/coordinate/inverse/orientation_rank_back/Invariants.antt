use Rattle.niss_cube.proofs.Words.{◌≡◌, ◌≤◌, ◌+◌, ◌*◌, ◌%◌, slice_index}
use Rattle.niss_cube.proofs.Sums.{below}
use Rattle.niss_cube.specs.Inverses.{counted_back}
use Rattle.niss_cube.proofs.cube.coordinate.inverse.orientation_rank_back.Given as goal

abbrev pub invariant-loop-place : goal.invariant-loop-place
invariant-loop-place g l = record {
  so_far : l.rank
      ≡ below l.place (λ place. counted_back g.row.FACELETS l.digits (slice_index l.homes (slice_index l.from place))
      ((slice_index l.turns (slice_index l.from place) + slice_index l.added place) % g.row.FACELETS) place);
  small : l.rank ≤ 2048 * l.place;
}
