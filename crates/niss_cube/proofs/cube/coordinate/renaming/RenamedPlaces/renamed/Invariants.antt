use Rattle.niss_cube.proofs.Words.{◌≡◌, ◌<◌, length, slice_index, ℕ, renamed_home, renamed_orientation}
use Rattle.niss_cube.proofs.cube.coordinate.renaming.RenamedPlaces.renamed.Given as goal

abbrev pub invariant-loop-place : goal.invariant-loop-place
invariant-loop-place g l = record {
  homes_len : length l.new_homes ≡ g.row.PLACES;
  orientations_len : length l.new_orientations ≡ g.row.PLACES;
  homes : (i : ℕ) → i < l.place → slice_index l.new_homes i ≡ renamed_home l.self.from l.self.to l.homes i;
  orientations : (i : ℕ) → i < l.place → slice_index l.new_orientations i ≡ renamed_orientation g.row.FACELETS l.self.from l.self.inward l.homes l.orientations i;
}
