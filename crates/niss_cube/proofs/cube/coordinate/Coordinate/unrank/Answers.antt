use Rattle.niss_cube.proofs.Words.{◌≡◌, ◌∙◌, refl, sym, subst, rank_of, standard_axis, flips_of_rank}
use Rattle.niss_cube.proofs.Words.{twists_of_rank}
use Rattle.niss_cube.proofs.CubieKinds.{CubieLists, Valid, map_lists}
use Rattle.niss_cube.proofs.Codes.{cubies_of, cubies_with, cubies_with-valid, cubies_with-code}
use Rattle.niss_cube.proofs.CoordinateLaws.{standard-code}
use Rattle.niss_cube.proofs.cube.coordinate.Coordinate.unrank.Goals.{in-Flip, in-Twist, in-Slice}
use Rattle.niss_cube.proofs.cube.coordinate.Coordinate.unrank.Goals as goal

written : (c : goal.Joined-self) → cubies_of c.match-self.twists c.match-self.edges c.match-self.flips ≡ cubies_with c.args.self c.args.rank
unfolding flips_of_rank twists_of_rank
written c = elim c.match-self.branch [
  | in-Flip w ↦ rw (w.in-Flip.is, w.twists-is, w.edges-is, w.flips-is, w.unrank_orientations.ensures) refl
  | in-Twist w ↦ rw (w.in-Twist.is, w.twists-is, w.edges-is, w.flips-is, w.unrank_orientations-in-Twist.ensures) refl
  | in-Slice w ↦ rw (w.in-Slice.is, w.twists-is, w.edges-is, w.flips-is, w.unrank_slice-edges.ensures) refl
]

pub invariant_of-result : goal.invariant_of-result
invariant_of-result c = record { are_cubies = subst Valid (sym (written c)) (cubies_with-valid c.args.self c.args.rank c.requires) }

pub returns : goal.returns
returns c =
    let k = c.args.self in
    let i = c.args.rank in
    let P : CubieLists → Type 0 = λ w. rank_of k (standard_axis k) (map_lists w) ≡ i in
    subst P (sym (written c.before)) (standard-code k (cubies_with k i) (cubies_with-valid k i c.requires) ∙ cubies_with-code k i c.requires)
