use Rattle.niss_cube.proofs.Words.{◌≡◌, ◌<◌, ◌∙◌, sym, ap, arith, take, number, rank_places, Flip, Twist, Slice}
use Rattle.niss_cube.proofs.Ranks.{slice_occupied}
use Rattle.niss_cube.proofs.CubieKinds.{tabulated-is, lists_of}
use Rattle.niss_cube.proofs.Codes.{code, code-below}
use Rattle.niss_cube.proofs.CoordinateLaws.{standard-turned}
use Rattle.niss_cube.proofs.MovedCubies.{By, moved, moved-valid}
use Rattle.niss_cube.proofs.cube.coordinate.Coordinate.standard_rank_after.Goals.{After-turn_orientations-flips}
use Rattle.niss_cube.proofs.cube.coordinate.Coordinate.standard_rank_after.Goals.{After-turn_orientations-twists}
use Rattle.niss_cube.proofs.cube.coordinate.Coordinate.standard_rank_after.Goals as goal

flips-are : (c : After-turn_orientations-flips) →
    number 2 (take 11 c.turn_orientations-flips.result) ≡ code Flip (moved (By c.args.turn) (lists_of c.args.cube.now))
flips-are c =
    ap (λ xs. number 2 (take 11 xs))
    (tabulated-is 12 _ _ (omega (arith, c.turn_orientations-flips.type_inv))
    (rw c.cubie_turn-table.ensures.value at c.turn_orientations-flips.ensures))

twists-are : (c : After-turn_orientations-twists) →
    number 3 (take 7 c.turn_orientations-twists.result) ≡ code Twist (moved (By c.args.turn) (lists_of c.args.cube.now))
twists-are c =
    ap (λ xs. number 3 (take 7 xs))
    (tabulated-is 8 _ _ (omega (arith, c.turn_orientations-twists.type_inv))
    (rw c.cubie_turn-table.ensures.value at c.turn_orientations-twists.ensures))

pub rank_digits-requires-clause-fits : goal.rank_digits-requires-clause-fits
rank_digits-requires-clause-fits c =
    let m = moved (By c.args.turn) (lists_of c.args.cube.now) in
    let l : code Flip m < 2048 = code-below Flip m (moved-valid (By c.args.turn) (lists_of c.args.cube.now) c.args.cube.now.are_cubies) in
    omega (arith, l, flips-are (goal.at.rank_digits-requires-clause-fits c).After-turn_orientations-flips)

pub rank_digits-requires-in-Twist-clause-fits : goal.rank_digits-requires-in-Twist-clause-fits
rank_digits-requires-in-Twist-clause-fits c =
    let m = moved (By c.args.turn) (lists_of c.args.cube.now) in
    let l : code Twist m < 2187 = code-below Twist m (moved-valid (By c.args.turn) (lists_of c.args.cube.now) c.args.cube.now.are_cubies) in
    omega (arith, l, twists-are (goal.at.rank_digits-requires-in-Twist-clause-fits c).After-turn_orientations-twists)

pub returns-in-Flip : goal.returns-in-Flip
returns-in-Flip c = rw c.in-Flip.is (c.rank_digits.ensures
    ∙ flips-are (goal.at.returns-in-Flip c).After-turn_orientations-flips
    ∙ sym (standard-turned Flip c.args.turn (lists_of c.args.cube.now) c.args.cube.now.are_cubies))

pub returns-in-Twist : goal.returns-in-Twist
returns-in-Twist c = rw c.in-Twist.is (c.rank_digits-in-Twist.ensures
    ∙ twists-are (goal.at.returns-in-Twist c).After-turn_orientations-twists
    ∙ sym (standard-turned Twist c.args.turn (lists_of c.args.cube.now) c.args.cube.now.are_cubies))

pub returns-in-Slice : goal.returns-in-Slice
returns-in-Slice c = rw c.in-Slice.is (c.rank_slice.ensures
    ∙ ap (λ xs. rank_places (slice_occupied xs) 4)
    (tabulated-is 12 _ _ (omega (arith, c.turn_homes.type_inv)) (rw c.cubie_turn-table.ensures.value at c.turn_homes.ensures))
    ∙ sym (standard-turned Slice c.args.turn (lists_of c.args.cube.now) c.args.cube.now.are_cubies))
