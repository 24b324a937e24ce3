use Rattle.niss_cube.proofs.Words.{◌∙◌, Flip, Twist, Slice, turned, map_of}
use Rattle.niss_cube.proofs.CubieKinds.{lists_of, Valid, Corners, Edges}
use Rattle.niss_cube.proofs.MovedCubies.{By, moved, moved-valid, moved-map}
use Rattle.niss_cube.proofs.InverseRanks.{inverse_rank, counted_after, sum_below, twists-back, flips-back, slice-four, four-below}
use Rattle.niss_cube.specs.Inverses.{twist_digits, flip_digits}
use Rattle.niss_cube.proofs.cube.coordinate.Coordinate.inverse_rank_after.Goals as goal

pub slice_rank_back-requires-clause-mask : goal.slice_rank_back-requires-clause-mask
slice_rank_back-requires-clause-mask c =
    let cube = c.args.cube.now in
    let t = c.args.turn in
    let four = slice-four c.args.axis t (lists_of cube) cube.are_cubies in
    rw (c.slice_places.ensures.value, c.cubie_turn-table.ensures.value) (four-below _ _ four)

pub returns-in-Flip : goal.returns-in-Flip
returns-in-Flip c =
    let cube = c.args.cube.now in
    let t = c.args.turn in
    let v : Valid (lists_of cube) = cube.are_cubies in
    let is = rw (c.flip_digits.ensures.value, c.cubie_turn-table.ensures.value) at c.orientation_rank_back.ensures in
    rw c.in-Flip.is (inverse_rank Flip c.args.axis (λ q. turned t (map_of cube q)) (moved (By t) (lists_of cube)) (moved-valid (By t) (lists_of cube) v) (moved-map (By t) (lists_of cube) v)
    c.orientation_rank_back.result (is ∙ sum_below 12 (counted_after Edges (flip_digits c.args.axis) t (lists_of cube)) ∙ flips-back c.args.axis t (lists_of cube) v))

pub returns-in-Twist : goal.returns-in-Twist
returns-in-Twist c =
    let cube = c.args.cube.now in
    let t = c.args.turn in
    let v : Valid (lists_of cube) = cube.are_cubies in
    let is = rw (c.twist_digits.ensures.value, c.cubie_turn-table.ensures.value) at c.orientation_rank_back-in-Twist.ensures in
    rw c.in-Twist.is (inverse_rank Twist c.args.axis (λ q. turned t (map_of cube q)) (moved (By t) (lists_of cube)) (moved-valid (By t) (lists_of cube) v) (moved-map (By t) (lists_of cube) v)
    c.orientation_rank_back-in-Twist.result (is ∙ sum_below 8 (counted_after Corners (twist_digits c.args.axis) t (lists_of cube)) ∙ twists-back c.args.axis t (lists_of cube) v))

pub returns-in-Slice : goal.returns-in-Slice
returns-in-Slice c =
    let cube = c.args.cube.now in
    let t = c.args.turn in
    let v : Valid (lists_of cube) = cube.are_cubies in
    let is = rw (c.slice_places.ensures.value, c.cubie_turn-table.ensures.value) at c.slice_rank_back.ensures in
    rw c.in-Slice.is (inverse_rank Slice c.args.axis (λ q. turned t (map_of cube q)) (moved (By t) (lists_of cube)) (moved-valid (By t) (lists_of cube) v) (moved-map (By t) (lists_of cube) v)
    c.slice_rank_back.result (is _ (slice-four c.args.axis t (lists_of cube) v)))
