use Rattle.niss_cube.proofs.Words.{◌<◌, ◌∙◌, sym, arith, take, number, Flip, Twist, Slice}
use Rattle.niss_cube.proofs.Codes.{code-below}
use Rattle.niss_cube.proofs.CubieKinds.{lists_of}
use Rattle.niss_cube.proofs.CoordinateLaws.{standard-code}
use Rattle.niss_cube.proofs.cube.coordinate.Coordinate.standard_rank.Goals as goal

pub rank_digits-requires-clause-fits : goal.rank_digits-requires-clause-fits
rank_digits-requires-clause-fits c =
    let l : number 2 (take 11 c.args.cube.now.flips) < 2048 = code-below Flip (lists_of c.args.cube.now) c.args.cube.now.are_cubies in
    omega arith

pub returns-in-Flip : goal.returns-in-Flip
returns-in-Flip c = rw c.in-Flip.is (c.rank_digits.ensures ∙ sym (standard-code Flip (lists_of c.args.cube.now) c.args.cube.now.are_cubies))

pub returns-in-Twist : goal.returns-in-Twist
returns-in-Twist c = rw c.in-Twist.is (c.rank_digits-in-Twist.ensures ∙ sym (standard-code Twist (lists_of c.args.cube.now) c.args.cube.now.are_cubies))

pub returns-in-Slice : goal.returns-in-Slice
returns-in-Slice c = rw c.in-Slice.is (c.rank_slice.ensures ∙ sym (standard-code Slice (lists_of c.args.cube.now) c.args.cube.now.are_cubies))
