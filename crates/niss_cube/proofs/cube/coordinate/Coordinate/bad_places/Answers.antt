use Rattle.std.specs.Int.RustNames.{count_ones}
use Rattle.niss_cube.proofs.Words.{sym, ap, ◌∙◌, Flip, Twist, Slice, List, ℕ, map_of, flips_home}
use Rattle.niss_cube.specs.BadPlaces.{turned_away}
use Rattle.niss_cube.proofs.BadPlaces.{flips_bad, twists_bad, slices_bad, ones_are, at_most_twelve}
use Rattle.niss_cube.proofs.cube.coordinate.Coordinate.bad_places.Goals as goal
use lib.Lanes.{mask_l}

pub returns-in-Flip-clause-mask : goal.returns-in-Flip-clause-mask
returns-in-Flip-clause-mask c =
    let cube = c.args.cube.now in
    rw c.in-Flip.is
    (c.mask_of_turned.ensures
    ∙ ap (λ (marks : List ℕ). mask_l (turned_away 2 cube.edges cube.flips marks)) c.flip_marks.ensures.marks
    ∙ ap mask_l (sym (flips_bad c.args.axis cube)))

pub returns-in-Flip-clause-bits : goal.returns-in-Flip-clause-bits
returns-in-Flip-clause-bits c =
    let cube = c.args.cube.now in
    rw c.in-Flip.is
    (ap count_ones
    (c.mask_of_turned.ensures
    ∙ ap (λ (marks : List ℕ). mask_l (turned_away 2 cube.edges cube.flips marks)) c.flip_marks.ensures.marks
    ∙ ap mask_l (sym (flips_bad c.args.axis cube)))
    ∙ ones_are Flip c.args.axis (map_of cube))

pub returns-in-Flip-clause-at_most : goal.returns-in-Flip-clause-at_most
returns-in-Flip-clause-at_most c = at_most_twelve c.args.self c.args.axis (map_of c.args.cube.now)

pub returns-in-Twist-clause-mask : goal.returns-in-Twist-clause-mask
returns-in-Twist-clause-mask c =
    let cube = c.args.cube.now in
    rw c.in-Twist.is
    (c.mask_of_turned-in-Twist.ensures
    ∙ ap (λ (marks : List ℕ). mask_l (turned_away 3 cube.corners cube.twists marks)) c.twist_marks.ensures.marks
    ∙ ap mask_l (sym (twists_bad c.args.axis cube)))

pub returns-in-Twist-clause-bits : goal.returns-in-Twist-clause-bits
returns-in-Twist-clause-bits c =
    let cube = c.args.cube.now in
    rw c.in-Twist.is
    (ap count_ones
    (c.mask_of_turned-in-Twist.ensures
    ∙ ap (λ (marks : List ℕ). mask_l (turned_away 3 cube.corners cube.twists marks)) c.twist_marks.ensures.marks
    ∙ ap mask_l (sym (twists_bad c.args.axis cube)))
    ∙ ones_are Twist c.args.axis (map_of cube))

pub returns-in-Twist-clause-at_most : goal.returns-in-Twist-clause-at_most
returns-in-Twist-clause-at_most c = at_most_twelve c.args.self c.args.axis (map_of c.args.cube.now)

pub returns-in-Slice-clause-mask : goal.returns-in-Slice-clause-mask
returns-in-Slice-clause-mask c =
    let cube = c.args.cube.now in
    rw c.in-Slice.is
    (c.mask_of_turned-in-Slice.ensures
    ∙ ap (λ (marks : List ℕ). mask_l (turned_away 3 cube.edges flips_home marks)) c.slice_marks.ensures.marks
    ∙ ap mask_l (sym (slices_bad c.args.axis cube)))

pub returns-in-Slice-clause-bits : goal.returns-in-Slice-clause-bits
returns-in-Slice-clause-bits c =
    let cube = c.args.cube.now in
    rw c.in-Slice.is
    (ap count_ones
    (c.mask_of_turned-in-Slice.ensures
    ∙ ap (λ (marks : List ℕ). mask_l (turned_away 3 cube.edges flips_home marks)) c.slice_marks.ensures.marks
    ∙ ap mask_l (sym (slices_bad c.args.axis cube)))
    ∙ ones_are Slice c.args.axis (map_of cube))

pub returns-in-Slice-clause-at_most : goal.returns-in-Slice-clause-at_most
returns-in-Slice-clause-at_most c = at_most_twelve c.args.self c.args.axis (map_of c.args.cube.now)
