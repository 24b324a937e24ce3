use Rattle.niss_cube.proofs.Words.{◌≡◌, ◌↔◌, Bool, true, SameMap, map_of, sym, subst}
use Rattle.niss_cube.proofs.Shown.{equal_cubes}
use Rattle.niss_cube.proofs.cube.CubePartialEq.eq.Goals as goal

pub returns-clause-value : goal.returns-clause-value
returns-clause-value c = c.has_same_cubies.ensures

pub returns-clause-map : goal.returns-clause-map
returns-clause-map c =
    let cube = c.args.self.now in
    let other = c.args.other.now in
    let P : Bool → Type 0 = λ b. (b ≡ true) ↔ SameMap (map_of cube) (map_of other) in
    subst P (sym c.has_same_cubies.ensures) (equal_cubes cube other)
