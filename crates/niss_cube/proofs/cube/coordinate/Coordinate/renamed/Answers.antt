use Rattle.niss_cube.proofs.Words.{◌≡◌, ◌∙◌, Option, Some, None, Renaming, SameMap, map_of, renamed_if, renaming_for, refl, sym, subst}
use Rattle.niss_cube.proofs.cube.coordinate.Coordinate.renamed.Goals as goal

pub returns-in-Some : goal.returns-in-Some
returns-in-Some c =
    let cube = c.args.cube.now in
    let is : renaming_for c.args.self c.args.axis ≡ Some c.in-Some.renaming = sym c.renaming.ensures ∙ c.in-Some.is in
    let P : Option Renaming → Type 0 = λ r. SameMap (map_of c.renamed.result) (renamed_if r (map_of cube)) in
    subst P (sym is) c.renamed.ensures

pub returns-in-None : goal.returns-in-None
returns-in-None c =
    let cube = c.args.cube.now in
    let is : renaming_for c.args.self c.args.axis ≡ None = sym c.renaming.ensures ∙ c.in-None.is in
    let P : Option Renaming → Type 0 = λ r. SameMap (map_of cube) (renamed_if r (map_of cube)) in
    subst P (sym is) (λ q p. refl)
