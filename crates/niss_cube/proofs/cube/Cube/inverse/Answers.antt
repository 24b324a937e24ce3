use Rattle.niss_cube.proofs.Words.{arith, ap, ◌∙◌, ◌-◌, ◌%◌, get_or}
use Rattle.niss_cube.proofs.CubieKinds.{lists_of, CubieLists, tabulated-is}
use Rattle.niss_cube.proofs.InverseCubies.{Back, inverse_made}
use Rattle.niss_cube.proofs.cube.Cube.inverse.Goals.{After-turned_back-2}
use Rattle.niss_cube.proofs.cube.Cube.inverse.Goals as goal

abbrev written : After-turned_back-2 → CubieLists
written c = record {
  corners = c.places_of-corners.result;
  twists = c.turned_back.result;
  edges = c.places_of-edges.result;
  flips = c.turned_back-2.result;
}

inverse-is : (c : After-turned_back-2) → Back (lists_of c.args.self.now) (written c)
inverse-is c =
    let cube = c.args.self.now in
    inverse_made (lists_of cube) (written c) cube.are_cubies
    (tabulated-is 8 _ _ (omega (arith, c.places_of-corners.type_inv)) c.places_of-corners.ensures.value)
    (tabulated-is 8 _ _ (omega (arith, c.turned_back.type_inv)) (λ h lh.
    c.turned_back.ensures h lh ∙ ap (λ p. (3 - get_or cube.twists p 0) % 3) (c.places_of-corners.ensures.value h (omega (arith, lh, c.turned_back.type_inv, c.places_of-corners.type_inv)))))
    (tabulated-is 12 _ _ (omega (arith, c.places_of-edges.type_inv)) c.places_of-edges.ensures.value)
    (tabulated-is 12 _ _ (omega (arith, c.turned_back-2.type_inv)) (λ h lh.
    c.turned_back-2.ensures h lh ∙ ap (λ p. (2 - get_or cube.flips p 0) % 2) (c.places_of-edges.ensures.value h (omega (arith, lh, c.turned_back-2.type_inv, c.places_of-edges.type_inv)))))

pub invariant_of-result : goal.invariant_of-result
invariant_of-result c = record { are_cubies = (inverse-is (goal.at.invariant_of-result c).After-turned_back-2).0 }

pub returns : goal.returns
returns c = (inverse-is (goal.at.returns c).After-turned_back-2).1

pub turned_back-requires : goal.turned_back-requires
turned_back-requires c =
    let cube = c.args.self.now in (
      omega arith,
      (
        omega arith,
        (
          omega arith,
          (
            c.places_of-corners.ensures.in_range,
            λ k lk. cube.are_cubies.twists_oriented.range k (omega (arith, lk, cube.are_cubies.twists_oriented.places)),
          ),
        ),
      ),
    )

pub turned_back-requires-2 : goal.turned_back-requires-2
turned_back-requires-2 c =
    let cube = c.args.self.now in (
      omega arith,
      (
        omega arith,
        (
          omega arith,
          (
            c.places_of-edges.ensures.in_range,
            λ k lk. cube.are_cubies.flips_oriented.range k (omega (arith, lk, cube.are_cubies.flips_oriented.places)),
          ),
        ),
      ),
    )
