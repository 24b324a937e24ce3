use Rattle.std.specs.Prelude.{◌↔◌}
use Rattle.std.specs.Int.RustNames.{count_ones}
use Rattle.niss_cube.specs.BadPlaces.{bad_count}
use Rattle.niss_cube.specs.Sets.{Kept, set_of}
use Rattle.niss_cube.specs.declared.cube.Cube.{Cube}
use Rattle.niss_cube.specs.declared.cube.coordinate.Coordinate.{Coordinate}
use Rattle.niss_cube.proofs.Words.{◌≡◌, sym, subst, ℕ, Axis, map_of, eqb-true, eq-eqb}
use Rattle.niss_cube.proofs.BadPlaces.{none_bad}
use Rattle.niss_cube.proofs.Codes.{zero_test}
use Rattle.niss_cube.proofs.cube.coordinate.Coordinate.is_zero.Goals as goal

-- a number of bad places is 0 exactly if the set is kept
zero_count : (k : Coordinate) (a : Axis) (c : Cube) (n : ℕ) → n ≡ bad_count k a (map_of c) → (n ≡ 0) ↔ Kept (set_of k a) (map_of c)
zero_count k a c n e = subst (λ (m : ℕ). (m ≡ 0) ↔ Kept (set_of k a) (map_of c)) (sym e) (none_bad k a c)

pub returns-clause-value : goal.returns-clause-value
returns-clause-value c =
    zero_test c.args.self c.args.axis (map_of c.args.cube.now) (count_ones c.bad_places.result)
    (zero_count c.args.self c.args.axis c.args.cube.now (count_ones c.bad_places.result) c.bad_places.ensures.bits)

pub returns-clause-kept : goal.returns-clause-kept
returns-clause-kept c =
    let none = zero_count c.args.self c.args.axis c.args.cube.now (count_ones c.bad_places.result) c.bad_places.ensures.bits in
    (λ h. none.0 (eqb-true _ 0 h), λ k. eq-eqb _ 0 (none.1 k))
