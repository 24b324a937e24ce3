-- The sets of sticker places that the coordinates depend on, and what a cube that keeps one does to them.
use Rattle.std.specs.Prelude.{Bool, ◌&&◌, ◌||◌, IsTrue, ◌↔◌, not, ◌≡◌}
use Rattle.std.specs.List.{list_all}
use Rattle.niss_moves.specs.Places.{along, looks_along, is_zero}
use Rattle.niss_cube.specs.Names.{Place, is_corner, is_edge, IsPlace, places, Axis, Ud, Rl, Coordinate, Flip, Twist}
use Rattle.niss_cube.specs.Names.{Slice, Cube}
use Rattle.niss_cube.specs.Map.{map_of}

-- the helper axis of the flips on an axis
abbrev pub helper_of : Axis → Axis
helper_of Ud = Rl
helper_of _ = Ud

-- corner places whose direction lies along the axis
abbrev pub twist_set : Axis → Place → Bool
twist_set a q = is_corner q && looks_along a q

-- edge places whose cell has 0 on the axis
abbrev pub slice_set : Axis → Place → Bool
slice_set a q = is_edge q && is_zero (along a q.cell)

-- edge places whose direction lies along the helper axis,
-- and those whose cell has 0 on the helper axis and whose direction lies along the axis
abbrev pub flip_set : Axis → Place → Bool
flip_set a q =
    is_edge q
    && (looks_along (helper_of a) q
    || (is_zero (along (helper_of a) q.cell) && looks_along a q))

-- A map of places brings each place of the set to one of the set. The map of a cube permutes the places, so it then
-- brings the set to itself: no other place comes into it.
abbrev pub Kept : (Place → Bool) → (Place → Place) → Type 0
Kept set e = (q : Place) → IsTrue (set q) → IsTrue (set (e q))

-- the same as a test over the 54 places
unfoldable pub is_kept : (Place → Bool) → (Place → Place) → Bool
is_kept set e = list_all (λ q. not (set q) || set (e q)) places

-- The set has sticker places only.
abbrev pub HasOnlyPlaces : (Place → Bool) → Type 0
HasOnlyPlaces set = (q : Place) → IsTrue (set q) → IsPlace q

-- The test says whether a set is kept, for each set of the 54 places.
abbrev pub KeptIsTested : Type 0
KeptIsTested =
    (set : Place → Bool) (e : Place → Place) → HasOnlyPlaces set → IsTrue (is_kept set e) ↔ Kept set e

-- the set of a coordinate: the places that are kept if it is 0
abbrev pub set_of : Coordinate → Axis → Place → Bool
set_of Flip = flip_set
set_of Twist = twist_set
set_of Slice = slice_set

-- The sets of the coordinates have sticker places only, so that the test decides them.
abbrev pub SetsArePlaces : Type 0
SetsArePlaces = (k : Coordinate) (a : Axis) → HasOnlyPlaces (set_of k a)

-- A map brings places to places, no two to the same one, and to each place.
pub record PermutesPlaces (e : Place → Place) : Type 0 where
  pub to_places : (q : Place) → IsPlace q → IsPlace (e q)
  pub one_to_one : (p q : Place) → IsPlace p → IsPlace q → e p ≡ e q → p ≡ q
  pub onto : (q : Place) → IsPlace q → (p : Place) × IsPlace p × (e p ≡ q)

abbrev pub CubesPermutePlaces : Type 0
CubesPermutePlaces = (c : Cube) → PermutesPlaces (map_of c)

-- If a cube's map keeps a set of places, it brings no other place to one of the set: the set is brought to itself.
abbrev pub KeptIsEqual : Type 0
KeptIsEqual =
    (c : Cube) (set : Place → Bool) → Kept set (map_of c) →
    (q : Place) → IsPlace q → IsTrue (set (map_of c q)) → IsTrue (set q)
