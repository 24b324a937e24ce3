-- The 54 sticker places of the cube, by geometry: x to the right, y up, z towards the viewer.
use Rattle.std.specs.Prelude.{◌≡◌, Bool, true, false, not, ◌&&◌, ◌||◌, IsTrue}
use Rattle.niss_moves.specs.Names.{Axis, Ud, Rl, Fb}

-- a coordinate of a cell, or of a direction: -1, 0 or 1
pub data Coord : Type 0 where
  Neg : Coord
  Zero : Coord
  Pos : Coord

abbrev pub negated : Coord → Coord
negated Neg = Pos
negated Zero = Zero
negated Pos = Neg

abbrev pub is_negative : Coord → Bool
is_negative Neg = true
is_negative _ = false

abbrev pub is_zero : Coord → Bool
is_zero Zero = true
is_zero _ = false

abbrev pub is_positive : Coord → Bool
is_positive Pos = true
is_positive _ = false

abbrev pub same_coord : Coord → Coord → Bool
same_coord Neg Neg = true
same_coord Zero Zero = true
same_coord Pos Pos = true
same_coord _ _ = false

pub record Vector : Type 0 where
  pub x : Coord
  pub y : Coord
  pub z : Coord

abbrev pub vector : Coord → Coord → Coord → Vector
vector x y z = record { x = x; y = y; z = z }

abbrev pub same_vector : Vector → Vector → Bool
same_vector v w = same_coord v.x w.x && same_coord v.y w.y && same_coord v.z w.z

-- a cell of the cube, and a direction
pub record Place : Type 0 where
  pub cell : Vector
  pub direction : Vector

abbrev pub same_place : Place → Place → Bool
same_place p q = same_vector p.cell q.cell && same_vector p.direction q.direction

-- the coordinate along an axis
abbrev pub along : Axis → Vector → Coord
along Rl v = v.x
along Ud v = v.y
along Fb v = v.z

-- a direction is a unit along an axis
abbrev pub is_direction : Vector → Bool
is_direction d =
    (not (is_zero d.x) && is_zero d.y && is_zero d.z)
    || (is_zero d.x && not (is_zero d.y) && is_zero d.z)
    || (is_zero d.x && is_zero d.y && not (is_zero d.z))

-- The cell lies on that side of the axis to which the direction points.
abbrev pub looks_along : Axis → Place → Bool
looks_along axis q =
    not (is_zero (along axis q.direction)) && same_coord (along axis q.cell) (along axis q.direction)

-- a cell with a direction that points out of the cube there
abbrev pub is_place : Place → Bool
is_place q = is_direction q.direction && (looks_along Rl q || looks_along Ud q || looks_along Fb q)

abbrev pub IsPlace : Place → Type 0
IsPlace q = IsTrue (is_place q)

-- a place of a corner: the cell has no 0
abbrev pub is_corner : Place → Bool
is_corner q = is_place q && not (is_zero q.cell.x) && not (is_zero q.cell.y) && not (is_zero q.cell.z)

-- a place of an edge: the cell has one 0
abbrev pub is_edge : Place → Bool
is_edge q =
    is_place q
    && ((is_zero q.cell.x && not (is_zero q.cell.y) && not (is_zero q.cell.z))
    || (not (is_zero q.cell.x) && is_zero q.cell.y && not (is_zero q.cell.z))
    || (not (is_zero q.cell.x) && not (is_zero q.cell.y) && is_zero q.cell.z))

-- Two maps are the same on the 54 places.
abbrev pub SameMap : (Place → Place) → (Place → Place) → Type 0
SameMap d e = (q : Place) → IsPlace q → d q ≡ e q
