-- Turns of the faces, and rotations by which a cube is renamed before a coordinate is read, by their tables.
use Rattle.std.specs.Prelude.{◌<◌, [], get_or, EachIndex, slice_index, ℕ, ◌+◌, ◌-◌, ◌%◌, List, Option, None, Some}
use Rattle.niss_moves.specs.Indices.{face_index, power_index}
use Rattle.niss_cube.specs.Names.{Face, Power, Place, Axis, Rl, Ud, Fb, Quarter, Counter, Renaming, XCounter, XQuarter}
use Rattle.niss_cube.specs.Names.{YQuarter, ZCounter}
use Rattle.niss_cube.specs.declared.cubie_turns.CubieTurn.{CubieTurn}
use Rattle.niss_cube.specs.declared.cubie_turns.TheConstants.{CUBIE_TURNS}
use Rattle.niss_moves.specs.Effects.{quarters}
use Rattle.niss_moves.specs.Rotations.{face_before_power}
use Rattle.niss_cube.specs.declared.cube.coordinate.renaming.RenamingTable.{RenamingTable}
use Rattle.niss_cube.specs.declared.cube.coordinate.renaming.TheConstants.{X_COUNTER, X_QUARTER, Y_QUARTER, Z_COUNTER}

abbrev pub turn_table : Face → Power → CubieTurn
turn_table f p = get_or (get_or CUBIE_TURNS (face_index f) []) (power_index p) record { corners = []; twists = []; edges = []; flips = [] }

-- The cubies come from places that there are, and less than a round is added to their twists and flips.
pub record IsInRange (t : CubieTurn) : Type 0 where
  pub corners_below : EachIndex t.corners (λ k. slice_index t.corners k < 8)
  pub twists_below : EachIndex t.twists (λ k. slice_index t.twists k < 3)
  pub edges_below : EachIndex t.edges (λ k. slice_index t.edges k < 12)
  pub flips_below : EachIndex t.flips (λ k. slice_index t.flips k < 2)

-- a place after quarters of the whole cube about an axis
abbrev pub spun : Axis → ℕ → Place → Place
spun axis n q = record { cell = quarters axis n q.cell; direction = quarters axis n q.direction }

-- a place after the rotation of a renaming, and after the one that takes it back
abbrev pub rotated : Renaming → Place → Place
rotated XCounter = spun Rl 3
rotated XQuarter = spun Rl 1
rotated YQuarter = spun Ud 1
rotated ZCounter = spun Fb 3

abbrev pub rotated_back : Renaming → Place → Place
rotated_back XCounter = spun Rl 1
rotated_back XQuarter = spun Rl 3
rotated_back YQuarter = spun Ud 3
rotated_back ZCounter = spun Fb 1

-- the map of the renamed cube: where e goes from q to r, this goes from the renamed q to the renamed r
abbrev pub renamed_by : Renaming → (Place → Place) → Place → Place
renamed_by v e q = rotated v (e (rotated_back v q))

-- the face to which a face is brought: the one that the inverse brings to its place
abbrev pub face_by : Renaming → Face → Face
face_by XCounter f = face_before_power Rl Quarter f
face_by XQuarter f = face_before_power Rl Counter f
face_by YQuarter f = face_before_power Ud Counter f
face_by ZCounter f = face_before_power Fb Quarter f

-- the same if the cube may be left as it is
abbrev pub renamed_if : Option Renaming → (Place → Place) → Place → Place
renamed_if None e = e
renamed_if (Some v) e = renamed_by v e

abbrev pub face_if : Option Renaming → Face → Face
face_if None f = f
face_if (Some v) f = face_by v f

-- the table of a renaming
abbrev pub renaming_table : Renaming → RenamingTable
renaming_table XCounter = X_COUNTER
renaming_table XQuarter = X_QUARTER
renaming_table YQuarter = Y_QUARTER
renaming_table ZCounter = Z_COUNTER

-- which renamed cubie stands at a renamed place
abbrev pub renamed_home : (from to homes : List ℕ) (place : ℕ) → ℕ
renamed_home from to homes place = slice_index to (slice_index homes (slice_index from place))

-- how it is twisted or flipped there
abbrev pub renamed_orientation : (facelets : ℕ) (from inward homes orientations : List ℕ) (place : ℕ) → ℕ
renamed_orientation facelets from inward homes orientations place =
    (slice_index inward (slice_index homes (slice_index from place))
    + slice_index orientations (slice_index from place)
    + (facelets - slice_index inward (slice_index from place))) % facelets
