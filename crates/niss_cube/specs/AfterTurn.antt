-- How the rank of a coordinate follows the turns: after one turn, as a law of each coordinate, and in the rows of tables.
use Rattle.std.specs.Prelude.{◌≡◌, ℕ, ◌<◌, ◌↔◌, ◌+◌, ◌*◌, List, [], length, slice_index, get_or}
use Rattle.niss_moves.specs.Indices.{face_index, power_index}
use Rattle.niss_cube.specs.Names.{Place, SameMap, turned, inverse_turn, U, Quarter, Axis, Turn, Cube, Coordinate}
use Rattle.niss_cube.specs.Map.{map_of}
use Rattle.niss_cube.specs.Sets.{Kept, set_of}
use Rattle.niss_cube.specs.Coordinates.{count_of, rank_of, ranked, standard_axis, turn_for}

-- the rank on an axis after a turn: a cube with the rank i is turned, and its rank read again
unfoldable pub rank_after : Coordinate → Axis → ℕ → Turn → ℕ
rank_after k a i t = rank_of k (standard_axis k) (λ q. turned (turn_for k a t) (ranked k i q))

-- the map of some cube
abbrev pub IsCube : (Place → Place) → Type 0
IsCube e = (c : Cube) × SameMap (map_of c) e

-- A turned cube is a cube.
abbrev pub TurnedIsCube : Type 0
TurnedIsCube = (e : Place → Place) (t : Turn) → IsCube e → IsCube (λ q. turned t (e q))

-- So is a cube with a turn before all that made it.
abbrev pub TurnedBeforeIsCube : Type 0
TurnedBeforeIsCube = (e : Place → Place) (t : Turn) → IsCube e → IsCube (λ q. e (turned t q))

-- On an axis each rank below the count is some cube's, and each cube's is one of them. It is 0 if the set is kept,
-- and the rank after a turn follows from the rank alone.
pub record IsCoordinate (k : Coordinate) (a : Axis) : Type 0 where
  pub below : (e : Place → Place) → IsCube e → rank_of k a e < count_of k
  pub some_cube : (i : ℕ) → i < count_of k → (c : Cube) × (rank_of k a (map_of c) ≡ i)
  pub zero_where_kept : (e : Place → Place) → IsCube e → (rank_of k a e ≡ 0) ↔ Kept (set_of k a) e
  pub of_places : (d e : Place → Place) → IsCube d → SameMap d e → rank_of k a d ≡ rank_of k a e
  pub follows : (e : Place → Place) (t : Turn) → IsCube e →
      rank_of k a (λ q. turned t (e q)) ≡ rank_after k a (rank_of k a e) t
  pub after_below : (i : ℕ) (t : Turn) → i < count_of k → rank_after k a i t < count_of k
  pub back_again : (i : ℕ) (t : Turn) → i < count_of k →
      rank_after k a (rank_after k a i t) (inverse_turn t) ≡ i

-- Flips, twists and slices are coordinates, each on each axis.
abbrev pub AreCoordinates : Type 0
AreCoordinates = (k : Coordinate) (a : Axis) → IsCoordinate k a

-- The rank on an axis after a turn of any cube that had the rank i before it.
pub record IsRankAfter (k : Coordinate) (a : Axis) (i : ℕ) (t : Turn) (n : ℕ) : Type 0 where
  pub value : n ≡ rank_after k a i t
  pub in_range : n < count_of k
  pub of_each : (e : Place → Place) → IsCube e → rank_of k a e ≡ i → n ≡ rank_of k a (λ q. turned t (e q))

-- the turn of a column
abbrev pub turn_in : List Turn → ℕ → Turn
turn_in turns column = get_or turns column (record { face = U; power = Quarter })

-- The row of a rank in a move table: in the columns of some turns it has the ranks after them.
pub record IsMoveRow (k : Coordinate) (a : Axis) (turns : List Turn) (rank : ℕ) (row : List ℕ) : Type 0 where
  pub after : (column : ℕ) → column < length turns → slice_index row column ≡ rank_after k a rank (turn_in turns column)
  pub below : (column : ℕ) → column < length turns → slice_index row column < count_of k

-- There is a row for each rank, with the ranks after some turns.
pub record AreMoveRows (k : Coordinate) (a : Axis) (turns : List Turn) (rows : List (List ℕ)) : Type 0 where
  pub size : length rows ≡ count_of k
  pub each : (i : ℕ) → i < count_of k → IsMoveRow k a turns i (get_or rows i [])

-- the place of a turn among the 18, in turn order
abbrev pub turn_number : Turn → ℕ
turn_number t = 3 * face_index t.face + power_index t.power
