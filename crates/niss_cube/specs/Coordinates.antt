-- The coordinates of a map of the sticker places, in the order of the cubies, and the cubies that have a rank.
use Rattle.std.specs.Prelude.{◌≡◌, ◌<◌, ◌↔◌, ℕ, zero, suc, ◌+◌, Option, None, Some, Bool, true, false, List, [], ◌∷◌, map, reverse}
use Rattle.std.specs.Prelude.{length, ◌*◌, take, drop, fold, ◌-◌, ◌%◌, if◌then◌else◌, ◌/◌, ◌++◌, sum, nat_lt}
use Rattle.std.specs.List.{list_any}
use Rattle.niss_moves.specs.Rotations.{renamed_turn}
use Rattle.niss_cube.specs.Names.{Place, same_place, Axis, Ud, Rl, Fb, Face, Turn, Coordinate, Flip, Twist, Slice}
use Rattle.niss_cube.specs.Names.{Renaming, XCounter, XQuarter, YQuarter, ZCounter}
use Rattle.niss_cube.specs.Cubies.{index_in, corner_facelets, edge_facelets, corners_home, twists_home, edges_home}
use Rattle.niss_cube.specs.Cubies.{flips_home}
use Rattle.niss_cube.specs.Map.{sticker_map}
use Rattle.niss_cube.specs.Sets.{Kept, set_of}
use Rattle.niss_cube.specs.CubieTurns.{renamed_if, face_if}

-- The rotation by which the cube is renamed before a coordinate on an axis is read, if it is:
-- for flips by x' (Ud), by y (Rl), by none (Fb); for twists and slices by none (Ud), by z' (Rl), by x (Fb).
abbrev pub renaming_for : Coordinate → Axis → Option Renaming
renaming_for Flip Ud = Some XCounter
renaming_for Flip Rl = Some YQuarter
renaming_for Flip Fb = None
renaming_for _ Ud = None
renaming_for _ Rl = Some ZCounter
renaming_for _ Fb = Some XQuarter

-- the map of the cube from which a coordinate on an axis is read
abbrev pub renamed_for : Coordinate → Axis → (Place → Place) → Place → Place
renamed_for k a = renamed_if (renaming_for k a)

-- a face of the cube as one of the cube from which a coordinate on an axis is read
abbrev pub face_for : Coordinate → Axis → Face → Face
face_for k a = face_if (renaming_for k a)

-- a turn of the cube as one of the cube from which a coordinate on an axis is read
abbrev pub turn_for : Coordinate → Axis → Turn → Turn
turn_for k a t = renamed_turn (face_for k a) t

-- the first facelet of each row
abbrev pub firsts : List (List Place) → List Place
firsts [] = []
firsts ([] ∷ rows) = firsts rows
firsts ((q ∷ qs) ∷ rows) = q ∷ firsts rows

-- does e bring a sticker from one of these places to q?
abbrev pub brings : (Place → Place) → List Place → Place → Bool
brings e ps q = list_any (λ p. same_place (e p) q) ps

-- the position, among the facelets of each place, at which a first facelet stands: the flips or the twists
abbrev pub orientations : (Place → Place) → List (List Place) → List ℕ
orientations e rows = map (index_in (brings e (firsts rows))) rows

-- digits as a number in base b, the first digit the highest
abbrev pub number : ℕ → List ℕ → ℕ
number b ds = fold (λ n d. b * n + d) 0 ds

unfoldable pub flip_of : Axis → (Place → Place) → ℕ
flip_of a e = number 2 (take 11 (orientations (renamed_for Flip a e) edge_facelets))

unfoldable pub twist_of : Axis → (Place → Place) → ℕ
twist_of a e = number 3 (take 7 (orientations (renamed_for Twist a e) corner_facelets))

-- at which edge places one of the edges 8 to 11 stands
abbrev pub occupied : (Place → Place) → List Bool
occupied e = map (λ row. list_any (brings e (firsts (drop 8 edge_facelets))) row) edge_facelets

-- the choices of k things out of n
abbrev pub choose : ℕ → ℕ → ℕ
choose n zero = 1
choose zero (suc k) = 0
choose (suc n) (suc k) = choose n k + choose n (suc k)

-- the rank of an occupied set, of places from the last one down, with k of them still to be met
abbrev pub rank_places : List Bool → ℕ → ℕ
rank_places os zero = 0
rank_places [] (suc k) = 0
rank_places (true ∷ os) (suc k) = rank_places os k
rank_places (false ∷ os) (suc k) = choose (length os) k + rank_places os (suc k)

unfoldable pub slice_of : Axis → (Place → Place) → ℕ
slice_of a e = rank_places (reverse (occupied (renamed_for Slice a e))) 4

-- the rank of a coordinate on an axis
abbrev pub rank_of : Coordinate → Axis → (Place → Place) → ℕ
rank_of Flip = flip_of
rank_of Twist = twist_of
rank_of Slice = slice_of

-- how many ranks a coordinate has
abbrev pub count_of : Coordinate → ℕ
count_of Flip = 2048
count_of Twist = 2187
count_of Slice = 495

-- A rank is that of a map on an axis, below the count, and 0 exactly if the map keeps the coordinate's set.
pub record IsRank (k : Coordinate) (a : Axis) (e : Place → Place) (n : ℕ) : Type 0 where
  pub value : n ≡ rank_of k a e
  pub in_range : n < count_of k
  pub kept : (n ≡ 0) ↔ Kept (set_of k a) e

-- the axis for which the cube isn't renamed before a coordinate is read
abbrev pub standard_axis : Coordinate → Axis
standard_axis Flip = Fb
standard_axis _ = Ud

-- the number i as n digits in base b, the highest first
abbrev pub digits_of_number : (b n i : ℕ) → List ℕ
digits_of_number b zero i = []
digits_of_number b (suc n) i = digits_of_number b n (i / b) ++ (i % b) ∷ []

-- the orientations of n + 1 pieces, b of each, that have the rank i: the last one makes their sum a multiple of b
abbrev pub orientations_of_rank : (b n i : ℕ) → List ℕ
orientations_of_rank b n i = digits_of_number b n i ++ ((b - sum (digits_of_number b n i) % b) % b) ∷ []

-- the flips of the edges that have the rank i
unfoldable pub flips_of_rank : ℕ → List ℕ
flips_of_rank i = orientations_of_rank 2 11 i

-- the twists of the corners that have the rank i
unfoldable pub twists_of_rank : ℕ → List ℕ
twists_of_rank i = orientations_of_rank 3 7 i

-- at a place with n below, the choices that leave the last of k wanted ones to it
abbrev pub choices_with : ℕ → ℕ → ℕ
choices_with n zero = 0
choices_with n (suc k) = choose n k

-- the edges at n places from the last down that have the rank i: k of the slice, from 8 on, and others, each in order
unfoldable pub edges_down : (n k i : ℕ) → List ℕ
edges_down zero k i = []
edges_down (suc n) zero i = n ∷ edges_down n zero i
edges_down (suc n) (suc k) i =
    if nat_lt i (choose n k)
    then (8 + k) ∷ edges_down n k i
    else (n - suc k) ∷ edges_down n (suc k) (i - choose n k)

-- edges whose places have the rank i
unfoldable pub edges_of_rank : ℕ → List ℕ
edges_of_rank i = reverse (edges_down 12 4 i)

-- the map of a cube that has the rank i on the standard axis, its other cubies at home
abbrev pub ranked : Coordinate → ℕ → Place → Place
ranked Flip i = sticker_map corners_home twists_home edges_home (flips_of_rank i)
ranked Twist i = sticker_map corners_home (twists_of_rank i) edges_home flips_home
ranked Slice i = sticker_map corners_home twists_home (edges_of_rank i) flips_home
