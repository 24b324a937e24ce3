-- The ranks of the inverse of a cube, as the cube itself tells them.
use Rattle.std.specs.Prelude.{◌≡◌, ℕ, ◌+◌, ◌-◌, ◌*◌, ◌%◌, ◌<◌, ◌≤◌, List, Bool, length, map, cond, sum_by, slice_index, EachIndex}
use Rattle.niss_cube.specs.Names.{Place, IsPlace, Cube, Coordinate, Axis, Ud, Rl, Fb}
use Rattle.niss_cube.specs.Map.{map_of}
use Rattle.niss_cube.specs.BadPieces.{TakesBack}
use Rattle.niss_cube.specs.Coordinates.{rank_of, count_of, number}
use Rattle.niss_cube.specs.declared.cube.coordinate.inverse.RankDigits.{RankDigits}
use Rattle.niss_cube.specs.declared.cube.coordinate.inverse.SlicePlaces.{SlicePlaces}
use Rattle.niss_cube.specs.declared.cube.coordinate.inverse.TheConstants.{TWISTS_ON_UD, TWISTS_ON_RL, TWISTS_ON_FB}
use Rattle.niss_cube.specs.declared.cube.coordinate.inverse.TheConstants.{FLIPS_ON_UD, FLIPS_ON_RL, FLIPS_ON_FB}
use Rattle.niss_cube.specs.declared.cube.coordinate.inverse.TheConstants.{SLICE_ON_UD, SLICE_ON_RL, SLICE_ON_FB}

-- A map is taken back by a cube's.
abbrev pub IsTakenBack : (Place → Place) → Cube → Type 0
IsTakenBack e d = (q : Place) → IsPlace q → map_of d (e q) ≡ q

-- Each cube is taken back by one.
abbrev pub CubesAreTakenBack : Type 0
CubesAreTakenBack = (c : Cube) → (d : Cube) × TakesBack c d

-- A rank is that of each cube that takes a map back, and below the count.
pub record IsInverseRank (k : Coordinate) (a : Axis) (e : Place → Place) (n : ℕ) : Type 0 where
  pub value : (d : Cube) → IsTakenBack e d → n ≡ rank_of k a (map_of d)
  pub in_range : n < count_of k

-- By the axis: how orientations make a rank, and where the edges of its slice are at home.
abbrev pub twist_digits : Axis → RankDigits 8
twist_digits Ud = TWISTS_ON_UD
twist_digits Rl = TWISTS_ON_RL
twist_digits Fb = TWISTS_ON_FB

abbrev pub flip_digits : Axis → RankDigits 12
flip_digits Ud = FLIPS_ON_UD
flip_digits Rl = FLIPS_ON_RL
flip_digits Fb = FLIPS_ON_FB

abbrev pub slice_places : Axis → SlicePlaces
slice_places Ud = SLICE_ON_UD
slice_places Rl = SLICE_ON_RL
slice_places Fb = SLICE_ON_FB

-- The digits are told for each place, and each counts at most 1,024.
pub record AreDigits (facelets places : ℕ) (digits : RankDigits places) : Type 0 where
  pub inward_at_each : length digits.inward ≡ places
  pub weight_at_each : length digits.weights ≡ places
  pub inward_below : EachIndex digits.inward (λ k. slice_index digits.inward k < facelets)
  pub weight_small : EachIndex digits.weights (λ k. slice_index digits.weights k ≤ 1024)

-- What a cubie that stands at a place counts in the rank of the inverse: there it stands at its home, turned back, and is the
-- cubie of the place.
abbrev pub counted_back : {places : ℕ} → (facelets : ℕ) → RankDigits places → (home turn place : ℕ) → ℕ
counted_back facelets digits home turn place =
    slice_index digits.weights home
    * ((slice_index digits.inward place + (facelets - turn) + (facelets - slice_index digits.inward home)) % facelets)

-- the bits of the places from which the edges of a slice come, after they came to its places from those that a turn names
abbrev pub slice_bit : SlicePlaces → (homes from : List ℕ) → (n : ℕ) → ℕ
slice_bit slice homes from n =
    slice_index slice.bits (slice_index homes (slice_index from (slice_index slice.places n)))

abbrev pub slice_mask : SlicePlaces → (homes from : List ℕ) → ℕ
slice_mask slice homes from =
    slice_bit slice homes from 0 + slice_bit slice homes from 1
    + (slice_bit slice homes from 2 + slice_bit slice homes from 3)

-- A number has a bit for each of twelve places, from the last one down, of which four are occupied.
pub record AreFour (mask : ℕ) (occupied : List Bool) : Type 0 where
  pub places : length occupied ≡ 12
  pub four : sum_by (λ o. cond o 1 0) occupied ≡ 4
  pub bits : number 2 (map (λ o. cond o 1 0) occupied) ≡ mask
