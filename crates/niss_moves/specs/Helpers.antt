-- What private functions of the code work out. No public contract names these.
use Rattle.std.specs.Prelude.{◌≡◌, ℕ, Bool, true, false, List, [], ◌∷◌, ◌++◌, map, drop, slice_index_or}
use Rattle.std.specs.Prelude.{if◌then◌else◌, Option, None, Some, ◌<◌, ◌⊎◌, take}
use Rattle.niss_moves.specs.Canonical.{same_face, IsCanonical}
use Rattle.niss_moves.specs.Cleaning.{sum_of_turns, Cleans}
use Rattle.niss_moves.specs.Effects.{effect, effect_of_turns, moved_by}
use Rattle.niss_moves.specs.Rotations.{expanded, faces_with, to_top, face_before, face_before_if}
use Rattle.niss_moves.specs.Rotations.{renamed_turn, spelling}
use Rattle.niss_moves.specs.Names.{Face, U, R, L, F, B, Power, Quarter, Half, Counter, Turn, Token, Rotation}
use Rattle.niss_moves.specs.Names.{Base}
use Rattle.niss_moves.specs.Places.{Place}
use Rattle.niss_moves.specs.declared.rotation.MoveTurns.{MoveTurns}
use Rattle.niss_moves.specs.declared.rotation.MoveTurns.TheVariants.{NoTurn, One, Two}
use Rattle.niss_moves.specs.Line.{token_of, base_bytes, Apostrophe, apostrophe_bytes, Suffix, suffix_bytes}
use Rattle.niss_moves.specs.Line.{suffix_power, Blank, blank_byte}

-- one turn after another: their sum if they are of one face, and else both
abbrev pub pair_of_turns : Turn → Turn → List Turn
pair_of_turns t u = if same_face t.face u.face then sum_of_turns t u else t ∷ u ∷ []

-- a list with one turn more, summed with the last one if that is of its face
abbrev pub list_with_turn : List Turn → Turn → List Turn
list_with_turn [] t = t ∷ []
list_with_turn (x ∷ []) t = pair_of_turns x t
list_with_turn (x ∷ y ∷ s) t = x ∷ list_with_turn (y ∷ s) t

-- The list and a turn become the new list, whatever follows.
pub record Cleaned (old : List Turn) (t : Turn) (new : List Turn) : Type 0 where
  pub canonical : IsCanonical new
  pub cleans : (rest c : List Turn) → Cleans (new ++ rest) c → Cleans (old ++ t ∷ rest) c

-- no words
abbrev pub is_empty : List (List ℕ) → Bool
is_empty [] = true
is_empty (w ∷ ws) = false

-- the rotation about the vertical axis that brings a face to the front, once another one is at the top; none if none does
abbrev pub vertical_of : Face → Face → Option Power
vertical_of top front =
    if same_face front (face_before_if (to_top top) F) then None
    else (if same_face front (face_before_if (to_top top) R) then Some Quarter
    else (if same_face front (face_before_if (to_top top) B) then Some Half
    else (if same_face front (face_before_if (to_top top) L) then Some Counter else None)))

-- the rotation that brings these two faces to the top and to the front
abbrev pub rotation_by : Face → Face → Rotation
rotation_by top front = record { top = top; vertical = vertical_of top front }

-- the rotation that brings these six faces to the places of U, D, R, L, F and B
abbrev pub rotation_of_faces : List Face → Rotation
rotation_of_faces fs = rotation_by (slice_index_or fs 0 U) (slice_index_or fs 4 U)

-- After a rotation a move is these face turns and then the next rotation.
pub record Takes (r : Rotation) (t : Token) (turns : List Turn) (next : Rotation) : Type 0 where
  pub effect : (q : Place) → effect (spelling next) (effect_of_turns turns q) ≡ moved_by t (effect (spelling r) q)
  pub faces : (rest : List Turn) →
      turns ++ map (renamed_turn (face_before next)) rest
      ≡ map (renamed_turn (face_before r)) (faces_with (expanded t) rest)

-- the face turns of one move
abbrev pub turns_in : MoveTurns → List Turn
turns_in NoTurn = []
turns_in (One t) = t ∷ []
turns_in (Two t u) = t ∷ u ∷ []

-- a text with words after it that wait; if no gap is due, the space before the first of them is left out
abbrev pub with_buffered : List ℕ → Bool → List ℕ → List ℕ
with_buffered text true words = text ++ drop 1 words
with_buffered text false words = text ++ words

-- The first n bytes are an apostrophe, or n is 0.
abbrev pub BeginsApostrophe : List ℕ → ℕ → Type 0
BeginsApostrophe bytes n = (n ≡ 0) ⊎ ((a : Apostrophe) × (0 < n) × (take n bytes ≡ apostrophe_bytes a))

-- a suffix, and the power that it gives
pub record IsSuffix (bytes : List ℕ) (power : Power) : Type 0 where
  pub suffix : Suffix
  pub bytes_are : bytes ≡ suffix_bytes suffix
  pub power_is : power ≡ suffix_power suffix

-- a move as it is spelled, and a blank
pub record IsMove (bytes : List ℕ) (token : Token) : Type 0 where
  pub base : Base
  pub suffix : Suffix
  pub blank : Blank
  pub bytes_are : bytes ≡ base_bytes base ++ suffix_bytes suffix ++ blank_byte blank ∷ []
  pub token_is : token ≡ token_of base (suffix_power suffix)
