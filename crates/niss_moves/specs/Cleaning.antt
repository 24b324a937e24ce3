-- Cleaning: the leftmost neighbours that break the order are merged or change places, as long as there are any.
use Rattle.std.specs.Prelude.{◌≡◌, ℕ, zero, suc, ◌+◌, ◌%◌, Bool, false, ◌&&◌, List, [], ◌∷◌, ◌++◌, count_by}
use Rattle.std.specs.Prelude.{if◌then◌else◌, Option, None, Some, ◌*◌, map, flat_map, length, find, unwrap_or}
use Rattle.niss_moves.specs.Effects.{times, effect}
use Rattle.niss_moves.specs.Canonical.{opposite, same_face, goes_first, face_may_follow, IsCanonical, face_order}
use Rattle.niss_moves.specs.Names.{Face, Power, Quarter, Half, Counter, Turn, U, Token, Rotation}
use Rattle.std.specs.List.{list_all}
use Rattle.std.specs.Option.{option_map, option_map_or}
use Rattle.niss_moves.specs.Places.{same_place}
use Rattle.niss_moves.specs.Facelets.{centre}
use Rattle.niss_moves.specs.Rotations.{spelling, faces}
use Rattle.niss_moves.specs.Line.{Moves}
use Rattle.niss_moves.specs.Text.{cleaned_words, with_bracket, with_words}

-- the power of a number of quarters below four, if they turn anything
abbrev pub power_of_quarters : ℕ → Option Power
power_of_quarters zero = None
power_of_quarters (suc zero) = Some Quarter
power_of_quarters (suc (suc zero)) = Some Half
power_of_quarters _ = Some Counter

-- the power of two turns of one face together; whole rounds drop out
abbrev pub sum_of_powers : Power → Power → Option Power
sum_of_powers p q = power_of_quarters ((times p + times q) % 4)

-- a turn of the face, or none
abbrev pub turn_by : Face → Option Power → List Turn
turn_by f None = []
turn_by f (Some p) = record { face = f; power = p } ∷ []

-- two turns of one face as the turn of their sum, or as nothing if the sum is a whole round
abbrev pub sum_of_turns : Turn → Turn → List Turn
sum_of_turns t u = turn_by t.face (sum_of_powers t.power u.power)

-- what stands in the place of two neighbours that break the order: their sum, or the two exchanged
abbrev pub rewritten_pair : Turn → Turn → List Turn
rewritten_pair t u = if same_face t.face u.face then sum_of_turns t u else u ∷ t ∷ []

-- one rewriting: the leftmost neighbours that break the order
pub record IsRewriting (old new : List Turn) : Type 0 where
  pub front : List Turn
  pub left : Turn
  pub right : Turn
  pub rest : List Turn
  pub at : old ≡ front ++ left ∷ right ∷ rest
  pub leftmost : IsCanonical (front ++ left ∷ [])
  pub breaks : face_may_follow left.face right.face ≡ false
  pub result : new ≡ front ++ rewritten_pair left right ++ rest

-- the list as it stands once nothing is left to rewrite
pub data Cleans : List Turn → List Turn → Type 0 where
  Clean : {s : List Turn} → IsCanonical s → Cleans s s
  Rewrite : {s t c : List Turn} → IsRewriting s t → Cleans t c → Cleans s c

-- two turns of opposite faces of which the second goes first
abbrev pub are_disordered : Turn → Turn → Bool
are_disordered t u = same_face (opposite t.face) u.face && goes_first u.face

-- how many pairs of turns of opposite faces, neighbours or not, stand in the wrong order
abbrev pub disorder : List Turn → ℕ
disorder [] = 0
disorder (t ∷ ts) = count_by (are_disordered t) ts + disorder ts

-- the list with the leftmost neighbours rewritten that break the order, if there are any
unfoldable pub rewritten_once : List Turn → Option (List Turn)
rewritten_once [] = None
rewritten_once (t ∷ []) = None
rewritten_once (t ∷ u ∷ s) =
    if face_may_follow t.face u.face
    then option_map (λ s. t ∷ s) (rewritten_once (u ∷ s))
    else Some (rewritten_pair t u ++ s)

-- the list after at most n rewritings
unfoldable pub rewritten_within : ℕ → List Turn → List Turn
rewritten_within zero s = s
rewritten_within (suc n) s = option_map_or (rewritten_within n) (rewritten_once s) s

-- So many rewritings no list takes: each one shortens it, or leaves fewer pairs in the wrong order.
abbrev pub more_rewritings : List Turn → ℕ
more_rewritings s = suc (length s * suc (length s * length s) + disorder s)

-- the list rewritten as long as two neighbours break the order
unfoldable pub clean_turns : List Turn → List Turn
clean_turns s = rewritten_within (more_rewritings s) s

-- the 24 rotations
abbrev pub rotations : List Rotation
rotations =
    flat_map
    (λ f. map (λ p. record { top = f; vertical = p }) (None ∷ Some Quarter ∷ Some Half ∷ Some Counter ∷ []))
    face_order

-- Does the rotation move the six centres as the sequence does?
abbrev pub moves_centres_as : List Token → Rotation → Bool
moves_centres_as s r =
    list_all (λ f. same_place (effect (spelling r) (centre f)) (effect s (centre f))) face_order

-- the one among the 24 rotations that moves the six centres as the sequence does
unfoldable pub rotation_left : List Token → Rotation
rotation_left s = unwrap_or (find (moves_centres_as s) rotations) (record { top = U; vertical = None })

-- the words of a cleaned sequence
abbrev pub clean_words : List Token → List (List ℕ)
clean_words s = cleaned_words (clean_turns (faces s)) (rotation_left s)

-- the text with a cleaned line appended: the normal moves, and the bracketed ones in a bracket, if any word is left
abbrev pub with_clean_line : List ℕ → Moves → List ℕ
with_clean_line text line =
    with_bracket (with_words text (clean_words line.normal)) (clean_words line.bracketed)
