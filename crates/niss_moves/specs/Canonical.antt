-- Canonical sequences of face turns, and all of them of one length.
use Rattle.std.specs.Prelude.{Bool, true, false, ◌≡◌, ℕ, zero, suc, not, ◌&&◌, ◌||◌, ◌-◌, List, [], ◌∷◌, ◌++◌, map}
use Rattle.std.specs.Prelude.{filter, flat_map, length, slice_get, Option, None, Some, IsTrue, ◌↔◌, All, Contains}
use Rattle.niss_moves.specs.Names.{Face, U, D, R, L, F, B, Turn, Power, Quarter, Half, Counter}

abbrev pub opposite : Face → Face
opposite U = D
opposite D = U
opposite R = L
opposite L = R
opposite F = B
opposite B = F

abbrev pub same_face : Face → Face → Bool
same_face U U = true
same_face D D = true
same_face R R = true
same_face L L = true
same_face F F = true
same_face B B = true
same_face _ _ = false

-- of two opposite faces the one that stands first in a canonical sequence
abbrev pub goes_first : Face → Bool
goes_first U = true
goes_first R = true
goes_first F = true
goes_first _ = false

-- May a turn of the second face stand directly after one of the first? They are two faces, and of two opposite ones
-- U, R or F is first.
abbrev pub face_may_follow : Face → Face → Bool
face_may_follow f g = not (same_face f g) && (goes_first f || not (same_face (opposite f) g))

-- May a turn stand directly after the last one, if there is one?
abbrev pub may_follow : Option Turn → Turn → Bool
may_follow None t = true
may_follow (Some last) t = face_may_follow last.face t.face

-- each turn may stand directly after the one before it, and the first one after `last`
abbrev pub is_canonical_after : Option Turn → List Turn → Bool
is_canonical_after last [] = true
is_canonical_after last (t ∷ ts) = may_follow last t && is_canonical_after (Some t) ts

-- No two neighbours break the rule.
abbrev pub IsCanonical : List Turn → Type 0
IsCanonical s = IsTrue (is_canonical_after None s)

-- the 18 turns in turn order: the faces U D R L F B, each by a quarter, a half and counterclockwise
abbrev pub powers : List Power
powers = Quarter ∷ Half ∷ Counter ∷ []

abbrev pub face_order : List Face
face_order = U ∷ D ∷ R ∷ L ∷ F ∷ B ∷ []

abbrev pub turn_order : List Turn
turn_order = flat_map (λ f. map (λ p. record { face = f; power = p }) powers) face_order

-- the last turn, if there is one
abbrev pub last_turn : List Turn → Option Turn
last_turn s = slice_get s (length s - 1)

-- a sequence with one turn more, for each of the turns that may follow, in their order
abbrev pub canonical_extensions : List Turn → List Turn → List (List Turn)
canonical_extensions turns s = map (λ t. s ++ t ∷ []) (filter (may_follow (last_turn s)) turns)

-- all canonical sequences of a length over some turns, in the order of the turns at the first place where they differ
unfoldable pub all_canonical : List Turn → ℕ → List (List Turn)
all_canonical turns zero = [] ∷ []
all_canonical turns (suc k) = flat_map (canonical_extensions turns) (all_canonical turns k)

-- Where two sequences first differ, the turn of the first one comes before the turn of the second.
pub record DiffersFirst (comes_before : Turn → Turn → Bool) (first second : List Turn) : Type 0 where
  pub front : List Turn
  pub left : Turn
  pub right : Turn
  pub after_left : List Turn
  pub after_right : List Turn
  pub first_is : first ≡ front ++ left ∷ after_left
  pub second_is : second ≡ front ++ right ∷ after_right
  pub order : IsTrue (comes_before left right)

-- The members of `all_canonical turns k` are the canonical sequences of length k of these turns.
abbrev pub CanonicalMembers : Type 0
CanonicalMembers =
    (turns : List Turn) (k : ℕ) (s : List Turn) →
    Contains (all_canonical turns k) s ↔ ((length s ≡ k) × IsCanonical s × All (Contains turns) s)
