-- The turns at the end of a sequence that are on an axis.
use Rattle.std.proofs.Common.{◌≡◌, ℕ, Bool, true, false, ◌&&◌, if◌then◌else◌, List, [], ◌∷◌, ◌++◌, length, refl, ap, sym, ◌∙◌, ◌+◌, arith}
use Rattle.std.proofs.lemmas.List.{append_assoc}
use Rattle.std.specs.List.{list_all}
use Rattle.niss_moves.specs.declared.turn.Axis.{Axis}
use Rattle.niss_moves.specs.declared.turn.Turn.{Turn}
use Rattle.niss_cube.specs.Steps.{is_face_of}
use Rattle.niss_ways.specs.Shown.{last_on}

abbrev pub all_on : Axis → List Turn → Bool
all_on axis ts = list_all (λ u. is_face_of axis u.face) ts

none_false : (b : Bool) (rest : Bool) → rest ≡ false → (b && rest) ≡ false
none_false true rest off = off
none_false false rest off = refl

-- one that isn't on the axis stands among these
not_all : (axis : Axis) (xs : List Turn) (t : Turn) (ts : List Turn) → is_face_of axis t.face ≡ false → all_on axis (xs ++ t ∷ ts) ≡ false
not_all axis [] t ts off = ap (λ (b : Bool). b && all_on axis ts) off
not_all axis (x ∷ xs) t ts off = none_false (is_face_of axis x.face) (all_on axis (xs ++ t ∷ ts)) (not_all axis xs t ts off)

pub all_last : (axis : Axis) (ts : List Turn) → all_on axis ts ≡ true → last_on axis ts ≡ length ts
unfolding last_on
all_last axis [] all = refl
all_last axis (t ∷ ts) all = ap (λ (b : Bool). if b then length (t ∷ ts) else last_on axis ts) all

pub last_after : (axis : Axis) (xs : List Turn) (t : Turn) (ts : List Turn) → is_face_of axis t.face ≡ false → all_on axis ts ≡ true
    → last_on axis (xs ++ t ∷ ts) ≡ length ts
unfolding last_on
last_after axis [] t ts off all =
    ap (λ (b : Bool). if b then length (t ∷ ts) else last_on axis ts) (not_all axis [] t ts off) ∙ all_last axis ts all
last_after axis (x ∷ xs) t ts off all =
    ap (λ (b : Bool). if b then length (x ∷ xs ++ t ∷ ts) else last_on axis (xs ++ t ∷ ts)) (not_all axis (x ∷ xs) t ts off)
    ∙ last_after axis xs t ts off all

-- The turns after what is left of a sequence are on the axis.
pub record Ends (axis : Axis) (turns rest : List Turn) (count : ℕ) : Type 0 where
  pub after : List Turn
  pub split : turns ≡ rest ++ after
  pub all : all_on axis after ≡ true
  pub counted : count ≡ length after

pub ends_more : (axis : Axis) (turns rest front : List Turn) (t : Turn) (count : ℕ) → rest ≡ front ++ t ∷ [] → is_face_of axis t.face ≡ true
    → Ends axis turns rest count → Ends axis turns front (count + 1)
ends_more axis turns rest front t count is on h = record {
  after = t ∷ h.after;
  split = h.split ∙ ap (λ (ts : List Turn). ts ++ h.after) is ∙ append_assoc front (t ∷ []) h.after;
  all = ap (λ (b : Bool). b && all_on axis h.after) on ∙ h.all;
  counted = omega (arith, h.counted);
}

-- all are, or the one before isn't
pub ends_all : (axis : Axis) (turns rest : List Turn) (count : ℕ) → rest ≡ [] → Ends axis turns rest count → count ≡ last_on axis turns
ends_all axis turns rest count none h =
    h.counted ∙ sym (ap (last_on axis) (h.split ∙ ap (λ (ts : List Turn). ts ++ h.after) none) ∙ all_last axis h.after h.all)

pub ends_before : (axis : Axis) (turns rest front : List Turn) (t : Turn) (count : ℕ) → rest ≡ front ++ t ∷ [] → is_face_of axis t.face ≡ false
    → Ends axis turns rest count → count ≡ last_on axis turns
ends_before axis turns rest front t count is off h =
    h.counted ∙ sym (ap (last_on axis) (h.split ∙ ap (λ (ts : List Turn). ts ++ h.after) is ∙ append_assoc front (t ∷ []) h.after)
    ∙ last_after axis front t h.after off h.all)
