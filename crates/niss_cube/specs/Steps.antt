-- The steps of solving: from where each may start, what it reaches, and its turns.
use Rattle.std.specs.Prelude.{ℕ, Bool, true, ◌&&◌, ◌||◌, if◌then◌else◌, List, [], ◌∷◌, map, Option, None, Some, flat_map, codes}
use Rattle.std.specs.List.{list_any, list_all}
use lib.Lanes.{mask_l}
use Rattle.std.specs.Option.{option_map_or, option_map}
use Rattle.niss_moves.specs.Canonical.{face_order, powers, same_face}
use Rattle.niss_cube.specs.Names.{turned}
use Rattle.niss_cube.specs.Names.{Place, Axis, Ud, Rl, Fb, Face, U, D, R, L, F, B, Power, Half, Turn, Goal, Edges, Domino, Step, Eofb, Eorl}
use Rattle.niss_cube.specs.Names.{Eoud, DrudEofb, DrrlEofb, DrudEorl, DrfbEorl, DrrlEoud, DrfbEoud, Eo, DrEofb, DrEorl, DrEoud}
use Rattle.niss_cube.specs.Sets.{flip_set, twist_set, slice_set, is_kept, Kept}

-- all steps, in the order in which they are listed
abbrev pub steps : List Step
steps =
    Eofb ∷ Eorl ∷ Eoud ∷ DrudEofb ∷ DrrlEofb ∷ DrudEorl ∷ DrfbEorl ∷ DrrlEoud ∷ DrfbEoud
    ∷ Eo ∷ DrEofb ∷ DrEorl ∷ DrEoud ∷ []

-- What makes a step: its name; the axis on which the edges must be oriented before it, if it needs that; and its
-- alternatives: it is reached if one of them holds.
pub record StepRow : Type 0 where
  pub name : List ℕ
  pub start : Option Axis
  pub goals : List Goal

abbrev row : List ℕ → Option Axis → List Goal → StepRow
row n s gs = record { name = n; start = s; goals = gs }

abbrev pub row_of : Step → StepRow
row_of Eofb = row (codes "eofb") None (Edges Fb ∷ [])
row_of Eorl = row (codes "eorl") None (Edges Rl ∷ [])
row_of Eoud = row (codes "eoud") None (Edges Ud ∷ [])
row_of DrudEofb = row (codes "drud-eofb") (Some Fb) (Domino Fb Ud ∷ [])
row_of DrrlEofb = row (codes "drrl-eofb") (Some Fb) (Domino Fb Rl ∷ [])
row_of DrudEorl = row (codes "drud-eorl") (Some Rl) (Domino Rl Ud ∷ [])
row_of DrfbEorl = row (codes "drfb-eorl") (Some Rl) (Domino Rl Fb ∷ [])
row_of DrrlEoud = row (codes "drrl-eoud") (Some Ud) (Domino Ud Rl ∷ [])
row_of DrfbEoud = row (codes "drfb-eoud") (Some Ud) (Domino Ud Fb ∷ [])
row_of Eo = row (codes "eo") None (Edges Fb ∷ Edges Rl ∷ Edges Ud ∷ [])
row_of DrEofb = row (codes "dr-eofb") (Some Fb) (Domino Fb Ud ∷ Domino Fb Rl ∷ [])
row_of DrEorl = row (codes "dr-eorl") (Some Rl) (Domino Rl Ud ∷ Domino Rl Fb ∷ [])
row_of DrEoud = row (codes "dr-eoud") (Some Ud) (Domino Ud Rl ∷ Domino Ud Fb ∷ [])

abbrev pub name_of : Step → List ℕ
name_of step = (row_of step).name

abbrev pub start_of : Step → Option Axis
start_of step = (row_of step).start

abbrev pub goals_of : Step → List Goal
goals_of step = (row_of step).goals

-- the step that orients the edges on an axis
abbrev pub edge_step_on : Axis → Step
edge_step_on Ud = Eoud
edge_step_on Rl = Eorl
edge_step_on Fb = Eofb

-- the name of the step that must be reached before this one, if there is one
abbrev pub start_name_of : Step → Option (List ℕ)
start_name_of step = option_map (λ axis. name_of (edge_step_on axis)) (start_of step)

-- the two faces of an axis
abbrev pub is_face_of : Axis → Face → Bool
is_face_of Ud f = same_face f U || same_face f D
is_face_of Rl f = same_face f R || same_face f L
is_face_of Fb f = same_face f F || same_face f B

-- how far a face may turn in a step: if the edges are oriented on an axis before it, the axis' faces make half turns only
abbrev pub powers_from : Option Axis → Face → List Power
powers_from None f = powers
powers_from (Some axis) f = if is_face_of axis f then Half ∷ [] else powers

-- the turns of a step, in turn order
unfoldable pub turns_of : Step → List Turn
turns_of step =
    flat_map (λ f. map (λ p. record { face = f; power = p }) (powers_from (start_of step) f)) face_order

-- A map of the places keeps each set of the goal: the edges are oriented on an axis; or they are, and on another axis
-- the corners are untwisted and the slice's edges in their slice (a domino reduction).
abbrev pub holds : Goal → (Place → Place) → Bool
holds (Edges axis) e = is_kept (flip_set axis) e
holds (Domino edges axis) e =
    is_kept (flip_set edges) e && is_kept (twist_set axis) e && is_kept (slice_set axis) e

-- The goal holds for a map, by the sets themselves: it keeps each set of the goal.
abbrev pub KeepsGoal : Goal → (Place → Place) → Type 0
KeepsGoal (Edges axis) e = Kept (flip_set axis) e
KeepsGoal (Domino edges axis) e = Kept (flip_set edges) e × Kept (twist_set axis) e × Kept (slice_set axis) e

-- A map keeps the start, by the set itself: the edges are oriented on its axis, if there is one.
abbrev pub KeepsStart : Option Axis → (Place → Place) → Type 0
KeepsStart None e = Unit {0}
KeepsStart (Some axis) e = Kept (flip_set axis) e

-- The step may start on a cube with this map: the edges are oriented on the axis of its start, if it has one.
unfoldable pub may_start : Step → (Place → Place) → Bool
may_start step e = option_map_or (λ axis. holds (Edges axis) e) (start_of step) true

-- A cube with this map has reached the step: some goal holds.
unfoldable pub reached : Step → (Place → Place) → Bool
reached step e = list_any (λ goal. holds goal e) (goals_of step)

-- A turn is idle in a step if it keeps each set of each goal: it leaves the step reached, or not reached.
unfoldable pub is_idle : Step → Turn → Bool
is_idle step t = list_all (λ goal. holds goal (turned t)) (goals_of step)

-- which steps are reached, as a number: bit i is set if step i is
abbrev pub reached_mask : (Place → Place) → ℕ
reached_mask e = mask_l (map (λ step. reached step e) steps)
