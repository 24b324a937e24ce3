-- The steps of an attempt that solve once the whole cube is turned before one of them.
use Rattle.std.specs.Prelude.{◌≡◌, ℕ, ◌<◌, Bool, true, false, Option, None, Some, Result, List, [], ◌∷◌, ◌++◌, get_or}
use Rattle.std.specs.Option.{option_map}
use Rattle.niss_moves.specs.Line.{Moves, rotation_letter}
use Rattle.niss_moves.specs.declared.turn.Axis.{Axis}
use Rattle.niss_moves.specs.declared.turn.Face.TheVariants.{U}
use Rattle.niss_moves.specs.declared.turn.Power.{Power}
use Rattle.niss_moves.specs.Rotations.{about_vertical, to_top}
use Rattle.niss_moves.specs.declared.fault.ReadFault.{ReadFault}
use Rattle.niss_moves.specs.declared.rotation.Rotation.{Rotation}
use Rattle.niss_moves.specs.declared.token.Token.{Token}
use Rattle.niss_text.specs.declared.text_line.TextLine.{TextLine}
use Rattle.niss_attempts.specs.Between.{solves_between}
use Rattle.niss_attempts.specs.Corners.{Brings, home}
use Rattle.niss_attempts.specs.Doubts.{doubt}
use Rattle.niss_attempts.specs.Parts.{IsFirstOf, number_of_steps}
use Rattle.niss_attempts.specs.ShownTurn.{step_at, suffix_byte}
use Rattle.niss_attempts.specs.declared.doubts.Doubt.{Doubt}
use Rattle.niss_attempts.specs.declared.doubts.Reason.TheVariants.{Insertion}
use Rattle.niss_attempts.specs.declared.doubts.turned_cube.holds.Hold.{Hold}
use Rattle.niss_attempts.specs.declared.doubts.turned_cube.holds.TheConstants.{HOLDS}
use Rattle.niss_attempts.specs.declared.steps.corners.Around.{Around}
use Rattle.niss_attempts.specs.declared.doubts.turned_cube.Sides.{Sides}

-- the letter of a rotation about an axis, and what stands after it, or blanks
abbrev pub axis_letter : Option (Axis × Power) → ℕ
axis_letter None = 32
axis_letter (Some r) = rotation_letter r.0

abbrev pub suffix_if : Option (Axis × Power) → ℕ
suffix_if None = 32
suffix_if (Some r) = suffix_byte r.1

abbrev pub word_if : Option (Axis × Power) → List ℕ
word_if r = 32 ∷ axis_letter r ∷ suffix_if r ∷ []

-- a rotation of the whole cube as moves, between blanks: none or one by x or z, then none or one by y
abbrev pub turned_bytes : Rotation → List ℕ
turned_bytes r = word_if (to_top r.top) ++ word_if (about_vertical r.vertical) ++ 32 ∷ []

-- The cube is held as before.
abbrev pub no_rotation : Rotation
no_rotation = record { top = U; vertical = None }

-- the table's ways to hold it otherwise
abbrev pub hold_numbered : ℕ → Hold
hold_numbered n = get_or HOLDS n (record { rotation = no_rotation; corners = record { to = home } })

-- All steps solve if the cube is turned so before the step of a number.
abbrev pub solves_turned : Result Moves ReadFault → (steps bounds : List ℕ) → ℕ → Rotation → Bool
solves_turned scramble steps bounds k r = solves_between scramble steps bounds k (turned_bytes r)

-- They do by one of the 23 rotations of the whole cube before this step, or by none of these.
abbrev pub IsTurnedAt : Result Moves ReadFault → (steps bounds : List ℕ) → ℕ → (is : Bool) → Type 0
IsTurnedAt scramble steps bounds k true = (r : Rotation) × (r ≡ no_rotation → ⊥) × (solves_turned scramble steps bounds k r ≡ true)
IsTurnedAt scramble steps bounds k false = (r : Rotation) → (r ≡ no_rotation → ⊥) → solves_turned scramble steps bounds k r ≡ false

-- the doubt that moves belong before the step of a number
abbrev pub doubt_at_step : List TextLine → Option ℕ → Option Doubt
doubt_at_step lines None = None
doubt_at_step lines (Some k) = option_map (λ line. doubt Insertion line.moves) (step_at lines k)

-- The doubt that moves belong before the first step of which something is true, or none.
pub record IsAtFirst (bounds : List ℕ) (lines : List TextLine) (Is : ℕ → Bool → Type 0) (told : Option Doubt) : Type 0 where
  pub first : Option ℕ
  pub is_first : IsFirstOf (number_of_steps bounds) Is first
  pub told_is : told ≡ doubt_at_step lines first

-- The doubt that a rotation belongs before a step, the first before which all steps solve with one, or none.
abbrev pub IsTurnedIn : Result Moves ReadFault → (steps bounds : List ℕ) → List TextLine → (told : Option Doubt) → Type 0
IsTurnedIn scramble steps bounds lines told = IsAtFirst bounds lines (IsTurnedAt scramble steps bounds) told

-- what the scramble and the steps before a place do to the corners, and the moves after it
pub record AreSides (around : Around) (sides : Sides) : Type 0 where
  pub front : (s t : List Token) → Brings around.attempt.now.scramble.to s → Brings around.before.normal.to t → Brings sides.front.to (s ++ t)
  pub back : (s t : List Token) → Brings around.after.to s → Brings around.before.inverse.to t → Brings sides.back.to (s ++ t)
