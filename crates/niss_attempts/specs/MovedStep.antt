-- The steps of an attempt that solve once one of them stands elsewhere.
use Rattle.std.specs.Prelude.{◌≡◌, ℕ, ◌+◌, ◌<◌, ◌≤◌, ◌==◌, nat_lt, if◌then◌else◌, Bool, true, false, not, ◌&&◌, ◌||◌, Option, Result, List, [], ◌∷◌, ◌++◌, length, get_or}
use Rattle.niss_moves.specs.Line.{Moves}
use Rattle.niss_moves.specs.Reader.{read_line}
use Rattle.niss_moves.specs.declared.fault.ReadFault.{ReadFault}
use Rattle.niss_text.specs.declared.text_line.TextLine.{TextLine}
use Rattle.niss_attempts.specs.Corners.{Reads}
use Rattle.niss_attempts.specs.Parts.{number_of_steps, solves_line, steps_line}
use Rattle.niss_attempts.specs.TurnedCube.{IsAtFirst}
use Rattle.niss_attempts.specs.declared.doubts.Doubt.{Doubt}
use Rattle.niss_attempts.specs.declared.doubts.moved_step.Exchange.{Exchange}
use Rattle.niss_attempts.specs.declared.doubts.moved_step.Stretches.{Stretches}
use Rattle.niss_attempts.specs.declared.steps.corners.StepCorners.{StepCorners}
use Rattle.niss_attempts.specs.declared.steps.WholeSteps.{WholeSteps}

-- bytes with a blank after them
abbrev pub with_blank : List ℕ → List ℕ
with_blank bytes = bytes ++ 32 ∷ []

-- the line of all steps in which those from a first place to a middle one stand after those from there to a last place, with
-- a blank after each of these stretches but the last
abbrev pub line_exchanged : (steps bounds : List ℕ) → Exchange → List ℕ
line_exchanged steps bounds e =
    with_blank (steps_line steps bounds 0 e.first) ++ with_blank (steps_line steps bounds e.middle e.last) ++ with_blank (steps_line steps bounds e.first e.middle)
    ++ steps_line steps bounds e.last (number_of_steps bounds)

-- A step that is moved changes places with the steps between it and the one before which it stands then.
abbrev pub exchange_of : (step place : ℕ) → Exchange
exchange_of step place =
    if nat_lt place step then record { first = place; middle = step; last = step + 1 } else record { first = step; middle = step + 1; last = place }

-- the line of all steps with the one of a number before another one, or after the last one if the place is their number
abbrev pub line_moved : (steps bounds : List ℕ) → (step place : ℕ) → List ℕ
line_moved steps bounds step place = line_exchanged steps bounds (exchange_of step place)

abbrev pub solves_exchanged : Result Moves ReadFault → (steps bounds : List ℕ) → Exchange → Bool
solves_exchanged scramble steps bounds e = solves_line scramble (read_line (line_exchanged steps bounds e))

-- A step stands elsewhere before a step that is neither itself nor the one after it.
abbrev pub is_elsewhere : (step place : ℕ) → Bool
is_elsewhere step place = not ((place == step) || (place == step + 1))

abbrev pub solves_moved : Result Moves ReadFault → (steps bounds : List ℕ) → (step place : ℕ) → Bool
solves_moved scramble steps bounds step place = is_elsewhere step place && solves_line scramble (read_line (line_moved steps bounds step place))

-- All steps solve once this one stands at one of some places, before another step or after the last one, or they don't.
abbrev pub IsMovedAmong : (Among : ℕ → Type 0) → Result Moves ReadFault → (steps bounds : List ℕ) → (step : ℕ) → (is : Bool) → Type 0
IsMovedAmong Among scramble steps bounds step true = (place : ℕ) × Among place × (solves_moved scramble steps bounds step place ≡ true)
IsMovedAmong Among scramble steps bounds step false = (place : ℕ) → Among place → solves_moved scramble steps bounds step place ≡ false

-- They do so once it stands elsewhere, or they don't.
abbrev pub IsMovedAt : Result Moves ReadFault → (steps bounds : List ℕ) → (step : ℕ) → (is : Bool) → Type 0
IsMovedAt scramble steps bounds step is = IsMovedAmong (λ place. place < length bounds) scramble steps bounds step is

-- The doubt that the moves of a step belong elsewhere, the first one with which elsewhere all steps solve, or none.
abbrev pub IsMovedIn : Result Moves ReadFault → (steps bounds : List ℕ) → List TextLine → (told : Option Doubt) → Type 0
IsMovedIn scramble steps bounds lines told = IsAtFirst bounds lines (IsMovedAt scramble steps bounds) told

-- The places of an exchange are in order, among those at which steps begin and end.
pub record IsExchange (bounds : List ℕ) (e : Exchange) : Type 0 where
  pub ordered : (e.first ≤ e.middle) × (e.middle ≤ e.last)
  pub within : e.last < length bounds

-- what the stretches of an exchange do to the corners
pub record AreStretches (steps bounds : List ℕ) (e : Exchange) (does : Stretches) : Type 0 where
  pub front : Reads (steps_line steps bounds 0 e.first) does.front
  pub early : Reads (steps_line steps bounds e.middle e.last) does.early
  pub late : Reads (steps_line steps bounds e.first e.middle) does.late

-- what the steps before each place do to them, if that is known of each step
pub record AreFronts (whole : WholeSteps) (fronts : List StepCorners) : Type 0 where
  pub number : length fronts ≡ length whole.bounds.now
  pub reads : whole.corners.now.are_lines ≡ true → (place : ℕ) (none : StepCorners) → place < length fronts →
      Reads (steps_line whole.steps.now whole.bounds.now 0 place) (get_or fronts place none)
