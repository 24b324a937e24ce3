-- A turn that was lost between two steps of an attempt, as its text shows it there.
use Rattle.std.specs.Prelude.{◌≡◌, ℕ, ◌<◌, if◌then◌else◌, Bool, Option, None, Some, Result, List, length, get_or}
use Rattle.niss_moves.specs.Canonical.{turn_order}
use Rattle.niss_moves.specs.Line.{Moves}
use Rattle.niss_moves.specs.declared.turn.Face.TheVariants.{U}
use Rattle.niss_moves.specs.declared.turn.Power.TheVariants.{Quarter}
use Rattle.niss_moves.specs.declared.turn.Turn.{Turn}
use Rattle.niss_moves.specs.declared.fault.ReadFault.{ReadFault}
use Rattle.niss_text.specs.declared.text_line.TextLine.{TextLine}
use Rattle.niss_attempts.specs.Between.{solves_between}
use Rattle.niss_attempts.specs.ShownTurn.{shown_at, turn_bytes}
use Rattle.niss_attempts.specs.declared.doubts.Doubt.{Doubt}

abbrev pub solves_with_turn : Result Moves ReadFault → (steps bounds : List ℕ) → ℕ → Turn → Bool
solves_with_turn scramble steps bounds k t = solves_between scramble steps bounds k (turn_bytes t)

-- what is shown counts if the turn solves
abbrev pub shown_if : Bool → Option Doubt → Option Doubt
shown_if solves None = None
shown_if solves (Some it) = if solves then Some it else None

abbrev pub turn_numbered : ℕ → Turn
turn_numbered i = get_or turn_order i (record { face = U; power = Quarter })

-- Of so many cases, in order, this is told of the first one of which something is.
abbrev pub IsFirstTold : ℕ → (ℕ → Option Doubt → Type 0) → Option Doubt → Type 0
IsFirstTold count Told (Some it) = (k : ℕ) × (k < count) × Told k (Some it) × ((j : ℕ) → j < k → Told j None)
IsFirstTold count Told None = (j : ℕ) → j < count → Told j None

-- the doubt of the first of the turns, in turn order, that solves before a step, or after the last one, and is shown there
abbrev pub IsLostAt : Result Moves ReadFault → (steps bounds : List ℕ) → ℕ → (Turn → Option Doubt) → Option Doubt → Type 0
IsLostAt scramble steps bounds k shows told =
    IsFirstTold 18 (λ i it. it ≡ shown_if (solves_with_turn scramble steps bounds k (turn_numbered i)) (shows (turn_numbered i))) told

-- The same before the first step at which there is one, or after the last one, by what the text shows there.
abbrev pub IsLostIn : Result Moves ReadFault → (steps bounds text : List ℕ) → List TextLine → Option Doubt → Type 0
IsLostIn scramble steps bounds text lines told =
    IsFirstTold (length bounds) (λ k it. IsLostAt scramble steps bounds k (shown_at text lines k) it) told
