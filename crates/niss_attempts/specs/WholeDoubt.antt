-- What makes one doubt an attempt of which no part solves: a turn that was lost, a cube that was turned, or a step that was moved.
use Rattle.std.specs.Prelude.{◌≡◌, ℕ, ◌==◌, nat_lt, Bool, true, false, not, ◌||◌, Option, None, Result, List, length}
use Rattle.niss_moves.specs.Line.{Moves}
use Rattle.niss_moves.specs.Reader.{read_line}
use Rattle.niss_moves.specs.declared.fault.ReadFault.{ReadFault}
use Rattle.niss_shell.specs.Words.{most_bytes}
use Rattle.niss_text.specs.declared.text_line.TextLine.{TextLine}
use Rattle.niss_attempts.specs.Doubts.{OrElse}
use Rattle.niss_attempts.specs.LostTurn.{IsLostIn}
use Rattle.niss_attempts.specs.MovedStep.{IsMovedIn}
use Rattle.niss_attempts.specs.Parts.{bounds_of, first_steps, most_step_bytes, number_of_steps}
use Rattle.niss_attempts.specs.ShownTurn.{steps_among}
use Rattle.niss_attempts.specs.TurnedCube.{IsTurnedIn}
use Rattle.niss_attempts.specs.declared.doubts.Doubt.{Doubt}

-- The steps aren't a line each of the text, or too many, or they or the scramble have too many bytes.
abbrev pub is_beyond : (scramble steps : List ℕ) → List TextLine → Bool
is_beyond scramble steps lines =
    not (number_of_steps (bounds_of steps) == length (steps_among lines)) || (nat_lt most_bytes (length scramble) || nat_lt most_step_bytes (length steps))

-- The doubt that the cube was turned before a step; or if it wasn't, that a step belongs elsewhere; or none.
abbrev pub IsTurnedOrMovedIn : Result Moves ReadFault → (steps bounds : List ℕ) → List TextLine → (told : Option Doubt) → Type 0
IsTurnedOrMovedIn scramble steps bounds lines told =
    OrElse (λ it. IsTurnedIn scramble steps bounds lines it) (λ it. IsMovedIn scramble steps bounds lines it) told

-- The doubt that a turn was lost beside a step, which the text shows there; or if none was, the same.
abbrev pub IsWholeDoubtIn : Result Moves ReadFault → (steps bounds text : List ℕ) → List TextLine → (told : Option Doubt) → Type 0
IsWholeDoubtIn scramble steps bounds text lines told =
    OrElse (λ it. IsLostIn scramble steps bounds text lines it) (λ it. IsTurnedOrMovedIn scramble steps bounds lines it) told

-- The same of steps that aren't beyond what is looked at. Of others nothing is told.
abbrev pub TellsWhole : (is_beyond : Bool) → Result Moves ReadFault → (steps bounds text : List ℕ) → List TextLine → Option Doubt → Type 0
TellsWhole true scramble steps bounds text lines told = told ≡ None
TellsWhole false scramble steps bounds text lines told = IsWholeDoubtIn scramble steps bounds text lines told

-- The same of an attempt with a scramble, if its steps aren't too many, nor too long.
abbrev pub IsWholeDoubt : (scramble steps text : List ℕ) → List TextLine → Option Doubt → Type 0
IsWholeDoubt scramble steps text lines told =
    TellsWhole (is_beyond scramble steps lines) (read_line scramble) (first_steps steps) (bounds_of steps) text lines told
