-- All steps of an attempt, and the line of them with bytes between two.
use Rattle.std.specs.Prelude.{ℕ, ◌<◌, ◌≤◌, Bool, Result, List, ◌++◌, length}
use Rattle.niss_moves.specs.Line.{Moves}
use Rattle.niss_moves.specs.Reader.{read_line}
use Rattle.niss_moves.specs.declared.fault.ReadFault.{ReadFault}
use Rattle.niss_attempts.specs.Corners.{AreBounds, IsAttempt}
use Rattle.niss_attempts.specs.Parts.{number_of_steps, solves_line, steps_line, most_step_bytes, most_bounds}
use Rattle.niss_attempts.specs.declared.steps.WholeSteps.{WholeSteps}
use Rattle.niss_attempts.specs.declared.steps.corners.AttemptCorners.{AttemptCorners}

-- all steps as a line, with bytes before the step of a number, or after the last one
abbrev pub line_between : (steps bounds : List ℕ) → ℕ → (bytes : List ℕ) → List ℕ
line_between steps bounds k bytes = steps_line steps bounds 0 k ++ bytes ++ steps_line steps bounds k (number_of_steps bounds)

abbrev pub solves_between : Result Moves ReadFault → (steps bounds : List ℕ) → ℕ → (bytes : List ℕ) → Bool
solves_between scramble steps bounds k bytes = solves_line scramble (read_line (line_between steps bounds k bytes))

-- what is known of all steps, of where they begin and end, and of what they do to the corners, after a scramble
pub record AreKnown (scramble : Moves) (steps bounds : List ℕ) (does : AttemptCorners) : Type 0 where
  pub few : (0 < length bounds) × (length bounds ≤ most_bounds)
  pub are_bounds : AreBounds bounds
  pub room : length steps ≤ most_step_bytes
  pub corners : IsAttempt does scramble steps bounds

abbrev pub AreWhole : WholeSteps → Type 0
AreWhole it = AreKnown it.scramble.now it.steps.now it.bounds.now it.corners.now
