-- A scramble and the steps of an attempt at it, as they are read, or why they aren't.
use Rattle.std.specs.Prelude.{◌≡◌, ℕ, true, false, Ok, Err, List}
use Rattle.niss_moves.specs.Line.{Moves}
use Rattle.niss_moves.specs.Reader.{read_line}
use Rattle.niss_moves.specs.declared.fault.ReadFault.{ReadFault}
use Rattle.niss_attempts.specs.Between.{AreKnown}
use Rattle.niss_attempts.specs.Parts.{are_too_long, bounds_of, end_of_steps, first_steps}
use Rattle.niss_attempts.specs.declared.steps.WholeSteps.{WholeSteps}
use Rattle.niss_attempts.specs.declared.steps.corners.AttemptCorners.{AttemptCorners}
use Rattle.niss_attempts.specs.declared.steps.read_attempt.ReadAttempt.{ReadAttempt}
use Rattle.niss_attempts.specs.declared.steps.read_attempt.Unread.{Unread}
use Rattle.niss_attempts.specs.declared.steps.read_attempt.Unread.TheVariants.{TooLong, Faulty}

-- The moves are those of a scramble, and the bytes and places those of the steps that are looked at; neither has too many bytes.
pub record AreRead (scramble steps : List ℕ) (moves : Moves) (first bounds : List ℕ) (does : AttemptCorners) : Type 0 where
  pub fits : are_too_long scramble (end_of_steps (bounds_of steps)) ≡ false
  pub scramble_is : read_line scramble ≡ Ok moves
  pub steps_are : first ≡ first_steps steps
  pub bounds_are : bounds ≡ bounds_of steps
  pub are_known : AreKnown moves first bounds does

abbrev pub IsReadAttempt : (scramble steps : List ℕ) → ReadAttempt → Type 0
IsReadAttempt scramble steps it = AreRead scramble steps it.scramble.now it.steps.now it.bounds.items it.corners

abbrev pub AreReadWhole : (scramble steps : List ℕ) → WholeSteps → Type 0
AreReadWhole scramble steps it = AreRead scramble steps it.scramble.now it.steps.now it.bounds.now it.corners.now

-- A scramble, or the steps up to their last end, have too many bytes, or else the scramble a fault.
abbrev pub IsUnread : (scramble steps : List ℕ) → Unread → Type 0
IsUnread scramble steps TooLong = are_too_long scramble (end_of_steps (bounds_of steps)) ≡ true
IsUnread scramble steps Faulty = (fault : ReadFault) × (are_too_long scramble (end_of_steps (bounds_of steps)) ≡ false) × (read_line scramble ≡ Err fault)
