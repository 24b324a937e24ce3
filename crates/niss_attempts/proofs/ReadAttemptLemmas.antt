-- What is told of a scramble and steps as they are read is told of them as they are written, and what of those that aren't read.
use Rattle.std.proofs.Common.{◌≡◌, ℕ, true, false, Bool, Result, Ok, Err, List, refl, subst, sym}
use Rattle.niss_moves.specs.Line.{Moves}
use Rattle.niss_moves.specs.Reader.{read_line}
use Rattle.niss_moves.specs.declared.fault.ReadFault.{ReadFault}
use Rattle.niss_lines.specs.declared.answer.Status.TheVariants.{Done, Stopped}
use Rattle.niss_attempts.specs.Parts.{IsAnswerTo, Tells, TellsPart, are_too_long, bounds_of, end_of_steps, first_steps, no_part}
use Rattle.niss_attempts.specs.ReadAttempt.{AreRead, IsUnread}
use Rattle.niss_attempts.specs.declared.steps.corners.AttemptCorners.{AttemptCorners}
use Rattle.niss_attempts.specs.declared.steps.parts.PartAnswer.{PartAnswer}
use Rattle.niss_attempts.specs.declared.steps.parts.Solving.TheVariants as solve
use Rattle.niss_attempts.specs.declared.steps.read_attempt.Unread.TheVariants.{Faulty}

pub as_written : (P : Result Moves ReadFault → (steps bounds : List ℕ) → Type 0) (scramble steps : List ℕ) (moves : Moves) (first bounds : List ℕ) (does : AttemptCorners) →
    AreRead scramble steps moves first bounds does → P (Ok moves) first bounds → P (read_line scramble) (first_steps steps) (bounds_of steps)
as_written P scramble steps moves first bounds does read it =
    subst (λ (r : Result Moves ReadFault). P r (first_steps steps) (bounds_of steps)) (sym read.scramble_is)
    (subst (λ (s : List ℕ). P (Ok moves) s (bounds_of steps)) read.steps_are (subst (λ (b : List ℕ). P (Ok moves) first b) read.bounds_are it))

-- the answer to what has room
pub tells_answer : (scramble steps : List ℕ) (answer : PartAnswer) → are_too_long scramble (end_of_steps (bounds_of steps)) ≡ false →
    IsAnswerTo (read_line scramble) (first_steps steps) (bounds_of steps) answer → TellsPart scramble steps answer
tells_answer scramble steps answer fits it = subst (λ (long : Bool). Tells long scramble (first_steps steps) (bounds_of steps) answer) (sym fits) it

pub tells_too_long : (scramble steps : List ℕ) (answer : PartAnswer) → are_too_long scramble (end_of_steps (bounds_of steps)) ≡ true → answer ≡ no_part Stopped →
    TellsPart scramble steps answer
tells_too_long scramble steps answer long it = subst (λ (long : Bool). Tells long scramble (first_steps steps) (bounds_of steps) answer) (sym long) it

-- Nothing solves a scramble that can't be read.
no_answer : (fault : ReadFault) (steps bounds : List ℕ) → IsAnswerTo (Err fault) steps bounds (no_part Done)
no_answer fault steps bounds =
    (solve.Nothing, ((((λ q among. refl), refl, (λ set among. refl)), (λ k less. refl)), refl), refl)

pub tells_faulty : (scramble steps : List ℕ) → IsUnread scramble steps Faulty → TellsPart scramble steps (no_part Done)
tells_faulty scramble steps (fault, fits, is) =
    tells_answer scramble steps (no_part Done) fits
    (subst (λ (r : Result Moves ReadFault). IsAnswerTo r (first_steps steps) (bounds_of steps) (no_part Done)) (sym is)
    (no_answer fault (first_steps steps) (bounds_of steps)))
