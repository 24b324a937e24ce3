-- What makes one doubt that an attempt is read as it was meant, and the moves of some lines of a text.
use Rattle.std.specs.Prelude.{◌≡◌, ℕ, ◌*◌, ◌≤◌, IsOk, Option, None, Some, Result, List, length}
use Rattle.niss_text.specs.Moves.{AreJoined, most_bytes}
use Rattle.niss_text.specs.declared.left_out.LeftOut.{LeftOut}
use Rattle.niss_text.specs.declared.moves.MovesOf.{MovesOf}
use Rattle.niss_text.specs.declared.moves.MovesPart.{MovesPart}
use Rattle.niss_text.specs.declared.text_line.TextLine.{TextLine}
use Rattle.niss_attempts.specs.declared.doubts.Doubt.{Doubt}
use Rattle.niss_attempts.specs.declared.doubts.Reason.{Reason}
use Rattle.niss_attempts.specs.declared.doubts.Reason.TheVariants.{OfLine, AnotherScramble, SeveralSolutions, Comment, Insertion, Part, WhichScramble, StepOrScramble, Signs, AnotherAttempt}
use Rattle.niss_attempts.specs.declared.attempts.written.NoRoom.{NoRoom}

-- the place of what has none in the text
abbrev pub no_place : ℕ
no_place = 18446744073709551615

-- The wanted moves of some lines of a text are this line, with these places; which of their signs are blanks is open.
pub record AreWritten (text : List ℕ) (of : MovesOf) (lines : List TextLine) (bytes places : List ℕ) : Type 0 where
  pub left : LeftOut
  pub room : ℕ
  pub parts : List MovesPart
  pub joined : AreJoined text of lines bytes places left room parts

-- A call that writes so many bytes of moves at most, and their places, has room for them.
abbrev pub IsOkIfRoom : {X : Type 0} → (bytes : ℕ) → (out places : List ℕ) → Result X NoRoom → Type 0
IsOkIfRoom bytes out places result = bytes ≤ length out → bytes ≤ length places → IsOk result

-- The same of a call that checks an attempt of either some lines or others, each with room for its scramble and its solution.
abbrev pub IsOkIfRoomForEither : {X : Type 0} → (own beside : List TextLine) → (out places : List ℕ) → Result X NoRoom → Type 0
IsOkIfRoomForEither own beside out places result =
    2 * most_bytes own ≤ length out → 2 * most_bytes own ≤ length places → 2 * most_bytes beside ≤ length out → 2 * most_bytes beside ≤ length places → IsOk result

-- the number of a reason in an answer
abbrev pub number_of : Reason → ℕ
number_of (OfLine n) = n
number_of AnotherScramble = 1
number_of SeveralSolutions = 2
number_of Comment = 6
number_of Insertion = 8
number_of Part = 9
number_of WhichScramble = 10
number_of StepOrScramble = 11
number_of Signs = 12
number_of AnotherAttempt = 13

abbrev pub doubt : (reason : Reason) (at : ℕ) → Doubt
doubt reason at = record { reason = reason; at = at }

-- the number of a doubt and its place, 0 and none if there is no doubt
abbrev pub number_if : Option Doubt → ℕ
number_if None = 0
number_if (Some doubt) = number_of doubt.reason

abbrev pub place_of : Option Doubt → ℕ
place_of None = no_place
place_of (Some doubt) = doubt.at

-- The first doubt is told, or if there is none, what is so.
abbrev pub IsOrElse : (first : Option Doubt) → (Next : Option Doubt → Type 0) → (told : Option Doubt) → Type 0
IsOrElse (Some it) Next told = told ≡ Some it
IsOrElse None Next told = Next told

-- What is told of the first, or if that is no doubt, of the next.
pub record OrElse (First Next : Option Doubt → Type 0) (told : Option Doubt) : Type 0 where
  pub first : Option Doubt
  pub is_first : First first
  pub told_is : IsOrElse first Next told
