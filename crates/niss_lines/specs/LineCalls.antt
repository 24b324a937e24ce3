-- What a call that writes a short text returns, and what it leaves in the caller's buffer.
use Rattle.std.specs.Prelude.{ℕ, zero, suc, ◌≡◌, nat_le, nat_lt, if◌then◌else◌, codes, Option, None, Some, Result, Ok}
use Rattle.std.specs.Prelude.{Err}
use Rattle.std.specs.Prelude.{List, [], ◌∷◌, ◌++◌, drop, length, flat_map, slice_get}
use Rattle.niss_moves.specs.declared.fault.ReadFault.{ReadFault}
use Rattle.niss_moves.specs.declared.fault.ReadFault.TheVariants as fault
use Rattle.niss_moves.specs.Faults.{fault_column, fault_text}
use Rattle.niss_moves.specs.Line.{Moves}
use Rattle.niss_moves.specs.Reader.{read_line}
use Rattle.niss_shell.specs.declared.command.Rewriting.{Rewriting}
use Rattle.niss_moves.specs.Text.{with_words, turn_words}
use Rattle.niss_cube.specs.Steps.{steps}
use Rattle.niss_shell.specs.Names.{Step}
use Rattle.niss_shell.specs.Words.{most_bytes, most_turns, step_named}
use Rattle.niss_shell.specs.Output.{line_text, step_line, start_text}
use Rattle.niss_shell.specs.Output.{generator_of, scramble}
use Rattle.niss_lines.specs.declared.answer.Status.{Status}
use Rattle.niss_lines.specs.declared.answer.Status.TheVariants as status
use Rattle.niss_lines.specs.declared.answer.LineAnswer.{LineAnswer}

-- the number by which C knows how a call ended
abbrev pub status_number : Status → ℕ
status_number status.Done = 0
status_number status.Fault = 1
status_number status.Usage = 2
status_number status.Stopped = 3
status_number status.NoRoom = 4
status_number status.Cut = 5

-- room enough for each short text
abbrev pub enough_bytes : ℕ
enough_bytes = 2048

-- how a call that writes a short text can end
pub data Outcome : Type 0 where
  -- its text is written
  Written : List ℕ → Outcome
  -- its text is longer than the buffer
  ShortOfRoom : List ℕ → Outcome
  -- it has a fault
  Unread : ReadFault → Outcome
  -- it has too many bytes
  TooLong : Outcome
  -- what it asks for isn't there: a number out of range, or no step of a name
  Misused : Outcome

abbrev pub fault_number : ReadFault → ℕ
fault_number (fault.NotAMove column) = 1
fault_number (fault.Nested column) = 2
fault_number (fault.Unopened column) = 3
fault_number (fault.Unclosed column) = 4
fault_number (fault.TooLong column) = 5

-- an answer that tells of no fault
abbrev pub plain_answer : Status → ℕ → LineAnswer
plain_answer ended length = record { status = status_number ended; fault = 0; column = 0; length = length }

-- what is returned if a call ends so
abbrev pub answer_for : Outcome → LineAnswer
answer_for (Written text) = plain_answer status.Done (length text)
answer_for (ShortOfRoom text) = plain_answer status.NoRoom (length text)
answer_for (Unread fault) =
    record { status = status_number status.Fault; fault = fault_number fault; column = fault_column fault; length = 0 }
answer_for TooLong = plain_answer status.Stopped 0
answer_for Misused = plain_answer status.Usage 0

-- the buffer afterwards: the text and what stood after it, or what it was
abbrev pub buffer_after : Outcome → List ℕ → List ℕ
buffer_after (Written text) out = text ++ drop (length text) out
buffer_after (ShortOfRoom text) out = out
buffer_after (Unread fault) out = out
buffer_after TooLong out = out
buffer_after Misused out = out

-- What a call that ends so returns, and what it does to the buffer.
pub record Does (outcome : Outcome) (out out_now : List ℕ) (answer : LineAnswer) : Type 0 where
  pub answers : answer ≡ answer_for outcome
  pub leaves : out_now ≡ buffer_after outcome out

-- how a call ends that has this text to write, and a buffer of so many bytes
abbrev pub outcome_of_text : ℕ → List ℕ → Outcome
outcome_of_text room text = if nat_le (length text) room then Written text else ShortOfRoom text

abbrev pub outcome_of_moves : Rewriting → ℕ → Result Moves ReadFault → Outcome
outcome_of_moves rewriting room (Ok line) = outcome_of_text room (line_text rewriting line)
outcome_of_moves rewriting room (Err fault) = Unread fault

-- how a call on a line ends, which writes what the program writes of it, up to the line feed
abbrev pub outcome_of : Rewriting → ℕ → List ℕ → Outcome
outcome_of rewriting room line =
    if nat_lt most_bytes (length line) then TooLong else outcome_of_moves rewriting room (read_line line)

-- what a call does that writes this of a line
abbrev pub Rewrites : Rewriting → (line out out_now : List ℕ) → LineAnswer → Type 0
Rewrites rewriting line out out_now answer =
    Does (outcome_of rewriting (length out) line) out out_now answer

-- how a call ends that writes the first scramble of so many turns by the generator of a state and a stream
abbrev pub outcome_of_scramble : (room state stream turns : ℕ) → Outcome
outcome_of_scramble room state stream turns =
    if nat_le turns most_turns
    then outcome_of_text room (with_words [] (turn_words (scramble turns (generator_of state stream) 0)))
    else Misused

-- how a call ends that writes the names of the steps
abbrev pub outcome_of_steps : ℕ → Outcome
outcome_of_steps room = outcome_of_text room (flat_map step_line steps)

-- how a call ends that writes which step must hold before this one, or before that of a name
abbrev pub outcome_of_start_of : ℕ → Option Step → Outcome
outcome_of_start_of room None = Misused
outcome_of_start_of room (Some step) = outcome_of_text room (start_text step)

abbrev pub outcome_of_start : ℕ → List ℕ → Outcome
outcome_of_start room name = outcome_of_start_of room (step_named name)

-- what the faults are called, from number 1 on
abbrev pub fault_texts : List (List ℕ)
fault_texts =
    fault_text (fault.NotAMove 0) ∷ fault_text (fault.Nested 0) ∷ fault_text (fault.Unopened 0)
    ∷ fault_text (fault.Unclosed 0) ∷ fault_text (fault.TooLong 0) ∷ codes "does not hold" ∷ []

-- what the fault of a number is called
abbrev pub fault_text_of : ℕ → Option (List ℕ)
fault_text_of zero = None
fault_text_of (suc n) = slice_get fault_texts n

-- how a call ends that writes a text which may not be there
abbrev pub outcome_of_some : ℕ → Option (List ℕ) → Outcome
outcome_of_some room None = Misused
outcome_of_some room (Some text) = outcome_of_text room text
