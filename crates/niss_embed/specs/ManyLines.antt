-- What a call tells that answers each line of a text, one after another as long as there is room.
use Rattle.std.specs.Prelude.{◌≡◌, ℕ, ◌<◌, ◌≤◌, Bool, true, false, List, [], ◌++◌, drop, length, get_or}
use Rattle.niss_shell.specs.Lines.{ended_lines, last_part}
use Rattle.niss_shell.specs.Names.{Step}
use Rattle.niss_shell.specs.Output.{line_with_bytes}
use Rattle.niss_embed.specs.LineSearch.{CountsLine}
use Rattle.niss_embed.specs.declared.line.search.Wanted.{Wanted}
use Rattle.niss_lines.specs.LineFacts.{facts_of}
use Rattle.niss_lines.specs.LineCalls.{status_number}
use Rattle.niss_embed.specs.declared.line.search_answer.SearchAnswer.{SearchAnswer}
use Rattle.niss_lines.specs.declared.fact_answers.FactsAnswer.{FactsAnswer}
use Rattle.niss_embed.specs.declared.line.many_lines.LinesAnswer.{LinesAnswer}
use Rattle.niss_lines.specs.declared.answer.Status.TheVariants.{Done, Usage}

-- the lines of a text, as the program reads them: those that a line feed ends, and what stands after the last one if it
-- has a byte
unfoldable pub text_lines : List ℕ → List (List ℕ)
text_lines text = ended_lines [] text ++ line_with_bytes (last_part [] text)

-- so many lines and bytes were taken
abbrev pub taken : (lines bytes : ℕ) → LinesAnswer
taken lines bytes = record { status = status_number Done; lines = lines; bytes = bytes }

module _ {T : Type 0} (answers : List ℕ → T → Type 0) where
  -- The answers to these lines stand in the room, and what is after them is as it was.
  pub record AnswersFirst (lines : List (List ℕ)) (before after : List T) : Type 0 where
    pub each : (i : ℕ) (other : T) → i < length lines → answers (get_or lines i []) (get_or after i other)
    pub after_them : drop (length lines) after ≡ drop (length lines) before
    pub same_length : length after ≡ length before

  -- So many lines of a text are answered, which are so many bytes of it: all lines, or as many as there is room for.
  pub record AnswersLines (text : List ℕ) (before after : List T) (told : LinesAnswer) : Type 0 where
    pub status : told.status ≡ status_number Done
    pub answered : List (List ℕ)
    pub count : length answered ≡ told.lines
    pub rest : text_lines text ≡ answered ++ text_lines (drop told.bytes text)
    pub within : told.bytes ≤ length text
    pub room : told.lines ≤ length before
    pub all : told.lines < length before → told.bytes ≡ length text
    pub first : AnswersFirst answered before after

-- The counts of the lines by the tables of a step that a caller keeps, or by none.
abbrev pub CountsLinesWith : Bool → Step → Wanted → List ℕ → (before after : List SearchAnswer) → LinesAnswer → Type 0
CountsLinesWith false step w text before after told =
    (told ≡ record { status = status_number Usage; lines = 0; bytes = 0 }) × (after ≡ before)
CountsLinesWith true step w text before after told = AnswersLines (CountsLine step w) text before after told

-- These are the facts of a line.
abbrev pub TellsFacts : List ℕ → FactsAnswer → Type 0
TellsFacts line told = told ≡ facts_of line
