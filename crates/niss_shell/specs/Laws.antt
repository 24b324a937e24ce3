-- What holds of all texts and of all lines, each proved as the contract of a function.
use Rattle.std.specs.Prelude.{◌≡◌, ℕ, ◌+◌, ◌≤◌, Result, Ok, Err, List, [], ◌++◌, length, IsTrue}
use Rattle.niss_moves.specs.Line.{Moves, Spells}
use Rattle.niss_cube.specs.Steps.{turns_of, may_start}
use Rattle.niss_search.specs.Cubes.{solutions_of, all_looks_of}
use Rattle.niss_search.specs.Solutions.{look_bound}
use Rattle.niss_shell.specs.Lines.{line_feed, ended_lines, last_part, IsCutAt}
use Rattle.niss_shell.specs.Device.{More, End}
use Rattle.niss_shell.specs.Words.{Request}
use Rattle.niss_shell.specs.Output.{Answer, answer_request, home, solve_text, line_answer}
use Rattle.niss_shell.specs.Names.{Step, Search, Solutions, UsageFault, Stop}

-- A text is cut into the lines that a line feed ends, and what stands after the last one.
abbrev pub TextIsCut : Type 0
TextIsCut = (text : List ℕ) → IsCutAt line_feed text (ended_lines [] text) (last_part [] text)

-- There is no other cut.
abbrev pub OneCut : Type 0
OneCut =
    (text : List ℕ) (lines : List (List ℕ)) (last : List ℕ) → IsCutAt line_feed text lines last →
    (lines ≡ ended_lines [] text) × (last ≡ last_part [] text)

-- The answer is all solutions of least length within n, in turn order, or that there are none; and the looks of all
-- deepenings are within the bound.
pub record Solves (step : Step) (n : ℕ) (line : Moves) (answer : Answer) : Type 0 where
  pub text : answer.output ≡ solve_text n (solutions_of step (home line) n)
  pub good : answer.outcome ≡ Ok tt
  pub looks : answer.looks ≡ all_looks_of step (home line) n
  pub within : all_looks_of step (home line) n ≤ look_bound (turns_of step) n

-- So `solve` answers every line that spells at most 256 moves, for every step that may start on its cube.
abbrev pub AcceptedLinesAreSolved : Type 0
AcceptedLinesAreSolved =
    (step : Step) (n i : ℕ) (bytes : List ℕ) (line : Moves) →
    Spells bytes line.normal line.bracketed → length line.normal + length line.bracketed ≤ 256 →
    IsTrue (may_start step (home line)) → Solves step n line (line_answer (Search step (Solutions n 0)) i bytes)

-- What is written of a part of an input is a beginning of what is written of the whole. A fault of the part is that of the
-- whole, and nothing is written after it.
pub record Begins (part whole : Answer) : Type 0 where
  pub rest : List ℕ
  pub beginning : part.output ++ rest ≡ whole.output
  pub stopped : (stop : Stop) → part.outcome ≡ Err stop → (whole.output ≡ part.output) × (whole.outcome ≡ Err stop)

-- So it is for every request, and every input of which more comes.
abbrev pub MoreInputKeepsAnswers : Type 0
MoreInputKeepsAnswers =
    (asked : Result Request UsageFault) (input more : List ℕ) →
    Begins (answer_request asked input More) (answer_request asked (input ++ more) End)
