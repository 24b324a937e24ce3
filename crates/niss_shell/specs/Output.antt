-- What a run is to write and to return.
use Rattle.std.specs.Prelude.{◌≡◌, ℕ, zero, suc, ◌+◌, ◌*◌, nat_lt, Bool, true, false, if◌then◌else◌, codes, decimal}
use Rattle.std.specs.Prelude.{Option, Some, None, Result, Ok, Err, List, [], ◌∷◌, ◌++◌, map, flat_map, take, length, unwrap_or}
use Rattle.std.specs.List.{range_with_len}
use Rattle.niss_shell.specs.Device.{Ending, More, End, Fail}
use Rattle.niss_shell.specs.Lines.{line_feed, space, ended_lines, last_part}
use Rattle.niss_cube.specs.Steps.{name_of, start_name_of, steps, turns_of, may_start}
use Rattle.niss_moves.specs.Cleaning.{with_clean_line}
use Rattle.niss_moves.specs.Effects.{effect, effect_of_turns, inverse}
use Rattle.niss_moves.specs.Rotations.{faces}
use Rattle.niss_moves.specs.Faults.{fault_column, fault_text}
use Rattle.niss_moves.specs.Facelets.{letters}
use Rattle.niss_moves.specs.Line.{Moves, joined_moves}
use Rattle.niss_moves.specs.Places.{Place}
use Rattle.niss_moves.specs.Reader.{read_line}
use Rattle.niss_moves.specs.Text.{word, with_words, turn_words}
use Rattle.niss_search.specs.Cubes.{least_length_of, near_solutions_of, near_looks_of}
use Rattle.niss_search.specs.Solutions.{look_bound}
use Rattle.niss_search.specs.declared.searching.Outcome.{Outcome}
use Rattle.niss_search.specs.Draw.{next_words, after_words, draw}
use Rattle.rand_pcg.specs.Lcg.{Lcg, started as started_lcg, increment_of}
use Rattle.rand_pcg.specs.Pcg.{multiplier_64}
use Rattle.niss_shell.specs.Words.{most_bytes, Request, OnLines, ListSteps, DrawScrambles, request_of, joined}
use Rattle.niss_shell.specs.Names.{UsageFault, LineCommand, Rewrite, Search, Query, Solutions, Counts, Rewriting}
use Rattle.niss_shell.specs.Names.{Invert, Unniss, Cleanup, Print, LineFault, Unread, NoStart, Stop, Line}
use Rattle.niss_shell.specs.Names.{Usage, InputTooLong, CannotRead, CannotWrite, OutOfMemory, Step, Token, Turn, ReadFault}

-- the name of the step that must hold before this one
abbrev pub start_text : Step → List ℕ
start_text step = unwrap_or (start_name_of step) []

abbrev pub line_fault_text : ℕ → LineFault → List ℕ
line_fault_text n (Unread fault) =
    codes "nissy: line " ++ decimal n ++ codes ", column " ++ decimal (fault_column fault) ++ codes ": "
    ++ fault_text fault ++ line_feed ∷ []
line_fault_text n (NoStart step) =
    codes "nissy: line " ++ decimal n ++ codes ": " ++ start_text step ++ codes " does not hold"
    ++ line_feed ∷ []

-- the text of what stops a run
abbrev pub stop_text : Stop → List ℕ
stop_text (Line n fault) = line_fault_text n fault
stop_text Usage = codes "usage: nissy COMMAND [ARGUMENTS]" ++ line_feed ∷ []
stop_text InputTooLong = codes "nissy: input longer than 16777216 bytes" ++ line_feed ∷ []
stop_text CannotRead = codes "nissy: cannot read" ++ line_feed ∷ []
stop_text CannotWrite = codes "nissy: cannot write" ++ line_feed ∷ []
stop_text OutOfMemory = codes "nissy: out of memory" ++ line_feed ∷ []

-- its exit status
abbrev pub stop_status : Stop → ℕ
stop_status (Line n fault) = 1
stop_status Usage = 2
stop_status InputTooLong = 3
stop_status CannotRead = 3
stop_status CannotWrite = 3
stop_status OutOfMemory = 3

-- what is written on the error writer
abbrev pub error_text : Result (Unit {0}) Stop → List ℕ
error_text (Ok u) = []
error_text (Err stop) = stop_text stop

-- so many bytes it has at most
abbrev pub most_error_text : ℕ
most_error_text = 128

-- the exit status
abbrev pub status_of : Result (Unit {0}) Stop → ℕ
status_of (Ok u) = 0
status_of (Err stop) = stop_status stop

-- the words with single spaces
abbrev pub tokens_text : List Token → List ℕ
tokens_text tokens = with_words [] (map word tokens)

-- what is written for a line without a search, up to the line feed
abbrev pub line_text : Rewriting → Moves → List ℕ
line_text Invert line = tokens_text (inverse (joined_moves line))
line_text Unniss line = tokens_text (joined_moves line)
line_text Cleanup line = with_clean_line [] line
line_text Print line = letters (effect (joined_moves line))

-- the cube of a line, by where it has each sticker: the effect of its face turns, with its rotations pushed to the end
abbrev pub home : Moves → Place → Place
home line q = effect_of_turns (faces (joined_moves line)) q

-- the turns with single spaces, and a space after them if there are any
abbrev pub turns_text : List Turn → List ℕ
turns_text [] = []
turns_text (turn ∷ turns) = with_words [] (turn_words (turn ∷ turns)) ++ space ∷ []

-- a solution on a line: its turns, and their number in brackets
abbrev pub solution_line : List Turn → List ℕ
solution_line turns = turns_text turns ++ codes "(" ++ decimal (length turns) ++ codes ")" ++ line_feed ∷ []

-- the line that says that there are no solutions, if they are 0
abbrev pub none_line : ℕ → ℕ → List ℕ
none_line n zero = codes "no solution within " ++ decimal n ++ codes " moves" ++ line_feed ∷ []
none_line n (suc count) = []

-- each solution on a line, or that there are none, and an empty line
abbrev pub solve_text : ℕ → List (List Turn) → List ℕ
solve_text n solutions = flat_map solution_line solutions ++ none_line n (length solutions) ++ line_feed ∷ []

abbrev pub length_text : Option ℕ → List ℕ
length_text None = codes "none"
length_text (Some k) = decimal k

abbrev pub count_text : Option ℕ → ℕ → ℕ → List ℕ
count_text least solutions looks =
    codes "length " ++ length_text least ++ codes " solutions " ++ decimal solutions
    ++ codes " nodes " ++ decimal looks ++ line_feed ∷ []

-- A search from a cube found this: the least length of a solution, and how many there are.
pub record Finds (step : Step) (n slack : ℕ) (e : Place → Place) (outcome : Outcome) : Type 0 where
  pub length_is : outcome.length ≡ least_length_of step e n
  pub solutions_are : outcome.solutions ≡ length (near_solutions_of step e n slack)

-- the most turns that a search allows a solution, and how many it allows more than the least
abbrev pub limit_of : Query → ℕ
limit_of (Solutions n slack) = n
limit_of (Counts n) = n

abbrev pub slack_of : Query → ℕ
slack_of (Solutions n slack) = slack
slack_of (Counts n) = 0

-- what is written of the search for a step from a cube
abbrev pub search_text : Step → Query → (Place → Place) → List ℕ
search_text step (Solutions n slack) e = solve_text n (near_solutions_of step e n slack)
search_text step (Counts n) e =
    count_text (least_length_of step e n) (length (near_solutions_of step e n 0)) (near_looks_of step e n 0)

-- What is to be written, how the run is to end, the looks that all of it takes, and the most that it may take.
pub record Answer : Type 0 where
  pub output : List ℕ
  pub outcome : Result (Unit {0}) Stop
  pub looks : ℕ
  pub most_looks : ℕ

-- an answer without a search
abbrev pub unsearched : List ℕ → Result (Unit {0}) Stop → Answer
unsearched output outcome = record { output = output; outcome = outcome; looks = 0; most_looks = 0 }

-- the fault of line n as an answer
abbrev pub fault_answer : ℕ → LineFault → Answer
fault_answer n fault = unsearched [] (Err (Line n fault))

-- the answer to what was found in line n, or the fault of the line
abbrev pub answer_from : {X : Type 0} → (X → Answer) → ℕ → Result X LineFault → Answer
answer_from answer n (Ok x) = answer x
answer_from answer n (Err fault) = fault_answer n fault

-- the answer of a search for a step from a cube
abbrev pub searched : Step → Query → (Place → Place) → Answer
searched step query e = record {
  output = search_text step query e;
  outcome = Ok tt;
  looks = near_looks_of step e (limit_of query) (slack_of query);
  most_looks = look_bound (turns_of step) (limit_of query);
}

-- the cube, if the step may start on it
abbrev pub started : Step → Bool → (Place → Place) → Result (Place → Place) LineFault
started step true e = Ok e
started step false e = Err (NoStart step)

-- the cube that a search for a step begins at if a line was read so: that of the line, or the fault of the line
abbrev pub start_cube : Step → Result Moves ReadFault → Result (Place → Place) LineFault
start_cube step (Ok line) = started step (may_start step (home line)) (home line)
start_cube step (Err fault) = Err (Unread fault)

-- the answer of a command to line n, by its moves
abbrev pub moves_answer : LineCommand Step → ℕ → Moves → Answer
moves_answer (Rewrite rewriting) n line = unsearched (line_text rewriting line ++ line_feed ∷ []) (Ok tt)
moves_answer (Search step query) n line = answer_from (searched step query) n (start_cube step (Ok line))

-- the answer of a command to line n, by what was read of it
abbrev pub answer_to : LineCommand Step → ℕ → Result Moves ReadFault → Answer
answer_to command n (Ok line) = moves_answer command n line
answer_to command n (Err fault) = fault_answer n (Unread fault)

-- the answer of a command to line n, by its bytes
abbrev pub line_answer : LineCommand Step → ℕ → List ℕ → Answer
line_answer command n bytes = answer_to command n (read_line bytes)

-- what is answered to each line, by its number and its bytes
abbrev pub LineAnswers : Type 0
LineAnswers = ℕ → List ℕ → Answer

-- an answer that ends so, and the one after it: nothing comes after a fault
abbrev pub joined_answer : Result (Unit {0}) Stop → Answer → Answer → Answer
joined_answer (Ok u) first next = record {
  output = first.output ++ next.output;
  outcome = next.outcome;
  looks = first.looks + next.looks;
  most_looks = first.most_looks + next.most_looks;
}
joined_answer (Err stop) first next = first

abbrev pub then_answer : Answer → Answer → Answer
then_answer first next = joined_answer first.outcome first next

-- the answers to lines, the first of which has the number n, up to the first fault
unfoldable pub answers_from : LineAnswers → ℕ → List (List ℕ) → Answer
answers_from answers n [] = unsearched [] (Ok tt)
answers_from answers n (line ∷ lines) = then_answer (answers n line) (answers_from answers (n + 1) lines)

-- the line alone, or no line if it has no byte
abbrev pub line_with_bytes : List ℕ → List (List ℕ)
line_with_bytes [] = []
line_with_bytes (b ∷ bytes) = (b ∷ bytes) ∷ []

-- a last line without a line feed counts if it has a byte, at the end of an input that isn't too long
abbrev pub last_line : Ending → List ℕ → List (List ℕ)
last_line End input = if nat_lt most_bytes (length input) then [] else line_with_bytes (last_part [] input)
last_line More input = []
last_line Fail input = []

abbrev pub complete_lines : List ℕ → Ending → List (List ℕ)
complete_lines input ended = ended_lines [] (take most_bytes input) ++ last_line ended input

abbrev pub outcome_at_end : Ending → Result (Unit {0}) Stop
outcome_at_end Fail = Err CannotRead
outcome_at_end End = Ok tt
outcome_at_end More = Ok tt

-- how a run ends whose lines have no fault
abbrev pub outcome_of_input : List ℕ → Ending → Result (Unit {0}) Stop
outcome_of_input input ended = if nat_lt most_bytes (length input) then Err InputTooLong else outcome_at_end ended

-- the answers to the complete lines of an input, up to the first fault
abbrev pub answer_lines : LineAnswers → List ℕ → Ending → Answer
answer_lines answers input ended =
    then_answer (answers_from answers 1 (complete_lines input ended)) (unsearched [] (outcome_of_input input ended))

-- Words that give the input take the source's place, and are refused as a whole if they are too long.
abbrev pub answer_on_lines : LineAnswers → List (List ℕ) → List ℕ → Ending → Answer
answer_on_lines answers [] input ended = answer_lines answers input ended
answer_on_lines answers (word ∷ words) input ended =
    if nat_lt most_bytes (length (joined (word ∷ words)))
    then unsearched [] (Err InputTooLong)
    else answer_lines answers (joined (word ∷ words)) End

-- the generator of a state and a stream
abbrev pub generator_of : ℕ → ℕ → Lcg
generator_of state stream = started_lcg 64 multiplier_64 state (increment_of 64 stream)

-- Scramble number i, from 0, of so many turns. It takes its words after those of the scrambles before it, to which the
-- generator jumps ahead, and begins with no turn before it: so it is told without those.
abbrev pub scramble : ℕ → Lcg → ℕ → List Turn
scramble turns g i = draw None (next_words turns (after_words (turns * i) g))

-- the first scrambles
abbrev pub scrambles : ℕ → ℕ → Lcg → List (List Turn)
scrambles turns count g = map (scramble turns g) (range_with_len 0 count)

-- turns as words on a line
abbrev pub turns_line : List Turn → List ℕ
turns_line turns = with_words [] (turn_words turns) ++ line_feed ∷ []

-- the scrambles, each on a line
abbrev pub scramble_text : ℕ → ℕ → Lcg → List ℕ
scramble_text turns count g = flat_map turns_line (scrambles turns count g)

-- a step's name on a line
abbrev pub step_line : Step → List ℕ
step_line step = name_of step ++ line_feed ∷ []

abbrev pub answer_request : Result Request UsageFault → List ℕ → Ending → Answer
answer_request (Err fault) input ended = unsearched [] (Err Usage)
answer_request (Ok (OnLines command words)) input ended =
    answer_on_lines (line_answer command) words input ended
answer_request (Ok ListSteps) input ended = unsearched (flat_map step_line steps) (Ok tt)
answer_request (Ok (DrawScrambles state stream turns count)) input ended =
    unsearched (scramble_text turns count (generator_of state stream)) (Ok tt)

-- what a run with these words is to write and to return, if the source gave this input and its reads ended so
abbrev pub out_of : List (List ℕ) → List ℕ → Ending → Answer
out_of words input ended = answer_request (request_of words) input ended
