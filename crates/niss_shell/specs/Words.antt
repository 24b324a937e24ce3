-- The words of a command line.
use Rattle.std.specs.Prelude.{◌≡◌, ℕ, ◌-◌, ◌^◌, ◌≤◌, nat_le, nat_lt, if◌then◌else◌, bytes_eq, codes, Bool, true, false, ◌&&◌}
use Rattle.std.specs.Prelude.{Option, Some, None, find, Result, Ok, Err, List, [], ◌∷◌, ◌++◌, length, map, flat_map, string_bytes}
use Rattle.std.specs.Char.{is_ascii_digit}
use Rattle.std.specs.List.{list_all}
use Rattle.std.specs.Str.Parse.{digits_value}
use Rattle.niss_cube.specs.Steps.{name_of, steps}
use Rattle.niss_shell.specs.Names.{Step, UsageFault, NoCommand, UnknownCommand, WrongCount, BadNumber, UnknownStep}
use Rattle.niss_shell.specs.Names.{LineCommand, Rewrite, Search, Query, Solutions, Counts, Invert, Unniss, Cleanup, Print, Command}
use Rattle.niss_shell.specs.Lines.{line_feed, space}
use Rattle.niss_shell.specs.declared.command.Command.TheVariants as command

-- the most bytes of input
abbrev pub most_bytes : ℕ
most_bytes = 16777216

-- the number that a word of one or more decimal digits spells, if it is at most `most`
abbrev pub spelled_number : ℕ → List ℕ → Option ℕ
spelled_number most word =
    if list_all is_ascii_digit word && nat_lt 0 (length word) && nat_le (digits_value 10 word) most
    then Some (digits_value 10 word)
    else None

-- the step of this name
abbrev pub step_named : List ℕ → Option Step
step_named name = find (λ step. bytes_eq name (name_of step)) steps

-- What the words of a command line ask for.
pub data Request : Type 0 where
  -- a command on each line of these words, or of the source if there are none
  OnLines : LineCommand Step → List (List ℕ) → Request
  -- the names of the steps
  ListSteps : Request
  -- scrambles by one generator: its state and its stream, how many turns each has, and how many scrambles
  DrawScrambles : ℕ → ℕ → ℕ → ℕ → Request

-- a command that takes no words
abbrev pub without_words : Request → List (List ℕ) → Result Request UsageFault
without_words request [] = Ok request
without_words request (word ∷ words) = Err WrongCount

-- the most turns of a solution that may be asked for
abbrev pub most_limit : ℕ
most_limit = 20

-- the request for a search, if the step and both numbers are known
abbrev pub search_request :
    (ℕ → ℕ → Query) → Option Step → (most slack : Option ℕ) → List (List ℕ) → Result Request UsageFault
search_request query None most slack rest = Err UnknownStep
search_request query (Some step) (Some n) (Some w) rest = Ok (OnLines (Search step (query n w)) rest)
search_request query (Some step) _ _ rest = Err BadNumber

-- a search without slack from its words: the step, the greatest number, and the words that are the input
abbrev pub search_words : (ℕ → ℕ → Query) → List (List ℕ) → Result Request UsageFault
search_words query [] = Err WrongCount
search_words query (step ∷ []) = Err WrongCount
search_words query (step ∷ most ∷ rest) =
    search_request query (step_named step) (spelled_number most_limit most) (Some 0) rest

abbrev pub solve_words : List (List ℕ) → Result Request UsageFault
solve_words words = search_words Solutions words

abbrev pub count_words : List (List ℕ) → Result Request UsageFault
count_words words = search_words (λ n slack. Counts n) words

-- a search with a slack from its words: the step, the greatest number, the slack, and the words that are the input
abbrev pub near_words : List (List ℕ) → Result Request UsageFault
near_words [] = Err WrongCount
near_words (step ∷ []) = Err WrongCount
near_words (step ∷ most ∷ []) = Err WrongCount
near_words (step ∷ most ∷ slack ∷ rest) =
    search_request Solutions (step_named step) (spelled_number most_limit most) (spelled_number most_limit slack) rest

-- the most turns of a scramble, the most scrambles, and the greatest state and stream of a generator
abbrev pub most_turns : ℕ
most_turns = 256

abbrev pub most_scrambles : ℕ
most_scrambles = 10000

abbrev pub most_state : ℕ
most_state = 2 ^ 64 - 1

-- scrambles, if each of the numbers is one
abbrev pub scramble_with : Option ℕ → Option ℕ → Option ℕ → Option ℕ → Result Request UsageFault
scramble_with (Some state) (Some stream) (Some turns) (Some count) =
    Ok (DrawScrambles state stream turns count)
scramble_with _ _ _ _ = Err BadNumber

-- the same from its four words
abbrev pub scramble_words : List (List ℕ) → Result Request UsageFault
scramble_words (state ∷ stream ∷ turns ∷ count ∷ []) =
    scramble_with (spelled_number most_state state) (spelled_number most_state stream)
    (spelled_number most_turns turns) (spelled_number most_scrambles count)
scramble_words _ = Err WrongCount

-- The numbers of a request are in their ranges.
abbrev pub IsInRange : Request → Type 0
IsInRange (DrawScrambles state stream turns count) = (turns ≤ most_turns) × (count ≤ most_scrambles)
IsInRange request = Unit {0}

abbrev pub request_named : List ℕ → List (List ℕ) → Result Request UsageFault
request_named name rest =
    if bytes_eq name (codes "invert") then Ok (OnLines (Rewrite Invert) rest)
    else if bytes_eq name (codes "unniss") then Ok (OnLines (Rewrite Unniss) rest)
    else if bytes_eq name (codes "cleanup") then Ok (OnLines (Rewrite Cleanup) rest)
    else if bytes_eq name (codes "print") then Ok (OnLines (Rewrite Print) rest)
    else if bytes_eq name (codes "solve") then solve_words rest
    else if bytes_eq name (codes "count") then count_words rest
    else if bytes_eq name (codes "near") then near_words rest
    else if bytes_eq name (codes "steps") then without_words ListSteps rest
    else if bytes_eq name (codes "scramble") then scramble_words rest
    else Err UnknownCommand

-- what the words ask for, or their first fault
abbrev pub request_of : List (List ℕ) → Result Request UsageFault
request_of [] = Err NoCommand
request_of (name ∷ rest) = request_named name rest

-- what a command asks for, wherever its words lie
abbrev pub requested : {B : Type 0} → Command B → Request
requested (command.Invert rest) = OnLines (Rewrite Invert) (map string_bytes rest.now)
requested (command.Unniss rest) = OnLines (Rewrite Unniss) (map string_bytes rest.now)
requested (command.Cleanup rest) = OnLines (Rewrite Cleanup) (map string_bytes rest.now)
requested (command.Print rest) = OnLines (Rewrite Print) (map string_bytes rest.now)
requested (command.Solve step n rest) = OnLines (Search step (Solutions n 0)) (map string_bytes rest.now)
requested (command.Count step n rest) = OnLines (Search step (Counts n)) (map string_bytes rest.now)
requested (command.Near step n slack rest) = OnLines (Search step (Solutions n slack)) (map string_bytes rest.now)
requested command.Steps = ListSteps
requested (command.Scramble state stream turns count) = DrawScrambles state stream turns count

-- the first word of a command
abbrev pub name_of_command : {B : Type 0} → Command B → List ℕ
name_of_command (command.Invert rest) = codes "invert"
name_of_command (command.Unniss rest) = codes "unniss"
name_of_command (command.Cleanup rest) = codes "cleanup"
name_of_command (command.Print rest) = codes "print"
name_of_command (command.Solve step n rest) = codes "solve"
name_of_command (command.Count step n rest) = codes "count"
name_of_command (command.Near step n slack rest) = codes "near"
name_of_command command.Steps = codes "steps"
name_of_command (command.Scramble state stream turns count) = codes "scramble"

-- The words ask for this command, which is named as it should be, or have this fault.
abbrev pub Parses : {B : Type 0} → Result (Command B) UsageFault → Result Request UsageFault → Option (List ℕ) → Type 0
Parses (Ok command) asked name =
    (asked ≡ Ok (requested command)) × IsInRange (requested command) × (name ≡ Some (name_of_command command))
Parses (Err fault) asked name = asked ≡ Err fault

abbrev pub spaced_word : List ℕ → List ℕ
spaced_word word = space ∷ word

-- the words with single spaces, and a line feed after them
abbrev pub joined : List (List ℕ) → List ℕ
joined [] = line_feed ∷ []
joined (word ∷ words) = word ++ flat_map spaced_word words ++ line_feed ∷ []

-- The input comes from the source.
abbrev pub reads_source : Result Request UsageFault → Bool
reads_source (Ok (OnLines command [])) = true
reads_source asked = false

-- The command searches, and has tables of its step.
abbrev pub has_step : LineCommand Step → Bool
has_step (Rewrite rewriting) = false
has_step (Search step query) = true

-- The request asks for memory: for the tables of a step, and for the input, if words of at most so many bytes give it.
-- What is written doesn't tell it: that of `invert` is the same whether words or the source give the input.
abbrev pub takes_memory : Result Request UsageFault → Bool
takes_memory (Ok (OnLines command [])) = has_step command
takes_memory (Ok (OnLines command (word ∷ words))) = nat_le (length (joined (word ∷ words))) most_bytes
takes_memory asked = false
