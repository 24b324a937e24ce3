-- What a search on one line hands out and returns: solutions in memory, and what one more does to them; the search by
-- tables that are lent, and by those that a caller keeps.
use Rattle.std.specs.Prelude.{◌≡◌, ◌≢◌, ◌⊎◌, ℕ, ◌+◌, ◌*◌, ◌<◌, ◌≤◌, min, nat_lt, Bool, true, false, unwrap_or, Result}
use Rattle.std.specs.Prelude.{Ok, Err}
use Rattle.std.specs.Prelude.{Option, Some, List, [], ◌++◌, flat_map, take, drop, length, get_or}
use Rattle.std.specs.Option.{option_or}
use Rattle.niss_moves.specs.Faults.{fault_column}
use Rattle.niss_moves.specs.Places.{Place}
use Rattle.niss_moves.specs.Reader.{read_line}
use Rattle.niss_cube.specs.Steps.{name_of, turns_of}
use Rattle.niss_search.specs.Budgets.{is_cut_in}
use Rattle.niss_search.specs.declared.budget.Stopped.{Stopped as Ending}
use Rattle.niss_search.specs.Cubes.{least_length_of, near_solutions_of, near_looks_of}
use Rattle.niss_search.specs.LookNumbers.{found_within_of, look_number_of}
use Rattle.niss_shell.specs.Names.{Step, Turn}
use Rattle.niss_shell.specs.declared.stop.LineFault.{LineFault}
use Rattle.niss_shell.specs.declared.stop.LineFault.TheVariants.{Unread, NoStart}
use Rattle.niss_shell.specs.Words.{most_bytes, most_limit}
use Rattle.niss_shell.specs.Output.{solution_line, start_cube}
use Rattle.niss_embed.specs.Memory.{Memory, Puts}
use Rattle.niss_lines.specs.LineCalls.{status_number, fault_number}
use Rattle.niss_lines.specs.declared.answer.Status.{Status}
use Rattle.niss_lines.specs.declared.answer.Status.TheVariants.{Done, Fault, Usage, Stopped, NoRoom, Cut}
use Rattle.niss_embed.specs.declared.line.search.Bounds.{Bounds}
use Rattle.niss_embed.specs.declared.line.search.Wanted.{Wanted}
use Rattle.niss_embed.specs.declared.line.search_answer.SearchAnswer.{SearchAnswer}

-- The lines that are written into some memory and what is free after them, how many they are and may be, how many
-- turns the first solution has that came, and whether one had no room.
pub record LinesState : Type 0 where
  pub reference : ℕ
  pub held : List ℕ
  pub free : List ℕ
  pub solutions : ℕ
  pub most : ℕ
  pub first : Option ℕ
  pub too_small : Bool

abbrev pub lines_state : (bytes : List ℕ) (reference written solutions most : ℕ) → Option ℕ → Bool → LinesState
lines_state bytes reference written solutions most first too_small = record {
  reference = reference;
  held = take written bytes;
  free = drop written bytes;
  solutions = solutions;
  most = most;
  first = first;
  too_small = too_small;
}

-- The most bytes of a solution's line: those of 20 turns.
abbrev pub most_of_line : ℕ
most_of_line = 65

-- A solution of these turns was written after the others.
pub record Takes (turns : List Turn) (old new : LinesState) : Type 0 where
  pub same_reference : new.reference ≡ old.reference
  pub fewer : old.solutions < old.most
  pub fits : length (solution_line turns) ≤ length old.free
  pub short : length (solution_line turns) ≤ most_of_line
  pub held : new.held ≡ old.held ++ solution_line turns
  pub free : new.free ≡ drop (length (solution_line turns)) old.free
  pub counted : new.solutions ≡ old.solutions + 1
  pub same_most : new.most ≡ old.most
  pub first : new.first ≡ option_or old.first (Some (length turns))
  pub same_room : new.too_small ≡ old.too_small

-- why a solution of these turns was refused: there are as many as there may be, or there is no room for it
abbrev pub WhyRefused : List Turn → LinesState → LinesState → Type 0
WhyRefused turns old new =
    ((old.solutions ≡ old.most) × (new.too_small ≡ old.too_small))
    ⊎ ((old.solutions < old.most) × (length old.free < length (solution_line turns)) × (new.too_small ≡ true))

-- It was refused, and nothing of it was written.
pub record Refuses (turns : List Turn) (old new : LinesState) : Type 0 where
  pub same_reference : new.reference ≡ old.reference
  pub held : new.held ≡ old.held
  pub free : new.free ≡ old.free
  pub same_count : new.solutions ≡ old.solutions
  pub same_most : new.most ≡ old.most
  pub first : new.first ≡ option_or old.first (Some (length turns))
  pub short : length (solution_line turns) ≤ most_of_line
  pub why : WhyRefused turns old new

-- How many solutions were counted and may be, and how many turns the first one has that came.
pub record CountState : Type 0 where
  pub solutions : ℕ
  pub most : ℕ
  pub first : Option ℕ

abbrev pub count_state : (solutions most : ℕ) → Option ℕ → CountState
count_state solutions most first = record { solutions = solutions; most = most; first = first }

-- A solution of these turns was counted.
pub record Counts (turns : List Turn) (old new : CountState) : Type 0 where
  pub fewer : old.solutions < old.most
  pub counted : new.solutions ≡ old.solutions + 1
  pub same_most : new.most ≡ old.most
  pub first : new.first ≡ option_or old.first (Some (length turns))

-- It wasn't, since there are as many as there may be.
pub record CountsNoMore (turns : List Turn) (old new : CountState) : Type 0 where
  pub full : old.solutions ≡ old.most
  pub same_count : new.solutions ≡ old.solutions
  pub same_most : new.most ≡ old.most
  pub first : new.first ≡ option_or old.first (Some (length turns))

-- a search ended since it would look at more than it may
abbrev pub is_cut : {O F : Type 0} → Result O (Ending F) → Bool
is_cut (Ok found) = false
is_cut (Err stop) = is_cut_in stop

-- a number as 64 bits, the greatest one for all above
abbrev pub capped : ℕ → ℕ
capped n = min n 18446744073709551615

abbrev pub number_of_fault : LineFault → ℕ
number_of_fault (Unread fault) = fault_number fault
number_of_fault (NoStart step) = 6

abbrev pub column_of_fault : LineFault → ℕ
column_of_fault (Unread fault) = fault_column fault
column_of_fault (NoStart step) = 0

-- an answer that tells of no search
abbrev pub unsolved : Status → (fault column : ℕ) → SearchAnswer
unsolved status fault column = record {
  status = status_number status;
  fault = fault;
  least = 0;
  more = false;
  column = column;
  length = 0;
  solutions = 0;
  nodes = 0;
}

-- what is asked of a search, by its numbers
abbrev pub wanted : (limit slack most most_nodes : ℕ) → Wanted
wanted limit slack most most_nodes = record { limit = limit; slack = slack; most = most; most_nodes = most_nodes }

-- the same of the bounds that a search is given
abbrev pub wanted_in : Bounds → Wanted
wanted_in bounds = wanted bounds.limit bounds.slack bounds.most bounds.most_nodes

-- all solutions that a search finds from a cube, and how many looks it makes for them
abbrev pub all_found : Step → Wanted → (Place → Place) → List (List Turn)
all_found step w e = near_solutions_of step e w.limit w.slack

abbrev pub looks_for_all : Step → Wanted → (Place → Place) → ℕ
looks_for_all step w e = near_looks_of step e w.limit w.slack

-- the first solutions, each on a line
abbrev pub first_lines : ℕ → List (List Turn) → List ℕ
first_lines count all = flat_map solution_line (take count all)

-- As many solutions came as there may be; or the next one has no room; or the search was cut after some.
abbrev pub Ended : List (List Turn) → (most room : ℕ) → SearchAnswer → Type 0
Ended all most room told =
    ((told.status ≡ status_number Done) × (told.solutions ≡ min most (length all)))
    ⊎ ((told.status ≡ status_number NoRoom) × (told.solutions < min most (length all))
    × (room < length (first_lines (told.solutions + 1) all)))
    ⊎ ((told.status ≡ status_number Cut) × (told.solutions ≤ min most (length all)))

-- What a search for a step from a cube tells of what it found, of solutions of at most `limit` turns that are at most `slack`
-- turns longer than the least.
pub record FindsOf (step : Step) (w : Wanted) (e : Place → Place) (told : SearchAnswer) : Type 0 where
  -- whether there are more than came; of a search that was cut it isn't known
  pub more : told.status ≢ status_number Cut → told.more ≡ nat_lt told.solutions (length (all_found step w e))
  pub maybe_more : told.status ≡ status_number Cut → told.more ≡ true
  -- the least length, if a solution came or the search ended by itself
  pub least : told.status ≢ status_number Cut → told.least ≡ unwrap_or (least_length_of step e w.limit) 0
  pub least_of_some : 0 < told.solutions → told.least ≡ unwrap_or (least_length_of step e w.limit) 0
  pub least_of_none : told.status ≡ status_number Cut → told.solutions ≡ 0 → told.least ≡ 0
  -- the nodes are those of the whole search if no solution is left, else at most these, and never more than it may look at
  pub looked : told.more ≡ false → told.nodes ≡ capped (looks_for_all step w e)
  pub looks_at_most : told.nodes ≤ capped (looks_for_all step w e)
  -- or those up to the first solution that was left, unless it was cut
  pub stopped : told.status ≢ status_number Cut → told.more ≡ true
      → told.nodes ≡ capped (look_number_of step e (get_or (all_found step w e) told.solutions []))
  pub within : told.nodes ≤ w.most_nodes
  -- it is cut only if the whole search looks at more
  pub cut : told.status ≡ status_number Cut → w.most_nodes < looks_for_all step w e
  -- and leaves fewer of the nodes that it may look at than the step has turns
  pub spent : told.status ≡ status_number Cut → w.most_nodes < told.nodes + length (turns_of step)
  -- and of the solutions exactly those came that its nodes reach
  pub found : told.status ≡ status_number Cut → told.solutions ≡ length (found_within_of step e w.limit w.slack told.nodes)
  pub no_fault : told.fault ≡ 0
  pub no_column : told.column ≡ 0

-- Of all solutions the first ones were handed out, at most so many.
pub record Hands (all : List (List Turn)) (most : ℕ) (out : Memory) (told : SearchAnswer) : Type 0 where
  pub text : Puts (first_lines told.solutions all) out told.length false
  -- so much room for each of them is enough
  pub room : most * most_of_line ≤ length out.before → told.status ≢ status_number NoRoom
  pub ended : Ended all most (length out.before) told

-- What a search from a cube hands out, and what it tells.
pub record SolvesCube (step : Step) (w : Wanted) (e : Place → Place) (out : Memory) (told : SearchAnswer) : Type 0 where
  pub hands : Hands (all_found step w e) w.most out told
  pub finds : FindsOf step w e told

-- The memory is as it was, and this was returned.
pub record Only (due : SearchAnswer) (out : Memory) (told : SearchAnswer) : Type 0 where
  pub unwritten : out.after ≡ out.before
  pub told_is : told ≡ due

-- the same of a line, by the cube that the search begins at, or its fault
abbrev pub SolvesAt : Result (Place → Place) LineFault → Step → Wanted → Memory → SearchAnswer → Type 0
SolvesAt (Ok e) step w out told = SolvesCube step w e out told
SolvesAt (Err fault) step w out told = Only (unsolved Fault (number_of_fault fault) (column_of_fault fault)) out told

-- The same of any numbers and any line.
pub record SolvesLine (step : Step) (w : Wanted) (line : List ℕ) (out : Memory) (told : SearchAnswer) : Type 0 where
  pub beyond : (most_limit < w.limit) ⊎ (most_limit < w.slack) → Only (unsolved Usage 0 0) out told
  pub too_long : w.limit ≤ most_limit → w.slack ≤ most_limit → most_bytes < length line → Only (unsolved Stopped 0 0) out told
  pub solves : w.limit ≤ most_limit → w.slack ≤ most_limit → length line ≤ most_bytes →
      SolvesAt (start_cube step (read_line line)) step w out told

-- What a count from a cube tells: what a search does that has room for all, but writes nothing.
pub record CountsCube (step : Step) (w : Wanted) (e : Place → Place) (told : SearchAnswer) : Type 0 where
  pub finds : FindsOf step w e told
  pub no_text : told.length ≡ 0
  pub counted : told.status ≢ status_number Cut → (told.status ≡ status_number Done) × (told.solutions ≡ min w.most (length (all_found step w e)))
  pub some_counted : told.solutions ≤ min w.most (length (all_found step w e))

abbrev pub CountsAt : Result (Place → Place) LineFault → Step → Wanted → SearchAnswer → Type 0
CountsAt (Ok e) step w told = CountsCube step w e told
CountsAt (Err fault) step w told = told ≡ unsolved Fault (number_of_fault fault) (column_of_fault fault)

-- What it tells of any numbers and any line.
pub record CountsLine (step : Step) (w : Wanted) (line : List ℕ) (told : SearchAnswer) : Type 0 where
  pub beyond : (most_limit < w.limit) ⊎ (most_limit < w.slack) → told ≡ unsolved Usage 0 0
  pub too_long : w.limit ≤ most_limit → w.slack ≤ most_limit → most_bytes < length line → told ≡ unsolved Stopped 0 0
  pub counts : w.limit ≤ most_limit → w.slack ≤ most_limit → length line ≤ most_bytes →
      CountsAt (start_cube step (read_line line)) step w told

-- There are tables of the step of this name; or there are none, since no step has it, or since the memory for those of
-- its step was refused.
abbrev pub Builds : List ℕ → Bool → Step → ℕ → Type 0
Builds name built step status =
    ((status ≡ status_number Done) × (built ≡ true) × (name_of step ≡ name))
    ⊎ ((status ≡ status_number Usage) × (built ≡ false) × ((s : Step) → name_of s ≢ name))
    ⊎ ((status ≡ status_number Stopped) × (built ≡ false) × (s : Step) × (name_of s ≡ name))

-- A search on a line by the tables of a step that a caller keeps, or by none.
abbrev pub SolvesWith : Bool → Step → Wanted → List ℕ → Memory → SearchAnswer → Type 0
SolvesWith false step w line out told = Only (unsolved Usage 0 0) out told
SolvesWith true step w line out told = SolvesLine step w line out told

abbrev pub CountsWith : Bool → Step → Wanted → List ℕ → SearchAnswer → Type 0
CountsWith false step w line told = told ≡ unsolved Usage 0 0
CountsWith true step w line told = CountsLine step w line told
