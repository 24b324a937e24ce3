-- What a search tells that goes on after a solution.
use Rattle.std.specs.Prelude.{◌≡◌, ◌≢◌, ◌⊎◌, ℕ, ◌+◌, ◌<◌, ◌≤◌, nat_lt, Bool, true, false, Result, Ok, Err, List, [], ◌∷◌, map, filter, length, unwrap_or}
use Rattle.niss_moves.specs.Line.{Moves}
use Rattle.niss_moves.specs.Places.{Place}
use Rattle.niss_moves.specs.Reader.{read_line}
use Rattle.niss_moves.specs.declared.token.Token.TheVariants as token
use Rattle.niss_cube.specs.Steps.{turns_of}
use Rattle.niss_search.specs.Cubes.{least_length_of, near_looks_of, near_solutions_of}
use Rattle.niss_search.specs.Deepening.{Part, all_after, looks_before, paths_before}
use Rattle.niss_search.specs.After.{comes_after}
use Rattle.niss_search.specs.LookNumbers.{look_number_of}
use Rattle.niss_search.specs.Positions.{position_of}
use Rattle.niss_search.specs.Solutions.{last_length}
use Rattle.niss_shell.specs.Names.{Step, Turn}
use Rattle.niss_shell.specs.Output.{start_cube}
use Rattle.niss_shell.specs.Words.{most_bytes, most_limit}
use Rattle.niss_shell.specs.declared.stop.LineFault.{LineFault}
use Rattle.niss_embed.specs.Memory.{Memory}
use Rattle.niss_lines.specs.LineCalls.{status_number}
use Rattle.niss_embed.specs.LineSearch.{Hands, Only, unsolved, all_found, looks_for_all, capped, number_of_fault, column_of_fault}
use Rattle.niss_lines.specs.declared.answer.Status.TheVariants.{Fault, Usage, Stopped, Cut}
use Rattle.niss_embed.specs.declared.line.search.Wanted.{Wanted}
use Rattle.niss_embed.specs.declared.line.search_answer.SearchAnswer.{SearchAnswer}

-- the line of these turns, outside brackets
abbrev pub line_of_turns : List Turn → Moves
line_of_turns turns = record { normal = map token.Face turns; bracketed = [] }

-- The bytes spell these turns, and no other move.
abbrev pub Spells : List ℕ → List Turn → Type 0
Spells bytes turns = (length bytes ≤ most_bytes) × (read_line bytes ≡ Ok (line_of_turns turns))

-- of all solutions that a search finds from a cube those that come after a sequence
abbrev pub found_after : Step → Wanted → List Turn → (Place → Place) → List (List Turn)
found_after step w p e = filter (comes_after p) (all_found step w e)

-- how many looks the search for all solutions makes, and one for the shortest alone before it
abbrev pub looks_for_after : Step → Wanted → (Place → Place) → ℕ
looks_for_after step w e = near_looks_of step e w.limit 0 + looks_for_all step w e

-- the looks up to the first of some solutions, or those that show that there is none
abbrev pub up_to_first : (number : List Turn → ℕ) → ℕ → List (List Turn) → ℕ
up_to_first number whole [] = whole
up_to_first number whole (p ∷ ps) = number p

-- those of a search that ends at the shortest solution
abbrev pub looks_to_shortest : Step → (Place → Place) → ℕ → ℕ
looks_to_shortest step e n = up_to_first (look_number_of step e) (near_looks_of step e n 0) (near_solutions_of step e n 0)

-- the looks and the solutions, in order, of the search after a sequence
abbrev pub searched_after : Step → Wanted → List Turn → (Place → Place) → Part
searched_after step w p e = all_after step (position_of step e) (last_length (least_length_of step e w.limit) w.limit w.slack) p

-- the answer of a search that was cut after so many looks, before it knew the least length
abbrev pub cut_before : ℕ → SearchAnswer
cut_before looks = record {
  status = status_number Cut;
  fault = 0;
  least = 0;
  more = true;
  column = 0;
  length = 0;
  solutions = 0;
  nodes = capped looks;
}

-- What a search for those after a sequence tells of what it found.
pub record FindsAfter (step : Step) (w : Wanted) (p : List Turn) (e : Place → Place) (told : SearchAnswer) : Type 0 where
  -- whether there are more after it than came; of a search that was cut it isn't known
  pub more : told.status ≢ status_number Cut → told.more ≡ nat_lt told.solutions (length (found_after step w p e))
  pub maybe_more : told.status ≡ status_number Cut → told.more ≡ true
  -- the least length of all solutions, unless it was cut before it came to the shortest one, since the search for the
  -- shortest ones looks at more
  pub least :
      (told.least ≡ unwrap_or (least_length_of step e w.limit) 0)
      ⊎ ((told.status ≡ status_number Cut) × (told.solutions ≡ 0) × (told.least ≡ 0)
      × (told.nodes < looks_to_shortest step e w.limit) × (w.most_nodes < near_looks_of step e w.limit 0))
  -- the nodes are those up to the shortest solution, and then all of the search after the sequence
  pub looked : told.more ≡ false → told.nodes ≡ capped (looks_to_shortest step e w.limit + (searched_after step w p e).looks)
  -- or those before the solution that was left
  pub stopped : told.status ≢ status_number Cut → told.more ≡ true
      → told.nodes ≡ capped (looks_to_shortest step e w.limit + looks_before (searched_after step w p e).events told.solutions)
  -- or, if it was cut, as many of them as find the solutions that came
  pub found : told.status ≡ status_number Cut →
      ((told.solutions ≡ 0) × (told.nodes < looks_to_shortest step e w.limit))
      ⊎ ((made : ℕ) × (told.nodes ≡ looks_to_shortest step e w.limit + made)
      × (told.solutions ≡ paths_before (searched_after step w p e).events made))
  pub looks_at_most : told.nodes ≤ capped (looks_for_after step w e)
  pub within : told.nodes ≤ w.most_nodes
  -- it is cut only if both searches look at more
  pub cut : told.status ≡ status_number Cut → w.most_nodes < looks_for_after step w e
  -- and whichever of them was cut, it leaves fewer of the nodes than the step has turns
  pub spent : told.status ≡ status_number Cut → w.most_nodes < told.nodes + length (turns_of step)
  pub no_fault : told.fault ≡ 0
  pub no_column : told.column ≡ 0

-- What it hands out from a cube, and what it tells.
pub record SolvesCubeAfter (step : Step) (w : Wanted) (p : List Turn) (e : Place → Place) (out : Memory) (told : SearchAnswer) : Type 0 where
  pub hands : Hands (found_after step w p e) w.most out told
  pub finds : FindsAfter step w p e told

-- the same of a line, by the cube that the search begins at, or its fault
abbrev pub SolvesAtAfter : Result (Place → Place) LineFault → Step → Wanted → List Turn → Memory → SearchAnswer → Type 0
SolvesAtAfter (Ok e) step w p out told = SolvesCubeAfter step w p e out told
SolvesAtAfter (Err fault) step w p out told = Only (unsolved Fault (number_of_fault fault) (column_of_fault fault)) out told

-- The same of any numbers, any line and any bytes as the sequence.
pub record SolvesAfter (step : Step) (w : Wanted) (line after : List ℕ) (out : Memory) (told : SearchAnswer) : Type 0 where
  pub beyond : (most_limit < w.limit) ⊎ (most_limit < w.slack) → Only (unsolved Usage 0 0) out told
  pub no_turns : ((p : List Turn) → Spells after p → ⊥) → Only (unsolved Usage 0 0) out told
  pub too_long : (p : List Turn) → Spells after p → w.limit ≤ most_limit → w.slack ≤ most_limit →
      most_bytes < length line → Only (unsolved Stopped 0 0) out told
  pub solves : (p : List Turn) → Spells after p → w.limit ≤ most_limit → w.slack ≤ most_limit → length line ≤ most_bytes →
      SolvesAtAfter (start_cube step (read_line line)) step w p out told

-- the same by the tables of a step that a caller keeps, or by none
abbrev pub SolvesAfterWith : Bool → Step → Wanted → (line after : List ℕ) → Memory → SearchAnswer → Type 0
SolvesAfterWith false step w line after out told = Only (unsolved Usage 0 0) out told
SolvesAfterWith true step w line after out told = SolvesAfter step w line after out told
