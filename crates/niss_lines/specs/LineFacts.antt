-- What the calls return that judge lines: by what solvers choose among them, and whether a solution solves a scramble.
use Rattle.std.specs.Prelude.{◌≡◌, ℕ, ◌+◌, ◌≤◌, nat_lt, if◌then◌else◌, false, Bool, ◌&&◌, ◌||◌, ◌==◌, Result, Ok, Err, List, [], ◌∷◌, length}
use Rattle.std.specs.List.{list_any}
use Rattle.niss_moves.specs.declared.fault.ReadFault.{ReadFault}
use Rattle.niss_moves.specs.Faults.{fault_column}
use Rattle.niss_moves.specs.Line.{Moves}
use Rattle.niss_moves.specs.Places.{Place}
use Rattle.niss_moves.specs.Reader.{read_line}
use Rattle.niss_moves.specs.Solving.{solves, move_count, clean_count}
use Rattle.niss_moves.specs.declared.turn.Axis.{Axis}
use Rattle.niss_moves.specs.declared.turn.Axis.TheVariants.{Ud, Rl, Fb}
use Rattle.niss_cube.specs.BadPlaces.{bad_mask, bad_count}
use Rattle.niss_cube.specs.Map.{is_home}
use Rattle.niss_cube.specs.Steps.{reached_mask}
use Rattle.niss_cube.specs.declared.cube.coordinate.Coordinate.TheVariants.{Flip, Twist, Slice}
use Rattle.niss_shell.specs.Output.{home}
use Rattle.niss_shell.specs.Words.{most_bytes}
use Rattle.niss_lines.specs.LineCalls.{status_number, fault_number}
use Rattle.niss_lines.specs.declared.answer.Status.{Status}
use Rattle.niss_lines.specs.declared.answer.Status.TheVariants.{Done, Fault, Stopped}
use Rattle.niss_lines.specs.declared.fact_answers.AxisFacts.{AxisFacts}
use Rattle.niss_lines.specs.declared.fact_answers.FactsAnswer.{FactsAnswer}
use Rattle.niss_lines.specs.declared.fact_answers.CheckAnswer.{CheckAnswer}

-- an answer that tells of no cube
abbrev pub no_axis : AxisFacts
no_axis = record {
  bad_edge_places = 0;
  bad_corner_places = 0;
  misplaced_edge_places = 0;
  bad_edges = 0;
  bad_corners = 0;
  misplaced_edges = 0;
}

abbrev pub no_facts : Status → (fault column : ℕ) → FactsAnswer
no_facts status fault column = record {
  status = status_number status;
  fault = fault;
  solved = false;
  column = column;
  moves = 0;
  clean_moves = 0;
  holds = 0;
  fb = no_axis;
  rl = no_axis;
  ud = no_axis;
}

-- the flipped edges, the twisted corners and the edges on the wrong side of the slice, of the cube with this map on an axis
abbrev pub axis_facts : Axis → (Place → Place) → AxisFacts
axis_facts a e = record {
  bad_edge_places = bad_mask Flip a e;
  bad_corner_places = bad_mask Twist a e;
  misplaced_edge_places = bad_mask Slice a e;
  bad_edges = bad_count Flip a e;
  bad_corners = bad_count Twist a e;
  misplaced_edges = bad_count Slice a e;
}

-- what is seen of the cube with this map, and of the line's moves
abbrev pub facts_of_cube : (Place → Place) → (moves clean : ℕ) → FactsAnswer
facts_of_cube e moves clean = record {
  status = status_number Done;
  fault = 0;
  solved = is_home e;
  column = 0;
  moves = moves;
  clean_moves = clean;
  holds = reached_mask e;
  fb = axis_facts Fb e;
  rl = axis_facts Rl e;
  ud = axis_facts Ud e;
}

-- the same of what was read of a line, by its cube with the centres home
abbrev pub facts_read : Result Moves ReadFault → FactsAnswer
facts_read (Ok line) = facts_of_cube (home line) (move_count line) (clean_count line)
facts_read (Err fault) = no_facts Fault (fault_number fault) (fault_column fault)

-- the same of any bytes
abbrev pub facts_of : List ℕ → FactsAnswer
facts_of line = if nat_lt most_bytes (length line) then no_facts Stopped 0 0 else facts_read (read_line line)

-- An answer that tells of no solution. `line` is the number of the line that has the fault, from 1; or 0.
abbrev pub unchecked : Status → (line fault column : ℕ) → CheckAnswer
unchecked status line fault column = record {
  status = status_number status;
  fault = fault;
  line = line;
  solved = false;
  column = column;
  moves = 0;
  clean_moves = 0;
  forms = 0;
}

-- the letters of slice turns, M, E and S, and of turns of outer blocks by a small letter, u, d, r, l, f and b
abbrev pub is_slice_letter : ℕ → Bool
is_slice_letter byte = (byte == 77) || ((byte == 69) || (byte == 83))

abbrev pub is_small_letter : ℕ → Bool
is_small_letter byte =
    (byte == 117) || ((byte == 100) || ((byte == 114) || ((byte == 108) || ((byte == 102) || (byte == 98)))))

-- an opening bracket, and the first byte of U+2019
abbrev pub is_bracket : ℕ → Bool
is_bracket byte = byte == 40

abbrev pub is_apostrophe : ℕ → Bool
is_apostrophe byte = byte == 226

abbrev pub begins_with_apostrophe : List ℕ → Bool
begins_with_apostrophe [] = false
begins_with_apostrophe (byte ∷ rest) = (byte == 39) || is_apostrophe byte

-- somewhere a 2 is followed by an apostrophe of either form
abbrev pub has_half_prime : List ℕ → Bool
has_half_prime [] = false
has_half_prime (byte ∷ rest) = ((byte == 50) && begins_with_apostrophe rest) || has_half_prime rest

-- a number if it holds, and else 0
abbrev pub flag : Bool → ℕ → ℕ
flag holds number = if holds then number else 0

-- the forms of a line that can be read and that the WCA's notation hasn't, added
abbrev pub forms_of : List ℕ → ℕ
forms_of line =
    flag (list_any is_slice_letter line) 1 + (flag (list_any is_small_letter line) 2 + (flag (list_any is_bracket line) 4
    + (flag (list_any is_apostrophe line) 8 + flag (has_half_prime line) 16)))

-- whether a solution solves a scramble, and how many moves it counts, as written and cleaned
abbrev pub checked : Moves → Moves → (forms : ℕ) → CheckAnswer
checked scramble solution forms = record {
  status = status_number Done;
  fault = 0;
  line = 0;
  solved = solves scramble solution;
  column = 0;
  moves = move_count solution;
  clean_moves = clean_count solution;
  forms = forms;
}

abbrev pub check_read : Result Moves ReadFault → Result Moves ReadFault → (forms : ℕ) → CheckAnswer
check_read (Ok scramble) (Ok solution) forms = checked scramble solution forms
check_read (Err fault) solution forms = unchecked Fault 1 (fault_number fault) (fault_column fault)
check_read (Ok scramble) (Err fault) forms = unchecked Fault 2 (fault_number fault) (fault_column fault)

-- The same of any bytes. The first line's fault is told before the second's.
abbrev pub check_of : (scramble solution : List ℕ) → CheckAnswer
check_of scramble solution =
    if nat_lt most_bytes (length scramble) then unchecked Stopped 1 0 0
    else (if nat_lt most_bytes (length solution) then unchecked Stopped 2 0 0
    else check_read (read_line scramble) (read_line solution) (forms_of solution))

-- The line isn't too long, and its moves are these.
abbrev pub IsReadAs : List ℕ → Moves → Type 0
IsReadAs line moves = (length line ≤ most_bytes) × (read_line line ≡ Ok moves)
