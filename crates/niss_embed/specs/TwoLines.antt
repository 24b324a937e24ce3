-- A scramble and the moves so far, and where one stands after them.
use Rattle.std.specs.Prelude.{◌≡◌, ℕ, nat_lt, if◌then◌else◌, Result, Ok, Err, List, length}
use Rattle.niss_moves.specs.Effects.{effect_of_turns}
use Rattle.niss_moves.specs.Faults.{fault_column}
use Rattle.niss_moves.specs.Line.{Moves}
use Rattle.niss_moves.specs.Places.{SameMap}
use Rattle.niss_moves.specs.Reader.{read_line}
use Rattle.niss_moves.specs.declared.fault.ReadFault.{ReadFault}
use Rattle.niss_cube.specs.Map.{map_of}
use Rattle.niss_shell.specs.Words.{most_bytes}
use Rattle.niss_ways.specs.Starts.{AreTooMany, IsAfter}
use Rattle.niss_ways.specs.Truth.{Origin}
use Rattle.niss_ways.specs.declared.start.Start.{Start}
use Rattle.niss_lines.specs.LineCalls.{fault_number}
use Rattle.niss_lines.specs.declared.answer.Status.{Status}
use Rattle.niss_lines.specs.declared.answer.Status.TheVariants.{Fault, Stopped}
use Rattle.niss_embed.specs.declared.two_lines.Nowhere.{Nowhere}
use Rattle.niss_embed.specs.declared.two_lines.Nowhere.TheVariants.{TooLong, Unread, TooMany, NoStart}

-- how a call ends whose lines lead to no cube: which line it is, from 1, its fault and the column of that
abbrev pub nowhere_status : Nowhere → Status
nowhere_status (TooLong line) = Stopped
nowhere_status (Unread line fault) = Fault
nowhere_status TooMany = Fault
nowhere_status NoStart = Fault

abbrev pub nowhere_line : Nowhere → ℕ
nowhere_line (TooLong line) = line
nowhere_line (Unread line fault) = line
nowhere_line TooMany = 2
nowhere_line NoStart = 0

abbrev pub nowhere_fault : Nowhere → ℕ
nowhere_fault (TooLong line) = 0
nowhere_fault (Unread line fault) = fault_number fault
nowhere_fault TooMany = 5
nowhere_fault NoStart = 6

abbrev pub nowhere_column : Nowhere → ℕ
nowhere_column (TooLong line) = 0
nowhere_column (Unread line fault) = fault_column fault
nowhere_column TooMany = 0
nowhere_column NoStart = 0

-- The moves of two lines.
pub record Both : Type 0 where
  pub scramble : Moves
  pub so_far : Moves

abbrev pub both : Moves → Moves → Both
both scramble so_far = record { scramble = scramble; so_far = so_far }

-- what is read of both, or why it can't be; the first line's fault is told before the second's
abbrev pub both_read : Result Moves ReadFault → Result Moves ReadFault → Result Both Nowhere
both_read (Ok scramble) (Ok so_far) = Ok (both scramble so_far)
both_read (Err fault) so_far = Err (Unread 1 fault)
both_read (Ok scramble) (Err fault) = Err (Unread 2 fault)

abbrev pub both_of : (scramble so_far : List ℕ) → Result Both Nowhere
both_of scramble so_far =
    if nat_lt most_bytes (length scramble) then Err (TooLong 1)
    else (if nat_lt most_bytes (length so_far) then Err (TooLong 2)
    else both_read (read_line scramble) (read_line so_far))

-- Where one stands after two lines, with a line of turns that leads there.
pub record Stands (lines : Both) (o : Origin) : Type 0 where
  pub is_after : IsAfter lines.scramble lines.so_far o
  pub leads : SameMap (map_of o.cube) (effect_of_turns o.line)

-- Where one stands after both, or why there is no such cube.
abbrev pub StartsAfter : Result Both Nowhere → Result Start Nowhere → Type 0
StartsAfter (Ok lines) (Ok start) = Stands lines start
StartsAfter (Ok lines) (Err why) = (why ≡ TooMany) × AreTooMany lines.scramble lines.so_far
StartsAfter (Err why) (Ok start) = ⊥
StartsAfter (Err why) (Err told) = told ≡ why
