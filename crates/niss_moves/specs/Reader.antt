-- What a reader stands for.
use Rattle.std.specs.Prelude.{◌≡◌, ℕ, List, length, Option, Result, Ok, Err}
use Rattle.niss_moves.specs.Line.{Moves}
use Rattle.niss_moves.specs.Names.{ReadFault}
use Rattle.niss_moves.specs.Machine.{State, state_or, start, run, ended}

-- a reader: how many bytes were fed, the fault of these, and what else it holds of them
pub record Reader : Type 0 where
  pub fed : ℕ
  pub fault : Option ReadFault
  pub so_far : State

-- the moves that were read, without the last one if it isn't whole
abbrev pub moves_of : Reader → Moves
moves_of reader = reader.so_far.moves

-- the line, if it ends here
unfoldable pub line_of : Reader → Result Moves ReadFault
line_of reader = ended (state_or reader.fault reader.so_far)

-- The moves that the bytes spell, if they spell at most 256, and else their fault: what the steps come to. The law
-- `line_is_read` says it by the grammar.
unfoldable pub read_line : List ℕ → Result Moves ReadFault
read_line bytes = ended (run start bytes)

-- these moves, unless there is a fault
abbrev pub moves_if : Result (Unit {0}) ReadFault → Moves → Result Moves ReadFault
moves_if (Ok u) m = Ok m
moves_if (Err f) m = Err f

-- These bytes were fed. A caller knows of it what the contracts say: it holds of a new reader and no bytes, each byte that is
-- fed keeps it, and at the end of the line the reader returns `read_line` of the bytes.
pub record IsFed (reader : Reader) (bytes : List ℕ) : Type 0 where
  pub fed : reader.fed ≡ length bytes
  pub holds : state_or reader.fault reader.so_far ≡ run start bytes
