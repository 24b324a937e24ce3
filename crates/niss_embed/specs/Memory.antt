-- What a call writes into memory that it is lent.
use Rattle.std.specs.Prelude.{◌≡◌, ℕ, ◌≤◌, nat_lt, Bool, false, Some, Ok, Err, List, [], ◌++◌, take, drop, length}
use Rattle.niss_shell.specs.Device.{SourceState, TargetState, TargetCall, Write, Flush, CallShows, source_state}
use Rattle.niss_shell.specs.Device.{target_state}

-- The bytes of lent memory before and after a call.
pub record Memory : Type 0 where
  pub before : List ℕ
  pub after : List ℕ

abbrev pub memory : List ℕ → List ℕ → Memory
memory before after = record { before = before; after = after }

-- The text stands at the beginning, as much of it as there is room for, and what is after it is left as it was.
-- `count` bytes were written, and the room was too small or wasn't.
pub record Puts (text : List ℕ) (room : Memory) (count : ℕ) (too_small : Bool) : Type 0 where
  pub written : room.after ≡ take (length room.before) text ++ drop (length text) room.before
  pub count_is : count ≡ length (take (length room.before) text)
  pub too_small_is : too_small ≡ nat_lt (length room.before) (length text)

-- what a source in memory shows, of which this is left
abbrev pub shown_input : List ℕ → Bool → SourceState
shown_input left ended = source_state (Some left) false ended

-- Lent memory, by the name of its reference, with how many bytes are written and whether a write was refused.
pub record Lent : Type 0 where
  pub bytes : List ℕ
  pub reference : ℕ
  pub written : ℕ
  pub refused : Bool

abbrev pub lent : (bytes : List ℕ) (reference written : ℕ) (refused : Bool) → Lent
lent bytes reference written refused =
    record { bytes = bytes; reference = reference; written = written; refused = refused }

-- what a target in lent memory shows
abbrev pub shown_output : Lent → TargetState
shown_output memory = target_state (Some (take memory.written memory.bytes)) memory.refused

-- These bytes were appended to what is written, and what is after them is left as it was.
pub record Appended (part : List ℕ) (old new : Lent) : Type 0 where
  pub text : take new.written new.bytes ≡ take old.written old.bytes ++ part
  pub left : drop new.written new.bytes ≡ drop (length part) (drop old.written old.bytes)
  pub fits : length part ≤ length (drop old.written old.bytes)
  pub same_reference : new.reference ≡ old.reference

-- the bytes that a call takes
abbrev pub taken : TargetCall → List ℕ
taken (Write piece (Ok count)) = take count piece
taken call = []

abbrev pub IsNoRefusedFlush : TargetCall → Type 0
IsNoRefusedFlush (Flush (Err fault)) = ⊥
IsNoRefusedFlush call = Unit {0}

-- What a call does to lent memory. No flush is refused.
pub record Fills (call : TargetCall) (old new : Lent) : Type 0 where
  pub shown : CallShows call (shown_output old) (shown_output new)
  pub filled : Appended (taken call) old new
  pub flushes : IsNoRefusedFlush call
