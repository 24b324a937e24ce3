-- What a contract sees of a source and of a target of bytes: the calls that are made of it, each with what it returned.
use Rattle.std.specs.Prelude.{◌≡◌, ℕ, zero, suc, ◌<◌, ◌≤◌, ◌||◌, Bool, true, false, is_err, Option, Some, None, Result, Ok, Err}
use Rattle.std.specs.Prelude.{List, [], ◌∷◌, ◌++◌, take, drop, length}
use Rattle.std.specs.Io.KnownBytes.{Consumes, IsAtEnd, Keeps, WriteAppends}
use Rattle.niss_shell.specs.Names.{DeviceFault}

-- A read: how many bytes it asked for, and the bytes that it gave.
pub data SourceCall : Type 0 where
  Read : ℕ → Result (List ℕ) DeviceFault → SourceCall

-- A write of a piece, with how many of its first bytes were taken; or a flush.
pub data TargetCall : Type 0 where
  Write : List ℕ → Result ℕ DeviceFault → TargetCall
  Flush : Result (Unit {0}) DeviceFault → TargetCall

-- The calls, one after another, led a device from one state to another.
unfoldable pub Calls : {D C : Type 0} → (D → C → D → Type 0) → D → D → List C → Type 0
Calls call old new [] = old ≡ new
Calls {D} call old new (c ∷ calls) = (next : D) × (call old c next × Calls call next new calls)

-- the bytes that a read gave, by what it returned and the buffer then
abbrev pub given : Result ℕ DeviceFault → List ℕ → Result (List ℕ) DeviceFault
given (Ok count) buf = Ok (take count buf)
given (Err fault) buf = Err fault

abbrev pub read_call : Result ℕ DeviceFault → List ℕ → SourceCall
read_call result buf = Read (length buf) (given result buf)

-- a read found the end: it gave no byte, though it asked for some
abbrev pub is_end : SourceCall → Bool
is_end (Read (suc n) (Ok [])) = true
is_end call = false

abbrev pub is_failed_read : SourceCall → Bool
is_failed_read (Read asked gave) = is_err gave

-- 0 was returned, though there are bytes
abbrev pub is_empty_answer : ℕ → List ℕ → Bool
is_empty_answer zero [] = false
is_empty_answer zero (b ∷ bytes) = true
is_empty_answer (suc n) bytes = false

-- a write that returned this failed
abbrev pub is_refused : {E : Type 0} → Result ℕ E → List ℕ → Bool
is_refused (Ok count) piece = is_empty_answer count piece
is_refused (Err e) piece = true

abbrev pub is_failure : TargetCall → Bool
is_failure (Write piece result) = is_refused result piece
is_failure (Flush result) = is_err result

-- What a source shows: the bytes that it will give, if they are known; whether a read failed; whether one found the end.
pub record SourceState : Type 0 where
  pub left : Option (List ℕ)
  pub has_failed : Bool
  pub has_ended : Bool

abbrev pub source_state : Option (List ℕ) → Bool → Bool → SourceState
source_state left failed ended = record { left = left; has_failed = failed; has_ended = ended }

-- What a target shows: the bytes that it holds, if they are known; whether a call failed.
pub record TargetState : Type 0 where
  pub held : Option (List ℕ)
  pub has_failed : Bool

abbrev pub target_state : Option (List ℕ) → Bool → TargetState
target_state held failed = record { held = held; has_failed = failed }

-- A read gives the next bytes, and none at the end alone or if it asks for none; one that fails takes none away.
abbrev pub Gives : SourceCall → Option (List ℕ) → Option (List ℕ) → Type 0
Gives (Read asked (Ok bytes)) left left_now =
    Consumes left left_now bytes × (bytes ≡ [] → 0 < asked → IsAtEnd left_now)
Gives (Read asked (Err fault)) left left_now = Keeps left left_now

-- A write appends the bytes that it takes, and one that fails none; a flush appends none.
abbrev pub Takes : TargetCall → Option (List ℕ) → Option (List ℕ) → Type 0
Takes (Write piece result) held held_now = WriteAppends held held_now result piece
Takes (Flush result) held held_now = Keeps held held_now

-- What a read does to what a source shows. Only a failed read sets the one flag, and only the end the other.
pub record ReadShows (call : SourceCall) (old new : SourceState) : Type 0 where
  pub bytes : Gives call old.left new.left
  pub failed : new.has_failed ≡ (old.has_failed || is_failed_read call)
  pub ended : new.has_ended ≡ (old.has_ended || is_end call)

-- What a call does to what a target shows. Only a failed call sets the flag.
pub record CallShows (call : TargetCall) (old new : TargetState) : Type 0 where
  pub bytes : Takes call old.held new.held
  pub failed : new.has_failed ≡ (old.has_failed || is_failure call)

-- how reads ended: there may be more, the end was found, or a read failed
pub data Ending : Type 0 where
  More : Ending
  End : Ending
  Fail : Ending

-- The reads gave this input, and ended so: each but the last one gave some bytes.
unfoldable pub Reads : List SourceCall → List ℕ → Ending → Type 0
Reads [] input ended = (input ≡ []) × (ended ≡ More)
Reads (Read asked (Ok (b ∷ bytes)) ∷ calls) input ended =
    (rest : List ℕ) × (input ≡ (b ∷ bytes) ++ rest) × Reads calls rest ended
Reads (Read asked (Ok []) ∷ calls) input ended = (0 < asked) × (calls ≡ []) × (input ≡ []) × (ended ≡ End)
Reads (Read asked (Err fault) ∷ calls) input ended = (calls ≡ []) × (input ≡ []) × (ended ≡ Fail)

-- A source was read by these calls, and gave this input.
pub record WasRead (source : List SourceCall → Type 0) : Type 0 where
  pub reads : List SourceCall
  pub made : source reads
  pub input : List ℕ
  pub ended : Ending
  pub gave : Reads reads input ended

-- Before each read this held of the input that the reads before it gave.
abbrev pub ReadsWhile : (List ℕ → Type 0) → List SourceCall → Type 0
ReadsWhile Holds reads =
    (before after : List SourceCall) (call : SourceCall) (input : List ℕ) →
    before ++ call ∷ after ≡ reads → Reads before input More → Holds input

-- The last of some reads, and the input that those before it gave.
pub record LastRead (reads : List SourceCall) : Type 0 where
  pub earlier : List SourceCall
  pub last : SourceCall
  pub whole : earlier ++ last ∷ [] ≡ reads
  pub input : List ℕ
  pub gave : Reads earlier input More

-- A piece of a text: a beginning of it that has a byte.
pub record IsPiece (piece text : List ℕ) : Type 0 where
  pub rest : List ℕ
  pub whole : piece ++ rest ≡ text
  pub some : 0 < length piece

-- The calls are writes of a text: each is brought a piece of what is left, and takes first bytes of it. `Some rest` is left
-- at the end, or `None` if the last one was refused.
unfoldable pub Sends : List TargetCall → List ℕ → Option (List ℕ) → Type 0
Sends [] text left = left ≡ Some text
Sends (Flush result ∷ calls) text left = ⊥
Sends (Write piece (Ok (suc n)) ∷ calls) text left =
    IsPiece piece text × (suc n ≤ length piece) × Sends calls (drop (suc n) text) left
Sends (Write piece result ∷ calls) text left = IsPiece piece text × (calls ≡ []) × (left ≡ None)

-- what is left of a text if the last write was refused, or wasn't
abbrev pub left_after : Bool → List ℕ → Option (List ℕ)
left_after true rest = None
left_after false rest = Some rest

-- The first of some writes took all of a text.
pub record StartsWith (text : List ℕ) (writes : List TargetCall) : Type 0 where
  pub first : List TargetCall
  pub others : List TargetCall
  pub whole : first ++ others ≡ writes
  pub sends : Sends first text (Some [])

-- All that was due for the input before the last read had been taken when that was made: so the writes start with it.
pub record ReadsOn (due : List ℕ → List ℕ) (reads : List SourceCall) (writes : List TargetCall) : Type 0 where
  pub last : LastRead reads
  pub taken : StartsWith (due last.input) writes

-- A text was written up to this rest of it, or a write of it was refused.
pub record Writes {W : Type 0} (call : W → TargetCall → W → Type 0)
    (refused : Bool) (text rest : List ℕ) (old new : W) : Type 0 where
  pub calls : List TargetCall
  pub made : Calls call old new calls
  pub sends : Sends calls text (left_after refused rest)

-- A text was written whole or a write was refused, but none of this beginning of it.
pub record WritesAfter {W : Type 0} (call : W → TargetCall → W → Type 0)
    (front : List ℕ) (refused : Bool) (text : List ℕ) (old new : W) : Type 0 where
  pub middle : W
  pub rest : List ℕ
  pub whole : front ++ rest ≡ text
  pub first : Writes call false front [] old middle
  pub others : Writes call refused rest [] middle new
