-- What a run does to its three devices.
use Rattle.std.specs.Prelude.{◌≡◌, ◌≢◌, ℕ, ◌+◌, ◌≤◌, Bool, true, false, Result, Ok, Err, List, [], ◌∷◌, ◌++◌, length}
use Rattle.niss_shell.specs.Device.{SourceCall, TargetCall, Flush, WasRead, ReadsWhile, ReadsOn, More, End, Sends}
use Rattle.niss_shell.specs.Device.{left_after}
use Rattle.niss_shell.specs.Words.{request_of, reads_source, takes_memory}
use Rattle.niss_shell.specs.Output.{Answer, unsearched, out_of, error_text, most_error_text, status_of}
use Rattle.niss_shell.specs.Names.{DeviceFault, Stop, CannotWrite, OutOfMemory}

-- what a run is to write and to return, if memory was refused or wasn't
abbrev pub due_without : Bool → Answer → Answer
due_without true due = unsearched [] (Err OutOfMemory)
due_without false due = due

-- how it ends before the last flush, if a write was refused or wasn't
abbrev pub outcome_before : Bool → Result (Unit {0}) Stop → Result (Unit {0}) Stop
outcome_before true outcome = Err CannotWrite
outcome_before false outcome = outcome

-- a refused last flush ends a good run, and changes nothing otherwise
abbrev pub flushed_outcome : Result (Unit {0}) Stop → Result (Unit {0}) DeviceFault → Result (Unit {0}) Stop
flushed_outcome (Ok u) (Err fault) = Err CannotWrite
flushed_outcome outcome flushed = outcome

-- how far the meter rises, if so many looks are due: no further if a write was refused
abbrev pub Looked : Bool → (due looks looks_now : ℕ) → Type 0
Looked true due looks looks_now = (looks ≤ looks_now) × (looks_now ≤ looks + due)
Looked false due looks looks_now = looks_now ≡ looks + due

-- What a run with these words does to its devices, by the calls that it makes of each, to the meter of its looks, and the
-- status that it returns.
pub record Runs (words : List (List ℕ)) (source : List SourceCall → Type 0) (output error : List TargetCall → Type 0)
    (looks looks_now status : ℕ) : Type 0 where
  -- The source is read until its end or until the run stops, and only by a command that takes its input from there.
  pub read : WasRead source
  pub unread : reads_source (request_of words) ≡ false → read.reads ≡ []
  -- After a fault in a line nothing more is read, nor if the input is too long.
  pub stops : ReadsWhile (λ input. (out_of words input More).outcome ≡ Ok tt) read.reads
  -- Memory may be refused to a request that takes some: then nothing was read.
  pub no_memory : Bool
  pub asks_memory : no_memory ≡ true → (takes_memory (request_of words) ≡ true) × (read.reads ≡ [])
  -- what is due
  pub due : Answer
  pub due_is : due ≡ due_without no_memory (out_of words read.input read.ended)
  -- What is due is written piece by piece, up to a write that may be refused. One flush comes after it, which may be refused
  -- too.
  pub refused : Bool
  pub writes : List TargetCall
  pub flushed : Result (Unit {0}) DeviceFault
  pub made : output (writes ++ Flush flushed ∷ [])
  pub sends : Sends writes due.output (left_after refused [])
  -- After a refused write nothing more is read.
  pub reads_on : read.reads ≢ [] → ReadsOn (λ input. (out_of words input More).output) read.reads writes
  -- how it ends
  pub outcome : Result (Unit {0}) Stop
  pub outcome_is : outcome ≡ flushed_outcome (outcome_before refused due.outcome) flushed
  pub read_whole : outcome_before refused due.outcome ≡ Ok tt → reads_source (request_of words) ≡ true → read.ended ≡ End
  pub status_is : status ≡ status_of outcome
  -- the looks at positions
  pub looked : Looked refused due.looks looks looks_now
  pub within_bound : looks_now ≤ looks + due.most_looks
  -- What went wrong is written to the error writer, up to a write that may be refused, and isn't flushed.
  pub error_refused : Bool
  pub reports : List TargetCall
  pub made_reports : error reports
  pub sends_reports : Sends reports (error_text outcome) (left_after error_refused [])
  pub short : length (error_text outcome) ≤ most_error_text
