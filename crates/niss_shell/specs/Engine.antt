-- What the engine's steps do. `front` are the bytes of the line that is being read.
use Rattle.std.specs.Prelude.{◌≡◌, ◌≢◌, ℕ, ◌+◌, ◌*◌, ◌^◌, ◌<◌, ◌≤◌, Bool, true, false, is_err, Option, Some, None}
use Rattle.std.specs.Prelude.{Result, Ok, Err, OnOk, List, [], ◌++◌, length}
use Rattle.niss_shell.specs.Device.{SourceState, SourceCall, TargetCall, Flush, More, End, WasRead, ReadsWhile, LastRead}
use Rattle.niss_shell.specs.Device.{Writes, WritesAfter}
use Rattle.niss_shell.specs.Lines.{ended_lines, last_part}
use Rattle.niss_moves.specs.Reader.{Reader, IsFed}
use Rattle.niss_shell.specs.Words.{Request, reads_source, takes_memory, most_bytes, joined}
use Rattle.niss_shell.specs.Output.{Answer, LineAnswers, line_answer, answers_from, answer_lines, answer_request}
use Rattle.niss_shell.specs.Output.{line_with_bytes, unsearched}
use Rattle.niss_shell.specs.Run.{due_without, outcome_before, flushed_outcome, Looked}
use Rattle.niss_shell.specs.Names.{UsageFault, DeviceFault, Stop, OutOfMemory, Output, Lines}

-- What answers to lines change: the target that they are written to, by the name of its reference and by what it is, the
-- answers that wait to be written to it, and the count of the looks.
pub record AnswerState (W : Type 0) : Type 0 where
  pub reference : ℕ
  pub target : W
  pub pending : List ℕ
  pub looks : ℕ

abbrev pub output_state : {W : Type 0} → Output W → ℕ → AnswerState W
output_state output looks = record {
  reference = output.target.ghost_name;
  target = output.target.now;
  pending = output.pending.items;
  looks = looks;
}

-- A run may begin: the source can be read, no answer waits, and the meter has room for the looks of a run.
pub record MayBegin {W : Type 0} (source : SourceState) (state : AnswerState W) : Type 0 where
  pub reads : source.has_failed ≡ false
  pub goes_on : source.has_ended ≡ false
  pub empty : state.pending ≡ []
  pub room : state.looks ≤ 2 ^ 64

module _ {W : Type 0} (call : W → TargetCall → W → Type 0) where
  -- A text was taken with so many looks: what waited and the text were written up to what waits now, or a write of them was
  -- refused, with no more looks.
  pub record Delivered (refused : Bool) (text : List ℕ) (looks : ℕ) (old new : AnswerState W) : Type 0 where
    pub same_target : new.reference ≡ old.reference
    pub writes : Writes call refused (old.pending ++ text) new.pending old.target new.target
    pub looked : Looked refused looks old.looks new.looks

  -- An output took a text, or refused a write of what waited and of it.
  abbrev pub Delivers : {T : Type 0} → Result T DeviceFault → List ℕ → Output W → Output W → Type 0
  Delivers result text old new =
      (looks : ℕ) → Delivered (is_err result) text 0 (output_state old looks) (output_state new looks)

  -- An output took a text or refused a write, and nothing waits.
  abbrev pub TakesLine : (refused : Bool) → List ℕ → Output W → Output W → Type 0
  TakesLine refused text old new =
      (new.pending.items ≡ []) × ((looks : ℕ) → Delivered refused text 0 (output_state old looks) (output_state new looks))

  -- What is due was answered before the last flush, or a write was refused.
  pub record Answers (due : Answer) (outcome : Result (Unit {0}) Stop) (old new : AnswerState W) : Type 0 where
    pub refused : Bool
    pub outcome_is : outcome ≡ outcome_before refused due.outcome
    pub delivered : Delivered refused due.output due.looks old new

  -- The same, and no write of this beginning of what is due was refused.
  pub record AnswersAfter (front : List ℕ) (due : Answer) (outcome : Result (Unit {0}) Stop) (old new : AnswerState W)
      : Type 0 where
    pub answers : Answers due outcome old new
    pub writes : WritesAfter call front answers.refused due.output old.target new.target

-- The line that is being read, and its number.
pub record Progress : Type 0 where
  pub reader : Reader
  pub line : ℕ

-- The line after these bytes is being read, and has its number.
pub record Advanced (front bytes : List ℕ) (n : ℕ) (progress : Progress) : Type 0 where
  pub reader : IsFed progress.reader (last_part front bytes)
  pub line : progress.line ≡ n + length (ended_lines front bytes)

-- how many bytes were taken: one if the run stops
abbrev pub piece_of : Result ℕ Stop → ℕ
piece_of (Ok n) = n
piece_of (Err stop) = 1

abbrev pub only_stop : Result ℕ Stop → Result (Unit {0}) Stop
only_stop (Ok n) = Ok tt
only_stop (Err stop) = Err stop

-- The looks before line n leave room for those of the rest of a run: at most 2 ^ 64 before the first line, and less
-- than 2 ^ 93 at each.
abbrev pub HasRoom : ℕ → ℕ → Type 0
HasRoom n looks = looks ≤ 2 ^ 64 + n * 2 ^ 93

-- No byte of the first line was read.
pub record IsFirst (progress : Progress) : Type 0 where
  pub reader : IsFed progress.reader []
  pub line : progress.line ≡ 1

-- The lines that a line feed ends in this input have no fault, and it isn't too long.
abbrev pub IsFaultless : LineAnswers → List ℕ → Type 0
IsFaultless f input = (answer_lines f input More).outcome ≡ Ok tt

module _ {W : Type 0} (call : W → TargetCall → W → Type 0) where
  -- The bytes after `front`, in line n, were taken.
  abbrev pub TakesBytes :
      LineAnswers → List ℕ → List ℕ → ℕ → Progress → Result (Unit {0}) Stop → AnswerState W → AnswerState W → Type 0
  TakesBytes f front bytes n progress result old new =
      Answers call (answers_from f n (ended_lines front bytes)) result old new × OnOk result (Advanced front bytes n progress)

  -- The end of the input after `front`, in line n, was taken.
  abbrev pub TakesEnd : LineAnswers → List ℕ → ℕ → Result (Unit {0}) Stop → AnswerState W → AnswerState W → Type 0
  TakesEnd f front n result old new = Answers call (answers_from f n (line_with_bytes front)) result old new

  -- The next bytes were taken, whatever stood before them in their line.
  pub record TakesNext (f : LineAnswers) (bytes : List ℕ) (before after : Progress)
      (result : Result (Unit {0}) Stop) (old new : AnswerState W) : Type 0 where
    pub takes : (front : List ℕ) → IsFed before.reader front →
        TakesBytes f front bytes before.line after result old new

  -- The end of the input was taken, whatever stood before it in its line.
  pub record TakesLast (f : LineAnswers) (before : Progress)
      (result : Result (Unit {0}) Stop) (old new : AnswerState W) : Type 0 where
    pub takes : (front : List ℕ) → IsFed before.reader front → TakesEnd f front before.line result old new

  -- This many bytes of the input were read and taken.
  pub record IsAt (f : LineAnswers) (count : ℕ) (progress : Progress)
      (source : List SourceCall → Type 0) (old new : AnswerState W) : Type 0 where
    pub read : WasRead source
    pub goes_on : read.ended ≡ More
    pub stops : ReadsWhile (IsFaultless f) read.reads
    pub takes : TakesBytes f [] read.input 1 progress (Ok tt) old new
    pub count_is : count ≡ length read.input

  -- The source was read as far as needed, and its lines answered.
  pub record AnswersSource (f : LineAnswers) (outcome : Result (Unit {0}) Stop)
      (source : List SourceCall → Type 0) (old new : AnswerState W) : Type 0 where
    pub read : WasRead source
    pub stops : ReadsWhile (IsFaultless f) read.reads
    pub last : LastRead read.reads
    pub answers : AnswersAfter call (answer_lines f last.input More).output (answer_lines f read.input read.ended) outcome old new
    pub read_whole : outcome ≡ Ok tt → read.ended ≡ End

  -- What a run does before its last flush. No answer waits then.
  pub record RunsUnflushed (asked : Result Request UsageFault) (outcome : Result (Unit {0}) Stop)
      (source : List SourceCall → Type 0) (old new : AnswerState W) : Type 0 where
    pub read : WasRead source
    pub unread : reads_source asked ≡ false → read.reads ≡ []
    pub stops : ReadsWhile (λ input. (answer_request asked input More).outcome ≡ Ok tt) read.reads
    pub no_memory : Bool
    pub asks_memory : no_memory ≡ true → (takes_memory asked ≡ true) × (read.reads ≡ [])
    pub answers : Answers call (due_without no_memory (answer_request asked read.input read.ended)) outcome old new
    pub reads_on : read.reads ≢ [] → (last : LastRead read.reads) × WritesAfter call (answer_request asked last.input More).output
        answers.refused (due_without no_memory (answer_request asked read.input read.ended)).output old.target new.target
    pub read_whole : outcome ≡ Ok tt → reads_source asked ≡ true → read.ended ≡ End
    pub empty : new.pending ≡ []

-- A run may stop so before anything was read or written.
abbrev pub EndsAtOnce : Result Request UsageFault → Stop → Type 0
EndsAtOnce asked OutOfMemory = takes_memory asked ≡ true
EndsAtOnce asked stop = answer_request asked [] More ≡ unsearched [] (Err stop)

-- The last flush, which may be refused.
pub record FlushesLast {W : Type 0} (call : W → TargetCall → W → Type 0)
    (outcome outcome_now : Result (Unit {0}) Stop) (old new : W) : Type 0 where
  pub flushed : Result (Unit {0}) DeviceFault
  pub made : call old (Flush flushed) new
  pub outcome_is : outcome_now ≡ flushed_outcome outcome flushed

-- The words are the input, joined, or there are none.
abbrev pub IsInput : {T : Type 0} → (T → List ℕ) → Option T → List (List ℕ) → Type 0
IsInput bytes None words = length words ≡ 0
IsInput bytes (Some text) words =
    (0 < length words) × (bytes text ≡ joined words) × (length (joined words) ≤ most_bytes)

-- An output took this answer after what waited, with its looks, or refused a write.
abbrev pub Reports :
    {W T : Type 0} → (W → TargetCall → W → Type 0) → Result T DeviceFault → Answer → Output W → Output W → ℕ → ℕ → Type 0
Reports call result answer old new looks looks_now =
    Delivered call (is_err result) answer.output answer.looks (output_state old looks) (output_state new looks_now)

-- what lines change of their output
abbrev pub lines_state : {A W : Type 0} → Output W → Lines A → AnswerState W
lines_state output lines = output_state output lines.looks.now

abbrev pub answers_of : {A : Type 0} → Lines A → LineAnswers
answers_of lines = line_answer lines.command.now

abbrev pub progress_of : {A : Type 0} → Lines A → Progress
progress_of lines = record { reader = lines.reader; line = lines.line }

-- So many more bytes may come: the column and the number of the line stay within the most, and the meter has room.
pub record MayTake {A : Type 0} (count : ℕ) (lines : Lines A) : Type 0 where
  pub column : lines.reader.fed + count ≤ most_bytes
  pub line : lines.line + count ≤ most_bytes + 1
  pub looks : HasRoom lines.line lines.looks.now

-- So many bytes came: the column and the number of the line rose by at most as many, and the meter has room.
pub record Rises {A : Type 0} (count : ℕ) (old new : Lines A) : Type 0 where
  pub column : new.reader.fed ≤ old.reader.fed + count
  pub line : new.line ≤ old.line + count
  pub looks : HasRoom new.line new.looks.now

-- The command is the same, and so is the meter that the lines borrow.
pub record Keeps {A : Type 0} (old new : Lines A) : Type 0 where
  pub command : new.command ≡ old.command
  pub looks : new.looks.ghost_name ≡ old.looks.ghost_name

module _ {A W : Type 0} (call : W → TargetCall → W → Type 0) where
  -- The line that is being read was answered, whatever its bytes are.
  abbrev pub AnswersOpenLine : Result (Unit {0}) Stop → Lines A → AnswerState W → AnswerState W → Type 0
  AnswersOpenLine result lines old new =
      (bytes : List ℕ) → IsFed lines.reader bytes →
      Answers call (answers_of lines lines.line bytes) result old new

  -- The next bytes were taken.
  abbrev pub Takes : List ℕ → Result (Unit {0}) Stop → Lines A → Lines A → AnswerState W → AnswerState W → Type 0
  Takes bytes result lines lines_now old new =
      TakesNext call (answers_of lines) bytes (progress_of lines) (progress_of lines_now) result old new

  -- The end of the input was taken.
  abbrev pub Ends : Result (Unit {0}) Stop → Lines A → AnswerState W → AnswerState W → Type 0
  Ends result lines old new = TakesLast call (answers_of lines) (progress_of lines) result old new
