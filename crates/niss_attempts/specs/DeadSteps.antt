-- Steps that can't be read in any line of steps.
use Rattle.std.specs.Prelude.{◌≡◌, ℕ, ◌+◌, ◌<◌, ◌⊎◌, List, [], ◌∷◌, ◌++◌, ◌==◌, if◌then◌else◌, Ok, Err, length, map, slice_index, slice_range}
use Rattle.niss_moves.specs.Machine.{State, run, start}
use Rattle.niss_moves.specs.declared.fault.ReadFault.{ReadFault}
use Rattle.niss_moves.specs.declared.partial_line.LastMove.TheVariants.{Finished}
use Rattle.niss_attempts.specs.declared.steps.dead.Depth.{Depth}
use Rattle.niss_attempts.specs.declared.steps.dead.Depth.TheVariants.{Out, In, Wrong}
use Rattle.niss_attempts.specs.declared.steps.reading.Reading.{Reading}
use Rattle.niss_attempts.specs.Parts.{read_byte}

-- Bytes have a fault before their end.
abbrev pub IsStopped : List ℕ → Type 0
IsStopped bytes = (f : ReadFault) × (run start bytes ≡ Err f)

-- After these bytes no move is half read, if none was before them.
abbrev pub Rests : List ℕ → Type 0
Rests bytes = (s t : State) → s.last ≡ Finished → run s bytes ≡ Ok t → t.last ≡ Finished

-- Where no move is half read, in brackets or not, the bytes can't be read.
abbrev pub IsDead : List ℕ → Type 0
IsDead bytes = (s t : State) → s.last ≡ Finished → run s bytes ≡ Ok t → ⊥

-- where the byte after another one stands
abbrev pub after_opening : Depth → Depth
after_opening Out = In
after_opening In = Wrong
after_opening Wrong = Wrong

abbrev pub after_closing : Depth → Depth
after_closing Out = Wrong
after_closing In = Out
after_closing Wrong = Wrong

abbrev pub after_byte : Depth → ℕ → Depth
after_byte d byte = if byte == 40 then after_opening d else (if byte == 41 then after_closing d else d)

abbrev pub after_bytes : Depth → List ℕ → Depth
after_bytes d [] = d
after_bytes d (byte ∷ bytes) = after_bytes (after_byte d byte) bytes

-- The bytes close a bracket that none opened, and in one they leave none open.
abbrev pub IsShut : List ℕ → Type 0
IsShut bytes = (after_bytes Out bytes ≡ Wrong) × (after_bytes In bytes ≡ In → ⊥)

-- No line of steps in which the bytes stand as a step can be read.
abbrev pub StandsNowhere : List ℕ → Type 0
StandsNowhere bytes = IsDead bytes ⊎ IsShut bytes

-- However they are read, no move is half read after these bytes of a text.
abbrev pub EndsWhole : List ℕ → Type 0
EndsWhole bytes = (reading : Reading) → Rests (map (read_byte reading) bytes)

-- Of the steps that begin and end at these places no move goes on in the next one.
abbrev pub AreParted : (text bounds : List ℕ) → Type 0
AreParted text bounds =
    (step : ℕ) → step + 2 < length bounds → EndsWhole (slice_range text (slice_index bounds step) (slice_index bounds (step + 1)))

-- Bytes before others that can't be read can't be either.
abbrev pub StaysDead : (bytes more : List ℕ) → Type 0
StaysDead bytes more = IsDead more → IsDead (bytes ++ more)

-- No move goes on from bytes to others after them.
abbrev pub IsParted : (bytes more : List ℕ) → Type 0
IsParted bytes more = Rests bytes ⊎ (more ≡ [])
