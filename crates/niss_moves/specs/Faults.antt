-- The fault of a line: the leftmost byte that can't go on there (of a U+2019 that it cuts, the first byte), or what the end
-- lacks.
use Rattle.std.specs.Prelude.{◌≡◌, ℕ, ◌+◌, ◌-◌, ◌<◌, ◌≤◌, Bool, true, false, List, [], ◌∷◌, ◌++◌, length, take}
use Rattle.std.specs.Prelude.{slice_index, ◌⊎◌, ◌==◌, ◌||◌, not, IsTrue, Result, Ok, Err, codes}
use Rattle.std.specs.List.{list_all}
use Rattle.niss_moves.specs.Line.{IsLine, Moves, Spells, opening, closing, base_bytes}
use Rattle.niss_moves.specs.Names.{Base, ReadFault, NotAMove, Nested, Unopened, Unclosed, TooLong}

-- what a cut U+2019 still lacks: nothing if there is none, one byte or two
pub data Cut : Type 0 where
  Whole : Cut
  LacksOne : Cut
  LacksTwo : Cut

abbrev pub cut_ending : Cut → List ℕ
cut_ending Whole = []
cut_ending LacksOne = 0x99 ∷ []
cut_ending LacksTwo = 0x80 ∷ 0x99 ∷ []

-- how many of its bytes stand there
abbrev pub cut_length : Cut → ℕ
cut_length Whole = 0
cut_length LacksOne = 2
cut_length LacksTwo = 1

abbrev pub bracket_ending : Bool → List ℕ
bracket_ending true = closing ∷ []
bracket_ending false = []

-- The bytes and this ending are a line: so they end in such a cut, and a bracket is open or none is.
abbrev pub Continues : List ℕ → Cut → Bool → Type 0
Continues bytes cut is_open = IsLine (bytes ++ cut_ending cut ++ bracket_ending is_open)

abbrev pub CanContinue : List ℕ → Type 0
CanContinue bytes = (cut : Cut) × (is_open : Bool) × Continues bytes cut is_open

-- The bytes up to this column are the first that can't be continued. The column counts from 1.
pub record StopsAt (bytes : List ℕ) (column : ℕ) (cut : Cut) (is_open : Bool) (byte : ℕ) : Type 0 where
  pub positive : 0 < column
  pub within : column ≤ length bytes
  pub byte_is : byte ≡ slice_index bytes (column - 1)
  pub before : (k : ℕ) → k < column → CanContinue (take k bytes)
  pub ends_so : Continues (take (column - 1) bytes) cut is_open
  pub stops : CanContinue (take column bytes) → ⊥

-- All of the bytes can be continued, and they are no line yet.
pub record EndsEarly (bytes : List ℕ) (cut : Cut) (is_open : Bool) : Type 0 where
  pub before : (k : ℕ) → k ≤ length bytes → CanContinue (take k bytes)
  pub ends_so : Continues bytes cut is_open
  pub no_line : IsLine bytes → ⊥

abbrev pub BeginsBase : ℕ → Type 0
BeginsBase byte = (base : Base) × (more : List ℕ) × (base_bytes base ≡ byte ∷ more)

abbrev pub has_no_bracket : List ℕ → Bool
has_no_bracket bytes = list_all (λ b. not (b == opening || b == closing)) bytes

-- the column of the last opening bracket, with no bracket after it
abbrev pub OpensAt : List ℕ → ℕ → Type 0
OpensAt bytes column =
    (front : List ℕ) × (rest : List ℕ) × (bytes ≡ front ++ opening ∷ rest)
    × IsTrue (has_no_bracket rest) × (column ≡ length front + 1)

-- a byte that can't go on there
abbrev pub Stops : List ℕ → ReadFault → Type 0
Stops bytes (NotAMove column) =
    ((byte : ℕ) × (is_open : Bool) × StopsAt bytes column Whole is_open byte
    × ((byte ≡ opening) × (is_open ≡ true) → ⊥)
    × ((byte ≡ closing) × (is_open ≡ false) → ⊥)
    × (BeginsBase byte → ⊥))
    ⊎ ((byte : ℕ) × (is_open : Bool) × (cut : Cut) × (0 < cut_length cut)
    × StopsAt bytes (column + cut_length cut) cut is_open byte)
Stops bytes (Nested column) = StopsAt bytes column Whole true opening
Stops bytes (Unopened column) = StopsAt bytes column Whole false closing
Stops bytes (TooLong column) =
    (byte : ℕ) × (is_open : Bool) × BeginsBase byte × StopsAt bytes column Whole is_open byte
Stops bytes (Unclosed column) = ⊥

-- what the end of the line lacks
abbrev pub Lacks : List ℕ → ReadFault → Type 0
Lacks bytes (NotAMove column) =
    (is_open : Bool) × (cut : Cut) × (0 < cut_length cut)
    × EndsEarly bytes cut is_open × (column + cut_length cut ≡ length bytes + 1)
Lacks bytes (Unclosed column) = EndsEarly bytes Whole true × OpensAt bytes column
Lacks bytes _ = ⊥

-- the fault of a line that no value of at most 256 moves spells
abbrev pub Faults : List ℕ → ReadFault → Type 0
Faults bytes fault = Stops bytes fault ⊎ Lacks bytes fault

-- What bytes are as a line: the moves that they spell, at most 256, or the fault of bytes that spell no such moves.
abbrev pub IsReading : List ℕ → Result Moves ReadFault → Type 0
IsReading bytes (Ok line) =
    Spells bytes line.normal line.bracketed × (length line.normal + length line.bracketed ≤ 256)
IsReading bytes (Err fault) = Faults bytes fault

abbrev pub fault_column : ReadFault → ℕ
fault_column (NotAMove column) = column
fault_column (Nested column) = column
fault_column (Unopened column) = column
fault_column (Unclosed column) = column
fault_column (TooLong column) = column

abbrev pub fault_text : ReadFault → List ℕ
fault_text (NotAMove column) = codes "not a move"
fault_text (Nested column) = codes "bracket inside a bracket"
fault_text (Unopened column) = codes "bracket closed that was not opened"
fault_text (Unclosed column) = codes "bracket not closed"
fault_text (TooLong column) = codes "more than 256 moves"
