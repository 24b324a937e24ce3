-- The steps by which a line is read, byte by byte: what the private functions of the reader do. What a line is, and which
-- fault it has, say Line and Faults.
use Rattle.std.specs.Prelude.{ℕ, ◌+◌, ◌-◌, ◌≤◌, if◌then◌else◌, ◌==◌, nat_lt, List, [], ◌∷◌, ◌++◌, length, Option}
use Rattle.std.specs.Prelude.{None, Some, Result, Ok, Err, MatchResult, ◌≡◌}
use Rattle.std.specs.Option.{option_map_or}
use Rattle.niss_moves.specs.Line.{token_of, Moves}
use Rattle.niss_moves.specs.Faults.{Cut, Whole, LacksOne, LacksTwo, cut_length}
use Rattle.niss_moves.specs.Names.{Quarter, Half, Counter, Token, Base, Symbol, LastMove, ReadFault, NotAMove, Nested}
use Rattle.niss_moves.specs.Names.{Unopened, Unclosed, TooLong}
use Rattle.niss_moves.specs.Symbols.{symbol_of}

-- what is read so far: the whole moves, the column of the open bracket, the last move as far as it goes
pub record State : Type 0 where
  pub moves : Moves
  pub bracket : Option ℕ
  pub last : LastMove
  pub fed : ℕ

abbrev pub start : State
start = record { moves = record { normal = []; bracketed = [] }; bracket = None; last = LastMove.Finished; fed = 0 }

-- the moves with more of them, in the bracket if one is open
abbrev pub with_more : Option ℕ → Moves → List Token → Moves
with_more None m more = record m { normal = m.normal ++ more }
with_more (Some c) m more = record m { bracketed = m.bracketed ++ more }

-- the state with one more whole move, if there is one
abbrev pub added : State → Option Token → State
added s more =
    record s { moves = option_map_or (λ t. with_more s.bracket s.moves (t ∷ [])) more s.moves; last = LastMove.Finished }

-- the last move, if no more of it follows; no line asks for it after the first byte of U+2019 alone
abbrev pub last_token : LastMove → Option Token
last_token LastMove.Finished = None
last_token (LastMove.Bare b) = Some (token_of b Quarter)
last_token (LastMove.Doubled b) = Some (token_of b Half)
last_token (LastMove.FirstByte t) = Some t
last_token (LastMove.SecondByte t) = Some t

-- the state with its last move made whole
abbrev pub settled : State → State
settled s = added s (last_token s.last)

abbrev pub count : State → ℕ
count s = length s.moves.normal + length s.moves.bracketed

abbrev pub with_last : LastMove → State → State
with_last l s = record s { last = l }

abbrev pub refused : State → Result State ReadFault
refused s = Err (NotAMove (s.fed + 1))

abbrev pub opened : Option ℕ → State → Result State ReadFault
opened None s = Ok (record (settled s) { bracket = Some (s.fed + 1) })
opened (Some c) s = Err (Nested (s.fed + 1))

abbrev pub closed : Option ℕ → State → Result State ReadFault
closed None s = Err (Unopened (s.fed + 1))
closed (Some c) s = Ok (record (settled s) { bracket = None })

abbrev pub widened : LastMove → State → Result State ReadFault
widened (LastMove.Bare (Base.Face f)) s = Ok (with_last (LastMove.Bare (Base.Wide f)) s)
widened _ s = refused s

abbrev pub doubled : LastMove → State → Result State ReadFault
doubled (LastMove.Bare b) s = Ok (with_last (LastMove.Doubled b) s)
doubled _ s = refused s

abbrev pub primed : LastMove → State → Result State ReadFault
primed (LastMove.Bare b) s = Ok (added s (Some (token_of b Counter)))
primed (LastMove.Doubled b) s = Ok (added s (Some (token_of b Half)))
primed _ s = refused s

abbrev pub cut : LastMove → State → Result State ReadFault
cut (LastMove.Bare b) s = Ok (with_last (LastMove.FirstByte (token_of b Counter)) s)
cut (LastMove.Doubled b) s = Ok (with_last (LastMove.FirstByte (token_of b Half)) s)
cut _ s = refused s

-- a move begins, if fewer than so many stand before it
abbrev pub begun : ℕ → Base → State → Result State ReadFault
begun limit b s =
    if nat_lt (count (settled s)) limit
    then Ok (with_last (LastMove.Bare b) (settled s))
    else Err (TooLong (s.fed + 1))

-- the next byte, which isn't to continue a U+2019
abbrev pub step_by : ℕ → Symbol → State → Result State ReadFault
step_by limit Symbol.Blank s = Ok (settled s)
step_by limit Symbol.Open s = opened s.bracket s
step_by limit Symbol.Close s = closed s.bracket s
step_by limit (Symbol.Base b) s = begun limit b s
step_by limit Symbol.Wide s = widened s.last s
step_by limit Symbol.Two s = doubled s.last s
step_by limit Symbol.Apostrophe s = primed s.last s
step_by limit Symbol.Cut s = cut s.last s
step_by limit Symbol.Other s = refused s

-- the next byte
abbrev pub step_at : ℕ → LastMove → State → ℕ → Result State ReadFault
step_at limit (LastMove.FirstByte t) s byte =
    if byte == 0x80 then Ok (with_last (LastMove.SecondByte t) s) else Err (NotAMove s.fed)
step_at limit (LastMove.SecondByte t) s byte =
    if byte == 0x99 then Ok (settled s) else Err (NotAMove (s.fed - 1))
step_at limit _ s byte = step_by limit (symbol_of byte) s

-- with so many bytes fed
abbrev pub fed_to : ℕ → Result State ReadFault → Result State ReadFault
fed_to n (Ok s) = Ok (record s { fed = n })
fed_to n (Err f) = Err f

-- one more byte of a line of at most so many moves
unfoldable pub step_within : ℕ → State → ℕ → Result State ReadFault
step_within limit s byte = fed_to (s.fed + 1) (step_at limit s.last s byte)

abbrev pub and_then : Result State ReadFault → (State → Result State ReadFault) → Result State ReadFault
and_then (Ok s) f = f s
and_then (Err e) f = Err e

abbrev pub run_within : ℕ → State → List ℕ → Result State ReadFault
run_within limit s [] = Ok s
run_within limit s (b ∷ bs) = and_then (step_within limit s b) (λ s. run_within limit s bs)

-- the same for the limit of a line
abbrev pub step : State → ℕ → Result State ReadFault
step s byte = step_within 256 s byte

abbrev pub run : State → List ℕ → Result State ReadFault
run s bytes = run_within 256 s bytes

abbrev pub HasRoom : State → Type 0
HasRoom s = count (settled s) ≤ 256

-- A step returns a fault, or leaves the next state.
abbrev pub IsStep : (State → Result State ReadFault) → State → Result (Unit {0}) ReadFault → State → Type 0
IsStep next old result new = MatchResult result (λ _. next old ≡ Ok new) (λ f. next old ≡ Err f)

abbrev pub state_or : Option ReadFault → State → Result State ReadFault
state_or None s = Ok s
state_or (Some f) s = Err f

abbrev pub ended_in : Option ℕ → State → Result Moves ReadFault
ended_in None s = Ok (settled s).moves
ended_in (Some c) s = Err (Unclosed c)

-- the cut of U+2019 in which what is read ends
abbrev pub cut_of : LastMove → Cut
cut_of (LastMove.FirstByte t) = LacksTwo
cut_of (LastMove.SecondByte t) = LacksOne
cut_of _ = Whole

-- a cut U+2019 is a fault where its first byte stands
abbrev pub ended_by : Cut → State → Result Moves ReadFault
ended_by Whole s = ended_in s.bracket s
ended_by c s = Err (NotAMove (s.fed - (cut_length c - 1)))

-- what the end of the line makes of it
abbrev pub ended : Result State ReadFault → Result Moves ReadFault
ended (Ok s) = ended_by (cut_of s.last) s
ended (Err f) = Err f
