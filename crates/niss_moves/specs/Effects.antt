-- What moves do to the sticker places (WCA Regulations, article 12; slices by common usage).
use Rattle.std.specs.Prelude.{◌≡◌, ℕ, zero, suc, ◌*◌, ◌%◌, Bool, true, not, if◌then◌else◌, List, [], ◌∷◌, map}
use Rattle.std.specs.Prelude.{reverse}
use Rattle.niss_moves.specs.Places.{Coord, negated, is_negative, is_zero, is_positive, Vector, Place, along}
use Rattle.niss_moves.specs.Names.{Face, U, D, R, L, F, B, Power, Quarter, Half, Counter, Turn, Axis, Ud, Rl, Fb}
use Rattle.niss_moves.specs.Names.{Slice, M, E, S, Token}

-- one quarter about an axis, clockwise as seen from its positive end
abbrev pub quarter : Axis → Vector → Vector
quarter Rl v = record { x = v.x; y = v.z; z = negated v.y }
quarter Ud v = record { x = negated v.z; y = v.y; z = v.x }
quarter Fb v = record { x = v.y; y = negated v.x; z = v.z }

abbrev pub quarters : Axis → ℕ → Vector → Vector
quarters axis zero v = v
quarters axis (suc n) v = quarters axis n (quarter axis v)

-- A move turns the layers of one axis by a number of quarters.
pub record Move : Type 0 where
  pub axis : Axis
  pub turns : Coord → Bool
  pub quarters : ℕ

-- where a move brings the sticker at a place
abbrev pub moved : Move → Place → Place
moved m q =
    if m.turns (along m.axis q.cell)
    then record {
      cell = quarters m.axis m.quarters q.cell;
      direction = quarters m.axis m.quarters q.direction;
    }
    else q

abbrev pub times : Power → ℕ
times Quarter = 1
times Half = 2
times Counter = 3

-- counter to the axis
abbrev pub against : ℕ → ℕ
against n = (3 * n) % 4

abbrev pub face_move : Face → (ℕ → Move)
face_move R n = record { axis = Rl; turns = is_positive; quarters = n }
face_move L n = record { axis = Rl; turns = is_negative; quarters = against n }
face_move U n = record { axis = Ud; turns = is_positive; quarters = n }
face_move D n = record { axis = Ud; turns = is_negative; quarters = against n }
face_move F n = record { axis = Fb; turns = is_positive; quarters = n }
face_move B n = record { axis = Fb; turns = is_negative; quarters = against n }

-- all layers but that of the opposite face
abbrev pub wide_move : Face → ℕ → Move
wide_move f n = record (face_move f n) { turns = λ c. not ((face_move f n).turns (negated c)) }

abbrev pub slice_move : Slice → ℕ → Move
slice_move M n = record { axis = Rl; turns = is_zero; quarters = against n }
slice_move E n = record { axis = Ud; turns = is_zero; quarters = against n }
slice_move S n = record { axis = Fb; turns = is_zero; quarters = n }

abbrev pub move_of : Token → Move
move_of (Token.Face t) = face_move t.face (times t.power)
move_of (Token.Wide face power) = wide_move face (times power)
move_of (Token.Slice slice power) = slice_move slice (times power)
move_of (Token.Rotation axis power) = record { axis = axis; turns = λ c. true; quarters = times power }

-- where one move of a line brings the sticker at a place
abbrev pub moved_by : Token → Place → Place
moved_by t = moved (move_of t)

-- where a sequence, made from the left, brings the sticker at a place
abbrev pub effect : List Token → Place → Place
effect [] q = q
effect (t ∷ ts) q = effect ts (moved_by t q)

-- the same for one face turn, and for a sequence of face turns
abbrev pub turned : Turn → Place → Place
turned t = moved_by (Token.Face t)

abbrev pub effect_of_turns : List Turn → Place → Place
effect_of_turns ts = effect (map Token.Face ts)

-- the inverse of a power, of a move, of a sequence
abbrev pub inverse_power : Power → Power
inverse_power Quarter = Counter
inverse_power Half = Half
inverse_power Counter = Quarter

abbrev pub inverse_turn : Turn → Turn
inverse_turn t = record t { power = inverse_power t.power }

abbrev pub inverse_token : Token → Token
inverse_token (Token.Face t) = Token.Face (inverse_turn t)
inverse_token (Token.Wide face power) = Token.Wide face (inverse_power power)
inverse_token (Token.Slice slice power) = Token.Slice slice (inverse_power power)
inverse_token (Token.Rotation axis power) = Token.Rotation axis (inverse_power power)

abbrev pub inverse : List Token → List Token
inverse ts = reverse (map inverse_token ts)

-- A sequence has the effect of the moves outside brackets and then the inverse of the effect of those inside:
-- the moves inside bring each place back to where the moves outside bring it.
abbrev pub HasMeaning : List Token → List Token → List Token → Type 0
HasMeaning s normal bracketed = (q : Place) → effect bracketed (effect s q) ≡ effect normal q
