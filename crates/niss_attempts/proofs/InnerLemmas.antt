-- The room for a step and what stands after it, and what is told of both.
use Rattle.std.proofs.Common.{◌≡◌, ◌⊎◌, ℕ, ◌+◌, ◌-◌, ◌*◌, ◌<◌, ◌≤◌, Bool, true, min, Result, Ok, Err, IfOk, List, [], ◌∷◌, sym, subst, inl, inr, arith}
use Rattle.std.specs.List.{list_any}
use Rattle.std.proofs.Math.Nat.{min-le_left, min-eq_left, min-eq_right}
use Rattle.std.proofs.lemmas.Bool.{cases_lt}
use Rattle.niss_text.specs.Moves.{is_wanted}
unfoldable use Rattle.niss_text.specs.Moves.{most_bytes}
use Rattle.niss_text.specs.declared.moves.MovesOf.TheVariants.{Solution, EachStep}
use Rattle.niss_text.specs.declared.text_line.TextLine.{TextLine}
use Rattle.niss_attempts.specs.Another.{IsSolvedBy}
use Rattle.niss_attempts.specs.Doubts.{AreWritten}
use Rattle.niss_attempts.specs.InnerAttempt.{IsBegunIn, IsUndoneIfAny}
use Rattle.niss_attempts.specs.declared.attempts.written.NoRoom.{NoRoom}

-- what is below both is below the less
pub at_least : (a b c : ℕ) → c ≤ a → c ≤ b → c ≤ min a b
at_least a b c one two = by_order (cases_lt a b)
  where
    by_order : (a < b) ⊎ (b ≤ a) → c ≤ min a b
    by_order (inl low) =
        let least : min a b ≡ a = min-eq_left (omega (arith, low)) in
        omega (arith, least, one)
    by_order (inr high) =
        let least : min a b ≡ b = min-eq_right high in
        omega (arith, least, two)

-- what is set apart of a room for the moves of a line is no more than they take, whatever the greatest number is
pub room_few : (line : TextLine) (moves product total result room top : ℕ) → moves ≡ line.comment - line.moves → product ≡ min (moves * 3) top →
    total ≡ min (product + 3) top → result ≡ min total room → result ≤ most_bytes (line ∷ [])
unfolding most_bytes
room_few line moves product total result room top moves_are product_is total_is result_is =
    let one = min-le_left (moves * 3) top in
    let two = min-le_left (product + 3) top in
    let three = min-le_left total room in
    omega (arith, moves_are, product_is, total_is, result_is, one, two, three)

-- and enough, if there is so much
pub room_enough : (line : TextLine) (moves product total result room top : ℕ) → moves ≡ line.comment - line.moves → product ≡ min (moves * 3) top →
    total ≡ min (product + 3) top → result ≡ min total room → room ≤ top → most_bytes (line ∷ []) ≤ room → most_bytes (line ∷ []) ≤ result
unfolding most_bytes
room_enough line moves product total result room top moves_are product_is total_is result_is low fits =
    let one = at_least (moves * 3) top (moves * 3) (omega arith) (omega (arith, moves_are, low, fits)) in
    let two = at_least (product + 3) top (moves * 3 + 3) (omega (arith, product_is, one)) (omega (arith, moves_are, low, fits)) in
    let three = at_least total room (moves * 3 + 3) (omega (arith, total_is, two)) (omega (arith, moves_are, fits)) in
    omega (arith, moves_are, result_is, three)

-- the room for all lines is that for the first one and that for the others
pub most_parted : (line : TextLine) (rest : List TextLine) → most_bytes (line ∷ rest) ≡ most_bytes (line ∷ []) + most_bytes rest
unfolding most_bytes
most_parted line rest = omega arith

-- what is told of a line that has some of the solution after it
pub begun_if : (text : List ℕ) (lines : List TextLine) (line : TextLine) (rest : List TextLine) (scramble places : List ℕ) (result : Result Bool NoRoom) →
    lines ≡ line ∷ rest → list_any (is_wanted Solution) rest ≡ true → AreWritten text EachStep (line ∷ []) scramble places →
    IfOk result (λ solves. IsSolvedBy text rest scramble solves) → IfOk result (λ solves. IsBegunIn text lines solves)
begun_if text lines line rest scramble places (Err why) are some written is = is
begun_if text lines line rest scramble places (Ok solves) are some written is =
    subst (λ (these : List TextLine). IsBegunIn text these solves) (sym are)
    (subst (λ (b : Bool). IsUndoneIfAny b text line rest solves) (sym some)
    (record { scramble = scramble; places = places; is_scramble = written; is_solved = is }))
