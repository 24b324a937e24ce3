-- That a search that was cut has spent its bound: no more looks are asked for at once than a step has turns.
use Rattle.niss_search.specs.Budgets.{IsTaken, HasSpent}
use Rattle.niss_cube.specs.Steps.{powers_from}
use Rattle.niss_moves.specs.Canonical.{face_order}
use Rattle.niss_moves.specs.declared.turn.Axis.TheVariants.{Ud, Rl, Fb}
use Rattle.niss_search.proofs.Words.{◌≡◌, arith, length, ◌+◌, ◌<◌, ◌≤◌, ℕ, ap, List, true, false, sym, ◌∙◌, Bool, None, Some, Option}
use Rattle.niss_search.proofs.Words.{Turn, Axis, Step, Follower, flat_map, map, filter, turns_of, start_of, length-map, length-filter}
use Rattle.niss_search.proofs.Words.{count_by-le-length, Result, Ok, Err}

abbrev turns_from : Option Axis → List Turn
turns_from start = flat_map (λ f. map (λ p. record { face = f; power = p }) (powers_from start f)) face_order

some_from : (start : Option Axis) → 0 < length (turns_from start)
some_from None = omega arith
some_from (Some Ud) = omega arith
some_from (Some Rl) = omega arith
some_from (Some Fb) = omega arith

-- a step has turns
pub some_turns : (step : Step) → 0 < length (turns_of step)
unfolding turns_of
some_turns step = some_from (start_of step)

-- no more of them may follow than there are
pub few_followers : (step : Step) (may : Turn → Bool) (list : List Follower) → map (λ f. f.turn) list ≡ filter may (turns_of step)
    → length list ≤ length (turns_of step)
few_followers step may list listed =
    omega (arith, ap (length {A = Turn}) listed, length-map list (λ (f : Follower). f.turn), length-filter may (turns_of step), count_by-le-length may (turns_of step))

-- a path that was refused cuts nothing
pub taken-spent : {F E : Type 0} (is_cut : E → Bool) (bound meter : ℕ) (step : Step) (said : Result (Unit {0}) F) (r : Result (Unit {0}) E)
    → IsTaken is_cut said r → HasSpent is_cut bound step meter r
taken-spent is_cut bound meter step (Ok u) (Ok v) of = tt
taken-spent is_cut bound meter step (Ok u) (Err stop) of = absurd of
taken-spent is_cut bound meter step (Err fault) (Ok v) of = tt
taken-spent is_cut bound meter step (Err fault) (Err stop) of = λ cut. absurd (let both : true ≡ false = sym cut ∙ of in cc)

-- What was left of a bound on the meter was left of one on the looks, if the meter is far below its greatest number.
pub spent-looks : {T E : Type 0} (is_cut : E → Bool) (bound most : ℕ) (step : Step) (meter : ℕ) (r : Result T E)
    → (bound < meter + length (turns_of step) → most < meter + length (turns_of step))
    → HasSpent is_cut bound step meter r → HasSpent is_cut most step meter r
spent-looks is_cut bound most step meter (Ok value) passes h = tt
spent-looks is_cut bound most step meter (Err stop) passes h = λ cut. passes (h cut)
