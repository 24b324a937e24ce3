-- Whether a search was cut at its bound, and how far it went then; what a path that a sink took or refused ends it with.
use Rattle.std.specs.Prelude.{◌≡◌, ℕ, ◌+◌, ◌<◌, length, Bool, true, false, Result, Ok, Err}
use Rattle.niss_cube.specs.Steps.{turns_of}
use Rattle.niss_search.specs.Names.{Step}
use Rattle.niss_search.specs.declared.budget.Stopped.{Stopped}
use Rattle.niss_search.specs.declared.budget.Stopped.TheVariants.{Refused, Cut}

-- It was, and no path was refused.
abbrev pub is_cut_in : {F : Type 0} → Stopped F → Bool
is_cut_in (Refused fault) = false
is_cut_in Cut = true

-- A search that was cut has spent its bound: fewer looks are left of it than the step has turns.
abbrev pub HasSpent : {T E : Type 0} → (E → Bool) → (bound : ℕ) → Step → (meter : ℕ) → Result T E → Type 0
HasSpent is_cut bound step meter (Ok value) = Unit {0}
HasSpent is_cut bound step meter (Err stop) = is_cut stop ≡ true → bound < meter + length (turns_of step)

-- It goes on after a path that was taken, and else stops without being cut.
abbrev pub IsTaken : {F E : Type 0} → (E → Bool) → Result (Unit {0}) F → Result (Unit {0}) E → Type 0
IsTaken is_cut (Ok u) (Ok v) = Unit {0}
IsTaken is_cut (Ok u) (Err stop) = ⊥
IsTaken is_cut (Err fault) (Ok v) = ⊥
IsTaken is_cut (Err fault) (Err stop) = is_cut stop ≡ false
