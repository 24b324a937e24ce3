-- What a contract sees of the tables of a search. (For the functions of the tables.)
use Rattle.std.specs.Prelude.{◌≡◌, ℕ, ◌+◌, List, Result, Ok, Err}
use Rattle.niss_cube.specs.Steps.{goals_of}
use Rattle.niss_search.specs.Names.{Goal, Step}
use Rattle.niss_search.specs.Entries.{fill_ticks}

-- A step, and the space of its states.
pub record StepSpace (S : Type 0) : Type 0 where
  pub step : Step
  pub space : S

-- The space is of the step, by all its goals.
pub record IsSpaceOf (step of_step : Step) (goals : List Goal) : Type 0 where
  pub same_step : of_step ≡ step
  pub same_goals : goals ≡ goals_of step

-- What a build for a step does, by what it returns: it built what it must, and the meter rose by the turns that the fill tries;
-- or the meter stands where it stood.
abbrev pub IsBuilt : {S E : Type 0} → (S → Type 0) → Step → (meter meter_now : ℕ) → Result S E → Type 0
IsBuilt must step meter meter_now (Ok built) = must built × (meter_now ≡ meter + fill_ticks step)
IsBuilt must step meter meter_now (Err e) = meter_now ≡ meter
