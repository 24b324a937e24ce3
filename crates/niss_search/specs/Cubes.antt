-- Solutions, distances and looks of a step from a cube, named by where it has each sticker.
use Rattle.std.specs.Prelude.{◌≡◌, ℕ, List, Option, IsTrue}
use Rattle.niss_moves.specs.Places.{Place}
use Rattle.niss_moves.specs.Effects.{turned}
use Rattle.niss_search.specs.Names.{Turn, Step, GoalCoordinates}
use Rattle.niss_cube.specs.AfterTurn.{IsCube}
use Rattle.niss_cube.specs.Steps.{turns_of, may_start, reached}
use Rattle.niss_search.specs.Solutions.{Space, least_length, solutions, distance, all_looks}
use Rattle.niss_search.specs.Positions.{position_of}

-- the cubes of a step, after its turns
abbrev pub cubes : (step : Step) → Space (turns_of step) (Place → Place)
cubes step = record { after = λ e t q. turned t (e q); reached = reached step }

-- the least length of a solution, of at most n turns
abbrev pub least_length_of : Step → (Place → Place) → ℕ → Option ℕ
least_length_of step e n = least_length (cubes step) e n

-- the solutions of at most n turns that are at most `slack` turns longer than that: the shorter ones first, those of
-- one length in turn order
abbrev pub near_solutions_of : Step → (Place → Place) → (n slack : ℕ) → List (List Turn)
near_solutions_of step e n slack = solutions (cubes step) e n slack

-- the solutions of least length, in turn order
abbrev pub solutions_of : Step → (Place → Place) → ℕ → List (List Turn)
solutions_of step e n = near_solutions_of step e n 0

-- how far the step is: 0 to 20 turns, or 21 for more or never
abbrev pub distance_of : Step → (Place → Place) → ℕ
distance_of step e = distance (cubes step) e

-- the looks of a search for solutions of at most n turns that are at most `slack` turns longer than the least
abbrev pub near_looks_of : Step → (Place → Place) → (n slack : ℕ) → ℕ
near_looks_of step e n slack = all_looks (cubes step) (distance_of step) e n slack

-- those of a search for solutions of least length
abbrev pub all_looks_of : Step → (Place → Place) → ℕ → ℕ
all_looks_of step e n = near_looks_of step e n 0

-- A cube on which the step may start has the position.
pub record HasPosition (step : Step) (e : Place → Place) (x : List GoalCoordinates) : Type 0 where
  pub cube : IsCube e
  pub starts : IsTrue (may_start step e)
  pub here : position_of step e ≡ x

-- Some cube has it.
abbrev pub IsPosition : Step → List GoalCoordinates → Type 0
IsPosition step x = (e : Place → Place) × HasPosition step e x
