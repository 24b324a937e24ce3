-- The ranks of a coordinate after the turns of a step, which have their columns in turn order. (For the functions of
-- the tables.)
use Rattle.std.specs.Prelude.{ℕ}
use Rattle.niss_search.specs.Names.{Axis, Turn, Step, Coordinate}
use Rattle.niss_cube.specs.Steps.{turns_of}
use Rattle.niss_cube.specs.AfterTurn.{turn_in}

-- the turn of a column
abbrev pub turn_at : Step → ℕ → Turn
turn_at step column = turn_in (turns_of step) column

-- What a contract sees of a move table.
pub record Moves : Type 0 where
  pub coordinate : Coordinate
  pub axis : Axis
  pub step : Step
