-- The turns of a step that may stand after a turn, with their columns, and the first of them after which a state is
-- near. (For the search's own functions.)
use Rattle.std.specs.Prelude.{◌≡◌, ℕ, ◌+◌, ◌<◌, ◌≤◌, Bool, List, map, filter, take, get_or, length, All}
use Rattle.niss_search.specs.Names.{Turn, Step, Follower, GoalCoordinates}
use Rattle.niss_cube.specs.Steps.{turns_of, is_idle}
use Rattle.niss_search.specs.Moves.{turn_at}
use Rattle.niss_search.specs.Positions.{position_after, distance_at}

-- The turn stands in its column, and it is known whether it is idle.
abbrev pub IsFollower : Step → Follower → Type 0
IsFollower step f =
    (f.column < length (turns_of step)) × (turn_at step f.column ≡ f.turn) × (f.is_idle ≡ is_idle step f.turn)

-- Those of the step's turns that may follow, in turn order.
pub record AreFollowers (step : Step) (may : Turn → Bool) (list : List Follower) : Type 0 where
  pub turns : map (λ f. f.turn) list ≡ filter may (turns_of step)
  pub columns : All (IsFollower step) list

-- how far the step is after a turn
abbrev pub distance_after : Step → List GoalCoordinates → Follower → ℕ
distance_after step x f = distance_at step (position_after x f.turn)

-- A look after each was made, and none allows so many turns more.
pub record AreFar
    (step : Step) (x : List GoalCoordinates) (left : ℕ) (list : List Follower) (meter meter_now : ℕ) : Type 0 where
  pub far : All (λ f. left < distance_after step x f) list
  pub looked : meter_now ≡ meter + length list

-- A look after each up to this one was made, and it is the first that allows so many turns more.
pub record IsNextNear
    (step : Step) (x : List GoalCoordinates) (left : ℕ) (list : List Follower) (meter meter_now index : ℕ) : Type 0 where
  pub inside : index < length list
  pub far : All (λ f. left < distance_after step x f) (take index list)
  pub near : (d : Follower) → distance_after step x (get_or list index d) ≤ left
  pub looked : meter_now ≡ meter + index + 1
