-- What a step looks at in a cube, and how that follows the turns.
use Rattle.std.specs.Prelude.{ℕ, Bool, ◌==◌, ◌&&◌, List, map}
use Rattle.std.specs.List.{list_any}
use Rattle.niss_moves.specs.Places.{Place}
use Rattle.niss_search.specs.Names.{Turn, Goal, Edges, Domino, Step, GoalCoordinates, Flip, TwistAndSlice}
use Rattle.niss_cube.specs.Coordinates.{flip_of, twist_of, slice_of}
use Rattle.niss_cube.specs.AfterTurn.{rank_after}
use Rattle.niss_cube.specs.Steps.{goals_of, turns_of}
use Rattle.niss_cube.specs.declared.cube.coordinate.Coordinate.TheVariants as coordinate
use Rattle.niss_search.specs.Solutions.{Space, distance}

-- the coordinates of a map of the places that decide whether a goal holds, if the step may start
abbrev pub coordinates_of : Goal → (Place → Place) → GoalCoordinates
coordinates_of (Edges axis) e = Flip axis (flip_of axis e)
coordinates_of (Domino edges axis) e = TwistAndSlice axis (twist_of axis e) (slice_of axis e)

-- those after a turn
abbrev pub coordinates_after : GoalCoordinates → Turn → GoalCoordinates
coordinates_after (Flip axis flip) t = Flip axis (rank_after coordinate.Flip axis flip t)
coordinates_after (TwistAndSlice axis twist slice) t =
    TwistAndSlice axis (rank_after coordinate.Twist axis twist t) (rank_after coordinate.Slice axis slice t)

-- Are they those of the goal?
abbrev pub are_zero : GoalCoordinates → Bool
are_zero (Flip axis flip) = flip == 0
are_zero (TwistAndSlice axis twist slice) = twist == 0 && slice == 0

-- the position of a map of the places: the coordinates of each goal of the step
unfoldable pub position_of : Step → (Place → Place) → List GoalCoordinates
position_of step e = map (λ goal. coordinates_of goal e) (goals_of step)

-- the position after a turn
unfoldable pub position_after : List GoalCoordinates → Turn → List GoalCoordinates
position_after x t = map (λ c. coordinates_after c t) x

-- Does some goal hold there?
unfoldable pub is_reached_at : List GoalCoordinates → Bool
is_reached_at x = list_any are_zero x

-- the positions of a step, after its turns
abbrev pub positions : (step : Step) → Space (turns_of step) (List GoalCoordinates)
positions step = record { after = position_after; reached = is_reached_at }

-- how far the step is from a position: 0 to 20 turns, or 21 for more or never
unfoldable pub distance_at : Step → List GoalCoordinates → ℕ
distance_at step x = distance (positions step) x
