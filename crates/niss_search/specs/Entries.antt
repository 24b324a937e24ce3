-- The entries of a step's pruning table: one for each value of the coordinates that decide whether its goal holds.
use Rattle.std.specs.Prelude.{ℕ, ◌*◌, nat_le, List, map, flat_map, length, sum_by, count_by, [], ◌∷◌}
use Rattle.std.specs.List.{range_with_len}
use Rattle.niss_search.specs.Names.{Axis, Goal, Edges, Domino, Step, GoalCoordinates, Flip, TwistAndSlice}
use Rattle.niss_cube.specs.Steps.{goals_of, turns_of}
use Rattle.niss_search.specs.Positions.{distance_at}

-- the flips below a count, on an axis
unfoldable pub flips_below : Axis → ℕ → List GoalCoordinates
flips_below axis flips = map (Flip axis) (range_with_len 0 flips)

-- the pairs of a twist and a slice below their counts, on an axis
unfoldable pub pairs_below : Axis → (twists slices : ℕ) → List GoalCoordinates
pairs_below axis twists slices =
    flat_map (λ twist. map (TwistAndSlice axis twist) (range_with_len 0 slices)) (range_with_len 0 twists)

-- all values of the coordinates that decide whether a goal holds
abbrev pub values_for : Goal → List GoalCoordinates
values_for (Edges axis) = flips_below axis 2048
values_for (Domino edges axis) = pairs_below axis 2187 495

-- how many they are
abbrev pub count_for : Goal → ℕ
count_for (Edges axis) = 2048
count_for (Domino edges axis) = 2187 * 495

unfoldable pub entries_of : Step → List GoalCoordinates
entries_of step = flat_map values_for (goals_of step)

unfoldable pub entry_count : Step → ℕ
entry_count step = sum_by count_for (goals_of step)

-- the turns of the step times the number of entries at a distance of at most 19
unfoldable pub fill_ticks : Step → ℕ
fill_ticks step =
    length (turns_of step) * count_by (λ c. nat_le (distance_at step (c ∷ [])) 19) (entries_of step)
