use Rattle.niss_search.proofs.Words.{◌≡◌, length, ◌≤◌, map, take, coordinates_of, map_of}
use Rattle.niss_search.proofs.tables.position.Position.of.Given as goal

abbrev pub invariant-loop-goal : goal.invariant-loop-goal
invariant-loop-goal l = record {
  few : length l.fn.goals ≤ 3;
  made : l.coordinates.items ≡ map (λ goal. coordinates_of goal (map_of l.fn.cube)) (take l.goal-index l.fn.goals);
}
