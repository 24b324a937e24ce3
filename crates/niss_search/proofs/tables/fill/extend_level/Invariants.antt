use Rattle.niss_search.proofs.Words.{◌≡◌, length, ◌+◌, ◌<◌, ℕ, ◌≤◌, turns_of, ◌*◌, ◌-◌, range_with_len, count_by, entry_distance, ◌==◌}
use Rattle.niss_search.proofs.Words.{IsFilling, IsExtended}
use Rattle.niss_search.proofs.tables.fill.extend_level.Given as goal

abbrev pub decreases-loop-entry : goal.decreases-loop-entry
decreases-loop-entry g l = length l.distances - l.from

abbrev pub invariant-loop-entry : goal.invariant-loop-entry
invariant-loop-entry g l = record {
  moves : l.row.moves.now ≡ l.moves;
  row : l.row.start ≤ l.from;
  filling : IsFilling (g.M.GoalMoves.alternative l.moves) l.level l.distances;
  within : l.from ≤ length l.distances;
  extended : (j : ℕ) → j < l.from → entry_distance (g.M.GoalMoves.alternative l.moves) j ≡ l.level → IsExtended (g.M.GoalMoves.alternative l.moves) l.distances j;
  ticks : l.meter ≡ l.fn.meter + length (turns_of (g.M.GoalMoves.alternative l.moves).step) * count_by (λ x. entry_distance (g.M.GoalMoves.alternative l.moves) x == l.level) (range_with_len 0 l.from);
}
