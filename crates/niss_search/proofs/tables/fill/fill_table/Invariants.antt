use Rattle.niss_search.proofs.Words.{◌≡◌, length, ◌+◌, turns_of, ◌*◌, range_with_len, count_by, entry_distance, count_for, nat_lt, IsFilled}
use Rattle.niss_search.proofs.tables.fill.fill_table.Given as goal

abbrev pub invariant-loop-level : goal.invariant-loop-level
invariant-loop-level g l = record {
  filled : IsFilled (g.M.GoalMoves.alternative l.moves) l.level l.distances;
  ticks : l.held ≡ l.fn.meter + length (turns_of (g.M.GoalMoves.alternative l.moves).step) * count_by (λ x. nat_lt (entry_distance (g.M.GoalMoves.alternative l.moves) x) l.level) (range_with_len 0 (count_for (g.M.GoalMoves.alternative l.moves).goal));
}
