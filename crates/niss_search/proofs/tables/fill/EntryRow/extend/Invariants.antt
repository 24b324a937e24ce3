use Rattle.niss_search.proofs.Words.{◌≡◌, length, ◌+◌, ◌<◌, ℕ, turns_of, slice_index, IsFilling, entry_after, turn_at, KeepsMet}
use Rattle.niss_search.proofs.tables.fill.EntryRow.extend.Given as goal

abbrev pub invariant-loop-column : goal.invariant-loop-column
invariant-loop-column g l = record {
  end : l.column-end ≡ length (turns_of (g.M.GoalMoves.alternative l.self.moves.now).step);
  filling : IsFilling (g.M.GoalMoves.alternative l.self.moves.now) l.level l.distances;
  extended : (k : ℕ) → k < l.column → slice_index l.distances (entry_after (g.M.GoalMoves.alternative l.self.moves.now).goal l.entry (turn_at (g.M.GoalMoves.alternative l.self.moves.now).step k)) < 21;
  kept : KeepsMet l.fn.distances l.distances;
  ticks : l.meter ≡ l.fn.meter + l.column;
}
