use Rattle.niss_search.proofs.Words.{◌≡◌, length, ◌≤◌, map, may_follow, filter, All, take, IsFollower}
use Rattle.niss_search.proofs.tables.followers.followers_after.Given as goal

abbrev pub invariant-loop-column : goal.invariant-loop-column
invariant-loop-column l = record {
  end : l.column-end ≡ length l.turns;
  kept : map (λ f. f.turn) l.list.items ≡ filter (may_follow l.last) (take l.column l.turns);
  columns : All (IsFollower l.fn.step) l.list.items;
  long : length l.list.items ≤ l.column;
}
