use Rattle.niss_search.proofs.Words.{◌≡◌, ◌+◌, ◌≤◌, ◌-◌, range_with_len, at_limit, last_length, GoesThrough, for_each}
use Rattle.niss_search.proofs.Words.{progress_at, positions, distance_at, deepening, reaching}
use Rattle.niss_search.proofs.ByLength.{least_below}
use Rattle.niss_search.proofs.searching.Root.deepen_all.Given as goal

abbrev pub decreases-loop-length : goal.decreases-loop-length
decreases-loop-length g l = 21 - l.length

abbrev pub invariant-loop-length : goal.invariant-loop-length
invariant-loop-length g l = let space = positions l.self.tables.now in record {
  bounded : l.meter ≤ g.B.Budget.bound l.budget;
  path : l.path ≡ l.fn.path;
  least : l.least ≡ least_below (reaching space l.self.position.now) l.length;
  within : l.length ≤ last_length (least_below (reaching space l.self.position.now) l.length) l.fn.path.limit l.slack + 1;
  counted : l.fn.meter + l.solutions ≤ l.meter;
  went : GoesThrough (at_limit g.K.Sink.took l.fn.path.limit) (at_limit g.K.Sink.refused l.fn.path.limit)
      (for_each (deepening space (distance_at l.self.tables.now) l.self.position.now) (range_with_len 0 l.length))
      (progress_at l.fn.meter 0 l.fn.sink) (progress_at l.meter l.solutions l.sink);
}
