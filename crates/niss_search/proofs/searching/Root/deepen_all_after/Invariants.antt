use Rattle.niss_search.proofs.Words.{◌≡◌, ◌+◌, ◌≤◌, ◌-◌, at_limit, GoesThrough, length}
use Rattle.niss_search.proofs.Words.{progress_at}
use Rattle.niss_search.proofs.AfterLemmas.{after_below}
use Rattle.niss_search.proofs.searching.Root.deepen_all_after.Given as goal

abbrev pub decreases-loop-length : goal.decreases-loop-length
decreases-loop-length g l = 21 - l.length

abbrev pub invariant-loop-length : goal.invariant-loop-length
invariant-loop-length g l = record {
  bounded : l.meter ≤ g.B.Budget.bound l.budget;
  path : l.path ≡ l.fn.path;
  from : length l.after + 1 ≤ l.length;
  within : l.length ≤ l.fn.path.limit + 1;
  counted : l.fn.meter + l.solutions ≤ l.meter;
  went : GoesThrough (at_limit g.K.Sink.took l.fn.path.limit) (at_limit g.K.Sink.refused l.fn.path.limit)
      (after_below l.self.tables.now l.self.position.now l.after l.length)
      (progress_at l.fn.meter 0 l.fn.sink) (progress_at l.meter l.solutions l.sink);
}
