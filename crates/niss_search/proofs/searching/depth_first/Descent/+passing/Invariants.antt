use Rattle.niss_search.proofs.Words.{length, ◌+◌, ◌≤◌, ◌*◌, at_limit, progress_of, Keeps, GoesThrough}
use Rattle.niss_search.proofs.AfterLemmas.{passed}
use Rattle.niss_search.proofs.searching.depth_first.Descent.+passing.Given as goal

abbrev pub decreases-pass : goal.decreases-pass
decreases-pass g l = 3 * length l.after.now + 2

abbrev pub decreases-pass_turn : goal.decreases-pass_turn
decreases-pass_turn g l = 3 * length l.after.now + 1

abbrev pub decreases-go_on : goal.decreases-go_on
decreases-go_on g l = 3 * length l.rest.now + 3

abbrev pub invariant-pass-loop-index : goal.invariant-pass-loop-index
invariant-pass-loop-index g l = record {
  within : l.meter ≤ g.B.Budget.bound l.guide.budget.now;
  keeps : Keeps l.fn.self l.self l.fn.meter l.meter;
  went : GoesThrough (at_limit g.K.Sink.took l.fn.self.path.now.limit) (at_limit g.K.Sink.refused l.fn.self.path.now.limit)
      (passed l.guide.tables.now l.position l.fn.self.path.now.turns l.after l.index)
      (progress_of l.fn.meter l.fn.self) (progress_of l.meter l.self);
}
