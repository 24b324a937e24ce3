use Rattle.niss_search.proofs.Words.{length, ◌+◌, ◌<◌, ◌≤◌, ◌*◌, All, at_limit, IsFollower, progress_of, Keeps, turns_of}
use Rattle.niss_search.proofs.DescentParts.{Remains}
use Rattle.niss_search.proofs.searching.depth_first.Descent.+descent.Given as goal

abbrev pub decreases-extend : goal.decreases-extend
decreases-extend g l = 3 * l.left + 1

abbrev pub decreases-try_turns : goal.decreases-try_turns
decreases-try_turns g l = 3 * l.left

abbrev pub decreases-follow : goal.decreases-follow
decreases-follow g l = 3 * l.left + 2

abbrev pub decreases-try_turns-loop-stop : goal.decreases-try_turns-loop-stop
decreases-try_turns-loop-stop g l = length l.rest

abbrev pub invariant-try_turns-loop-stop : goal.invariant-try_turns-loop-stop
invariant-try_turns-loop-stop g l = record {
  columns : All (IsFollower l.guide.tables.now.step) l.rest;
  within : l.meter ≤ g.B.Budget.bound l.guide.budget.now;
  some : length l.rest ≤ length (turns_of l.guide.tables.now.step);
  few : length l.rest * 4 < 9223372036854775808;
  keeps : Keeps l.fn.self l.self l.fn.meter l.meter;
  remains : Remains (at_limit g.K.Sink.took l.fn.self.path.now.limit) (at_limit g.K.Sink.refused l.fn.self.path.now.limit)
      l.guide.tables.now.step (g.S.StateSpace.seen l.guide.tables.now.space l.state) l.fn.self.path.now.turns l.left l.rest
      (progress_of l.fn.meter l.fn.self) (progress_of l.meter l.self);
}
