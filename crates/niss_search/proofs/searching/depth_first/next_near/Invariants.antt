use Rattle.niss_search.proofs.Words.{◌≡◌, ◌+◌, ◌<◌, All, take, distance_after}
use Rattle.niss_search.proofs.searching.depth_first.next_near.Given as goal

abbrev pub invariant-loop-index : goal.invariant-loop-index
invariant-loop-index g l = record {
  far : All (λ f. l.left < distance_after l.tables.step (g.S.StateSpace.seen l.tables.space l.state) f) (take l.index l.followers);
  ticks : l.meter ≡ l.fn.meter + l.index;
}
