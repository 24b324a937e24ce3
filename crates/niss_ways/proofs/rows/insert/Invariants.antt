use Rattle.std.proofs.Common.{◌≡◌, ◌≤◌, length}
use Rattle.niss_ways.specs.Order.{rank_of}
use Rattle.niss_ways.proofs.OrderLemmas.{Open}
use Rattle.niss_ways.proofs.rows.insert.Given as goal

abbrev pub invariant-loop-at : goal.invariant-loop-at
invariant-loop-at l = record {
  same : length l.room ≡ length l.fn.room;
  there : l.at ≤ l.count;
  free : Open rank_of l.fn.room l.count l.rank l.at l.room;
}

abbrev pub decreases-loop-at : goal.decreases-loop-at
decreases-loop-at l = l.at
