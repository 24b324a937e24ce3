use Rattle.niss_search.proofs.Words.{◌≡◌, ◌+◌, ◌*◌, ◌-◌, take, map_of}
use Rattle.niss_search.proofs.BothLemmas.{HasDone, next_heads}
use Rattle.niss_search.specs.BothWalk.{parts}
use Rattle.niss_search.proofs.searching.both.walk.Walk.+heads.Given as goal

abbrev pub decreases-go_on : goal.decreases-go_on
decreases-go_on g l = 3 * l.left

abbrev pub decreases-follow : goal.decreases-follow
decreases-follow g l = 3 * l.next.left + 2

abbrev pub decreases-go_below : goal.decreases-go_below
decreases-go_below g l = 3 * l.next.left + 1

abbrev pub invariant-go_on-loop-follower : goal.invariant-go_on-loop-follower
invariant-go_on-loop-follower g l =
    let each = next_heads l.self.ends l.self.tables.now (map_of l.self.cube.now) l.self.side l.self.tail l.fn.head.turns (l.left - 1) in record {
      head : l.head ≡ l.fn.head;
      done : HasDone g.K.PairSink.took g.K.PairSink.refused l.self.budget.now.bound (parts each (take l.follower-index l.follower-items)) l.fn.meter l.meter l.fn.sink l.sink l.count;
    }
