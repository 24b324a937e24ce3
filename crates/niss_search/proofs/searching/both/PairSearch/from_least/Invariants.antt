use Rattle.niss_search.proofs.Words.{◌≡◌, ◌+◌, ◌≤◌, ◌-◌, range_with_len, last_length, map_of}
use Rattle.niss_search.proofs.ByLength.{least_below}
use Rattle.niss_search.proofs.BothLemmas.{HasDone}
use Rattle.niss_search.specs.BothSides.{first_pairs}
use Rattle.niss_search.specs.BothWalk.{part_of_length, parts}
use Rattle.niss_search.specs.declared.searching.both.Ends.TheVariants.{Any}
use Rattle.niss_search.proofs.searching.both.PairSearch.from_least.Given as goal

abbrev pub decreases-loop-length : goal.decreases-loop-length
decreases-loop-length g l = 21 - l.length

abbrev pub invariant-loop-length : goal.invariant-loop-length
invariant-loop-length g l =
    let each = first_pairs l.self.tables.now (map_of l.self.cube.now) l.self.sides in
    let part = part_of_length Any l.self.tables.now (map_of l.self.cube.now) l.self.sides in record {
      least : l.least ≡ least_below each l.length;
      within : l.length ≤ last_length (least_below each l.length) l.fn.lengths.limit l.fn.lengths.slack + 1;
      done : HasDone g.K.PairSink.took g.K.PairSink.refused l.self.budget.bound (parts part (range_with_len 0 l.length)) l.fn.meter l.meter l.fn.sink l.sink l.solutions;
    }
