use Rattle.niss_search.proofs.Words.{◌≤◌, ◌-◌, range_with_len, map_of}
use Rattle.niss_search.proofs.BothLemmas.{HasDone, part_of_split}
use Rattle.niss_search.specs.BothSides.{fewest_normal}
use Rattle.niss_search.specs.BothWalk.{parts}
use Rattle.niss_search.proofs.searching.both.PairSearch.of_length.Given as goal

abbrev pub invariant-loop-normal : goal.invariant-loop-normal
invariant-loop-normal g l =
    let least = fewest_normal l.self.sides l.length in
    let each = part_of_split l.self.ends l.self.tables.now (map_of l.self.cube.now) l.length in record {
      from : least ≤ l.normal;
      done : HasDone g.K.PairSink.took g.K.PairSink.refused l.self.budget.bound (parts each (range_with_len least (l.normal - least))) l.fn.meter l.meter l.fn.sink l.sink l.count;
    }
