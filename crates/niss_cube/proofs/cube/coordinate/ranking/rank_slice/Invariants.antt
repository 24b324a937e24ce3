use Rattle.niss_cube.proofs.Words.{◌≡◌, ◌+◌, ◌≤◌, drop, map, reverse, nat_le, rank_places}
use Rattle.niss_cube.proofs.cube.coordinate.ranking.rank_slice.Given as goal

abbrev pub invariant-loop-met : goal.invariant-loop-met
invariant-loop-met l =
    record {
      wanted_below : l.wanted ≤ 4;
      counted : l.n + rank_places (drop l.met (reverse (map (nat_le 8) l.edges))) l.wanted ≡ rank_places (reverse (map (nat_le 8) l.edges)) 4;
    }
