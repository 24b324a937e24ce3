use Rattle.niss_search.proofs.Words.{◌≡◌, take, false, ◌||◌, list_any, range_with_len, SameMap, after_all, map_of}
use Rattle.niss_search.specs.BothSides.{inverse_side, reaches, pair}
use Rattle.niss_search.specs.BothWalk.{reached_along}
use Rattle.niss_search.proofs.searching.both.joined.begins_reached.Given as goal

abbrev pub invariant-loop-turn : goal.invariant-loop-turn
invariant-loop-turn l = record {
  here : SameMap (map_of l.here) (after_all (inverse_side l.step) (map_of l.cube) (take l.turn-index l.inverse));
  none : list_any (λ j. reached_along l.step (after_all (inverse_side l.step) (map_of l.cube) (take j l.inverse)) l.normal
      || reaches l.step (map_of l.cube) (pair l.normal (take j l.inverse))) (range_with_len 0 l.turn-index) ≡ false;
}
