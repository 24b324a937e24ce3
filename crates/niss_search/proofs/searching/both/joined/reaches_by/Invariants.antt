use Rattle.niss_search.proofs.Words.{◌≡◌, take, false, list_any, range_with_len, SameMap, after_all, cubes, reached, map_of}
use Rattle.niss_search.proofs.searching.both.joined.reaches_by.Given as goal

abbrev pub invariant-loop-turn : goal.invariant-loop-turn
invariant-loop-turn l = record {
  here : SameMap (map_of l.here) (after_all (cubes l.step) (map_of l.cube) (take l.turn-index l.turns));
  none : list_any (λ i. reached l.step (after_all (cubes l.step) (map_of l.cube) (take i l.turns))) (range_with_len 0 l.turn-index) ≡ false;
}
