use Rattle.niss_search.proofs.Words.{◌≡◌, ◌∙◌, sym, arith, take, take_all, length, true, false, no_turn, Bool, ℕ, map_of, cubes, after_all, reached, list_any, range_with_len, ap, ◌||◌, SameMap, subst}
use Rattle.niss_search.proofs.BeginningLemmas.{any_at, none_more, turned_next}
use Rattle.niss_search.specs.BothWalk.{reached_along}
use Rattle.niss_search.proofs.searching.both.joined.reaches_by.Goals as goal

pub loop-turn-preserved : goal.loop-turn-preserved
loop-turn-preserved c =
    let inv = c.loop-turn.invariant in
    let f = map_of c.args.cube.now in
    let step = c.args.step in
    let ts = c.args.turns.now in
    let i = c.loop-turn.turn-index in
    let test : ℕ → Bool = λ i. reached step (after_all (cubes step) f (take i ts)) in
    let here : test i ≡ false = sym ((c.steps_see_places.ensures _ _ inv.here).goal step) ∙ sym c.reached.ensures.value ∙ c.if-reached.false in
    record {
      here = turned_next step f c.loop-turn.here c.turn.new.self ts i no_turn c.loop-turn-test.true inv.here c.turn.ensures;
      none = none_more test i inv.none here;
    }

pub returns-then-reached : goal.returns-then-reached
unfolding reached_along
returns-then-reached c =
    let inv = c.loop-turn.invariant in
    let f = map_of c.args.cube.now in
    let step = c.args.step in
    let ts = c.args.turns.now in
    let i = c.loop-turn.turn-index in
    let test : ℕ → Bool = λ i. reached step (after_all (cubes step) f (take i ts)) in
    let here : test i ≡ true = sym ((c.steps_see_places.ensures _ _ inv.here).goal step) ∙ sym c.reached.ensures.value ∙ c.if-reached.true in
    let some : list_any test (range_with_len 0 (length ts)) ≡ true = any_at test (length ts) i c.loop-turn-test.true here in
    λ k. sym some k || reached step (after_all (cubes step) f ts)

pub returns : goal.returns
unfolding reached_along
returns c =
    let inv = c.loop-turn.invariant in
    let f = map_of c.args.cube.now in
    let step = c.args.step in
    let ts = c.args.turns.now in
    let i = c.loop-turn.turn-index in
    let test : ℕ → Bool = λ i. reached step (after_all (cubes step) f (take i ts)) in
    let end : i ≡ length ts = omega (arith, c.loop-turn-test.false, c.loop-turn.auto.turn-index-end) in
    let none : list_any test (range_with_len 0 (length ts)) ≡ false = ap (λ n. list_any test (range_with_len 0 n)) (sym end) ∙ inv.none in
    let all : after_all (cubes step) f (take i ts) ≡ after_all (cubes step) f ts = ap (after_all (cubes step) f) (ap (λ n. take n ts) end ∙ take_all (length ts) ts (omega arith)) in
    let last : SameMap (map_of c.loop-turn.here) (after_all (cubes step) f ts) = subst (SameMap (map_of c.loop-turn.here)) all inv.here in
    c.reached-2.ensures.value ∙ (c.steps_see_places.ensures _ _ last).goal step ∙ (λ k. sym none k || reached step (after_all (cubes step) f ts))
