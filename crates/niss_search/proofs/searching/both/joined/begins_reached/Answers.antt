use Rattle.niss_search.proofs.Words.{◌≡◌, ◌∙◌, sym, arith, ap, take, length, true, false, ◌||◌, no_turn, Bool, ℕ, map_of, Place, after_all, SameMap, subst, list_any, range_with_len}
use Rattle.std.proofs.lemmas.List.{take_all}
use Rattle.niss_search.proofs.BeginningLemmas.{any_at, none_more, before_next, row_same, along_same, begins-by_rows}
use Rattle.niss_moves.specs.declared.token.Token.TheVariants as token
use Rattle.niss_search.specs.BothSides.{reaches, pair, inverse_side}
use Rattle.niss_search.specs.BothWalk.{reached_along}
use Rattle.niss_search.proofs.searching.both.joined.begins_reached.Goals as goal

pub loop-turn-preserved : goal.loop-turn-preserved
loop-turn-preserved c =
    let inv = c.loop-turn.invariant in
    let f = map_of c.args.cube.now in
    let step = c.args.step in
    let a = c.args.normal.now in
    let ts = c.args.inverse.now in
    let i = c.loop-turn.turn-index in
    let g : ℕ → Place → Place = λ j. after_all (inverse_side step) f (take j ts) in
    let test : ℕ → Bool = λ j. reached_along step (g j) a || reaches step f (pair a (take j ts)) in
    let here : test i ≡ false = sym (row_same c.steps_see_places.ensures step (map_of c.loop-turn.here) (g i) inv.here a) ∙ sym c.reaches_by.ensures ∙ c.if-reaches_by.false in
    record {
      here = before_next (λ t q. c.places_stay.ensures (token.Face t) q) step f c.loop-turn.here c.turn_before.new.self ts i no_turn c.inverse.result c.loop-turn-test.true c.inverse.ensures inv.here c.turn_before.ensures;
      none = none_more test i inv.none here;
    }

pub returns-then-reaches_by : goal.returns-then-reaches_by
returns-then-reaches_by c =
    let inv = c.loop-turn.invariant in
    let f = map_of c.args.cube.now in
    let step = c.args.step in
    let a = c.args.normal.now in
    let ts = c.args.inverse.now in
    let i = c.loop-turn.turn-index in
    let g : ℕ → Place → Place = λ j. after_all (inverse_side step) f (take j ts) in
    let test : ℕ → Bool = λ j. reached_along step (g j) a || reaches step f (pair a (take j ts)) in
    let here : test i ≡ true = sym (row_same c.steps_see_places.ensures step (map_of c.loop-turn.here) (g i) inv.here a) ∙ sym c.reaches_by.ensures ∙ c.if-reaches_by.true in
    let some : list_any test (range_with_len 0 (length ts)) ≡ true = any_at test (length ts) i c.loop-turn-test.true here in
    (λ k. sym some k || reached_along step (after_all (inverse_side step) f ts) a) ∙ sym (begins-by_rows step f a ts)

pub returns : goal.returns
returns c =
    let inv = c.loop-turn.invariant in
    let f = map_of c.args.cube.now in
    let step = c.args.step in
    let a = c.args.normal.now in
    let ts = c.args.inverse.now in
    let g : ℕ → Place → Place = λ j. after_all (inverse_side step) f (take j ts) in
    let test : ℕ → Bool = λ j. reached_along step (g j) a || reaches step f (pair a (take j ts)) in
    let end : c.loop-turn.turn-index ≡ length ts = omega (arith, c.loop-turn-test.false, c.loop-turn.auto.turn-index-end) in
    let none : list_any test (range_with_len 0 (length ts)) ≡ false = ap (λ n. list_any test (range_with_len 0 n)) (sym end) ∙ inv.none in
    let all : g c.loop-turn.turn-index ≡ after_all (inverse_side step) f ts = ap (after_all (inverse_side step) f) (ap (λ n. take n ts) end ∙ take_all (length ts) ts (omega arith)) in
    let last : SameMap (map_of c.loop-turn.here) (after_all (inverse_side step) f ts) = subst (SameMap (map_of c.loop-turn.here)) all inv.here in
    c.reached_along.ensures ∙ along_same c.steps_see_places.ensures step (map_of c.loop-turn.here) (after_all (inverse_side step) f ts) last a
    ∙ (λ k. sym none k || reached_along step (after_all (inverse_side step) f ts) a) ∙ sym (begins-by_rows step f a ts)
