use Rattle.niss_search.proofs.Words.{◌≡◌, ◌∙◌, sym, ap, map_of, []}
use Rattle.std.proofs.lemmas.List.{nil_from_length}
use Rattle.niss_search.proofs.BeginningLemmas.{along-last}
use Rattle.niss_search.specs.BothWalk.{reached_along}
use Rattle.niss_search.proofs.searching.both.joined.reached_along.Goals as goal

pub returns-in-Some : goal.returns-in-Some
returns-in-Some c =
    c.reaches_by.ensures ∙ sym (along-last c.args.step (map_of c.args.cube.now) c.in-Some.front.now c.in-Some.field-0-0.now)
    ∙ ap (reached_along c.args.step (map_of c.args.cube.now)) (sym c.in-Some.ensures.cases.0)

pub returns-in-None : goal.returns-in-None
unfolding reached_along
returns-in-None c =
    let none : c.args.turns.now ≡ [] = nil_from_length c.args.turns.now c.in-None.ensures.cases in
    ap (reached_along c.args.step (map_of c.args.cube.now)) (sym none)
