use Rattle.std.proofs.Common.{◌≡◌, sym, ◌∙◌, ap, ap₂, true, false, not, ◌&&◌, List}
use Rattle.niss_cube.specs.Map.{map_of}
use Rattle.niss_moves.specs.declared.turn.Turn.{Turn}
use Rattle.niss_search.specs.BothSides.{pair, reaches, begins_reached}
use Rattle.niss_ways.specs.Ways.{cube_after}
use Rattle.niss_ways.proofs.solution.Solution.first_reaches.Goals as goal

pub returns-then-reached : goal.returns-then-reached
returns-then-reached c =
    let e = map_of c.args.cube.now in
    let p = c.args.self.now in
    let step = c.args.step in
    let same = c.steps_see_places.ensures (map_of c.cube_after.result) (cube_after e p) c.cube_after.ensures in
    let yes : reaches step e p ≡ true = sym (same.goal step) ∙ sym c.reached.ensures.value ∙ c.if-reached.true in
    let begins : c.begins_reached.result ≡ begins_reached step e p =
    c.begins_reached.ensures ∙ ap₂ (λ (a b : List Turn). begins_reached step e (pair a b)) c.normal.ensures.value c.inverse.ensures.value in
    ap not begins ∙ (λ i. sym yes i && not (begins_reached step e p))

pub returns-else-reached : goal.returns-else-reached
returns-else-reached c =
    let e = map_of c.args.cube.now in
    let p = c.args.self.now in
    let step = c.args.step in
    let same = c.steps_see_places.ensures (map_of c.cube_after.result) (cube_after e p) c.cube_after.ensures in
    let no : reaches step e p ≡ false = sym (same.goal step) ∙ sym c.reached.ensures.value ∙ c.if-reached.false in
    c.if-reached.false ∙ (λ i. sym no i && not (begins_reached step e p))
