use Rattle.niss_search.proofs.Words.{◌≡◌, ◌∙◌, ap, subst, map, map_of, coordinates_of, Goal, List}
unfoldable use Rattle.niss_search.specs.Positions.{position_of}
use Rattle.niss_search.specs.StepSpace.{StepSpace}
use Rattle.niss_search.proofs.tables.search_tables.SearchTables.inverse_after.Goals as goal

pub returns : goal.returns
unfolding position_of
returns g c = λ d back.
    let At : StepSpace _ → Type 0 = λ t. g.S.StateSpace.seen t.space c.inverse_after.result ≡ position_of t.step (map_of d) in
    subst At c.self.view_is (c.inverse_after.ensures d back ∙ ap (λ (goals : List Goal). map (λ goal. coordinates_of goal (map_of d)) goals) c.self.invariant.same_goals)
