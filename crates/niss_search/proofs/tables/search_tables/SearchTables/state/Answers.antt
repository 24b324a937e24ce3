use Rattle.niss_search.proofs.Words.{ap}
use Rattle.niss_search.specs.StepSpace.{StepSpace}
use Rattle.niss_search.proofs.EntryLemmas.{position-is-entries}
use Rattle.niss_search.proofs.tables.search_tables.SearchTables.state.Goals as goal

pub state-requires : goal.state-requires
state-requires g c =
    let step = ap (λ (t : StepSpace _). t.step) c.self.view_is in
    rw (c.coordinates.ensures, c.self.invariant.same_goals, step)
    (position-is-entries c.are_coordinates.ensures c.args.self.now.step c.args.position.now c.requires.position.0 c.requires.position.1)
