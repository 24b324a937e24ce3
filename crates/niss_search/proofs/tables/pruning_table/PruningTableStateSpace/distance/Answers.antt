use Rattle.niss_search.proofs.Words.{arith, ap, ◌∙◌, slice_index, get_or_read}
use Rattle.niss_search.proofs.EntryLemmas.{entry-below, table-holds}
use Rattle.niss_search.proofs.tables.pruning_table.PruningTableStateSpace.distance.Goals as goal

pub returns : goal.returns
returns g c =
    let moves = c.self.inside.moves in
    let xs = c.self.inside.distances.items in
    let below = entry-below (g.M.GoalMoves.alternative moves).goal (g.M.GoalMoves.seen moves c.args.state) c.entry.ensures.entry in
    rw (← c.self.view_is)
    (get_or_read xs _ _ (omega (arith, c.entry.ensures.number, below, c.self.invariant.size)) c.index.ensures 0
    ∙ ap (slice_index xs) c.entry.ensures.number
    ∙ table-holds (g.M.GoalMoves.alternative moves) xs c.self.invariant (g.M.GoalMoves.seen moves c.args.state) c.entry.ensures.entry)
