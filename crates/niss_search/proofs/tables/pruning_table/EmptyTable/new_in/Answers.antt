use Rattle.niss_search.proofs.FillLemmas.{filled-start}
use Rattle.niss_search.proofs.tables.pruning_table.EmptyTable.new_in.Goals as goal

pub invariant_of-result : goal.invariant_of-result
invariant_of-result g c =
    rw (c.in-Ok.ensures.items_if_clones_equal (λ y e. e))
    record { is_empty = filled-start (g.M.GoalMoves.alternative c.args.moves) c.entry_count.result c.entry_count.ensures }
