use Rattle.niss_cube.proofs.Words.{◌≡◌, [], get_or, get_or_default, ◌∙◌, ap, arith, rank_after, standard_axis}
use Rattle.niss_cube.proofs.Words.{AreMoveRows, turn_number, turn_order}
use Rattle.niss_cube.proofs.CoordinateLaws.{is_rank_after, turn-found}
use Rattle.niss_cube.proofs.turn_tables.TurnTable.next.Goals as goal

pub returns : goal.returns
returns g c =
    let standard = c.standard_turn-standard.result in
    let found = turn-found standard in
    let rows : AreMoveRows c.args.self.now (standard_axis c.args.self.now) turn_order c.self.inside.rows.items = rw c.self.view_is at c.self.invariant in
    let row : c.index.result.now ≡ get_or c.self.inside.rows.items c.args.rank [] =
    c.index.ensures ∙ get_or_default c.self.inside.rows.items c.args.rank _ [] (omega (arith, rows.size, c.requires)) in
    is_rank_after c.args.self.now c.args.axis c.args.rank c.args.turn _ c.requires
    (ap (λ n. get_or c.index.result.now n 0) c.turn_number.ensures
    ∙ ap (λ xs. get_or xs (turn_number standard) 0) row
    ∙ (rows.each c.args.rank c.requires).after (turn_number standard) found.0
    ∙ ap (rank_after c.args.self.now (standard_axis c.args.self.now) c.args.rank) found.1
    ∙ (rw c.self.view_is at c.standard_turn-standard.ensures.same_rank) c.args.rank)
