use Rattle.niss_search.proofs.Words.{arith, refl, ◌≡◌, length, subst, sym}
use Rattle.niss_cube.specs.AfterTurn.{AreMoveRows}
use Rattle.niss_search.proofs.Words.{turns_of}
use Rattle.std.proofs.lemmas.List.{with_items_is}
use Rattle.niss_search.proofs.Bounds.{turns_of-length}
use Rattle.niss_search.proofs.tables.move_table.MoveTable.build_in.Goals as goal

pub fill_move_rows-requires-clause-few : goal.fill_move_rows-requires-clause-few
fill_move_rows-requires-clause-few g c = rw c.turns.ensures (turns_of-length c.args.step)

pub fill_move_rows-requires-clause-each_rank : goal.fill_move_rows-requires-clause-each_rank
fill_move_rows-requires-clause-each_rank g c = omega (arith, c.deref_mut.ensures.len, c.in-Ok.ensures.len, c.count.ensures)

pub invariant_of-result : goal.invariant_of-result
invariant_of-result g c =
    let rows = c.fill_move_rows.new.rows in
    let size : length rows ≡ c.in-Ok.rows.len = omega (arith, c.fill_move_rows.ensures.size, c.in-Ok.ensures.len, c.count.ensures) in
    subst (AreMoveRows c.args.coordinate c.args.axis (turns_of c.args.step)) (sym (with_items_is c.in-Ok.rows rows size)) (rw c.turns.ensures at c.fill_move_rows.ensures)

pub returns : goal.returns
returns g c = refl
