use Rattle.niss_cube.proofs.Words.{◌≡◌, List, ℕ, drop, length, sym, subst, arith, AreMoveRows, standard_axis, turn_order}
use Rattle.std.proofs.lemmas.List.{take_at}
use Rattle.niss_cube.proofs.turn_tables.TurnTable.build_in.Goals as goal

pub invariant_of-result : goal.invariant_of-result
invariant_of-result g c =
    let k = c.args.coordinate in
    let rows : List (List ℕ) = c.fill_move_rows.new.rows in
    let are : AreMoveRows k (standard_axis k) turn_order rows = rw (c.standard_axis.ensures, c.turn_order.ensures) at c.fill_move_rows.ensures in
    let len : length rows ≡ c.in-Ok.rows.len = omega (arith, are.size, c.in-Ok.ensures.len, c.count.ensures) in
    subst (AreMoveRows k (standard_axis k) turn_order) (sym (take_at rows (drop (length rows) c.in-Ok.rows.items) c.in-Ok.rows.len len)) are
