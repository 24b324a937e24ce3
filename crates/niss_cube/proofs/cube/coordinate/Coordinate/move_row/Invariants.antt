use Rattle.niss_cube.proofs.Words.{◌≡◌, ℕ, ◌<◌, length, slice_index, rank_after, turn_in}
use Rattle.niss_cube.proofs.cube.coordinate.Coordinate.move_row.Given as goal

abbrev pub invariant-loop-column : goal.invariant-loop-column
invariant-loop-column l = record {
  end : l.column-end ≡ length l.turns;
  size : length l.row ≡ 18;
  right : (c : ℕ) → c < l.column → slice_index l.row c ≡ rank_after l.self l.axis l.rank (turn_in l.turns c);
}
