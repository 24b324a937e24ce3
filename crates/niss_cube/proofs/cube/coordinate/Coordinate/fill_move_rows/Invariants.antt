use Rattle.niss_cube.proofs.Words.{◌≡◌, ℕ, ◌<◌, [], length, get_or, count_of, IsMoveRow}
use Rattle.niss_cube.proofs.cube.coordinate.Coordinate.fill_move_rows.Given as goal

abbrev pub invariant-loop-rank : goal.invariant-loop-rank
invariant-loop-rank l = record {
  end : l.rank-end ≡ count_of l.self;
  size : length l.rows ≡ count_of l.self;
  each : (i : ℕ) → i < l.rank → IsMoveRow l.self l.axis l.turns i (get_or l.rows i []);
}
