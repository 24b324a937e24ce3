use Rattle.niss_search.proofs.Words.{◌≡◌, length, ◌<◌, ℕ, ◌*◌, slice_index}
use Rattle.niss_search.proofs.tables.goal_moves.DominoMovesGoalMoves.starts.Given as goal

abbrev pub invariant-loop-column : goal.invariant-loop-column
invariant-loop-column g l = record {
  size : length l.starts ≡ 18;
  written : (k : ℕ) → k < l.column → slice_index l.starts k ≡ slice_index l.twists k * 495;
}
