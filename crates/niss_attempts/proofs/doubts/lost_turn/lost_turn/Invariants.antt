use Rattle.std.proofs.Common.{◌<◌, ℕ, None, Ok}
use Rattle.niss_attempts.specs.LostTurn.{IsLostAt}
use Rattle.niss_attempts.specs.ShownTurn.{IsBorder, shown_at}
use Rattle.niss_attempts.proofs.doubts.lost_turn.lost_turn.Given as goal

abbrev pub invariant-loop-number : goal.invariant-loop-number
invariant-loop-number l = record {
  is_border : IsBorder l.text l.lines l.number l.border;
  none : (j : ℕ) → j < l.number → IsLostAt (Ok l.whole.scramble.now) l.whole.steps.now l.whole.bounds.now j (shown_at l.text l.lines j) None;
}
