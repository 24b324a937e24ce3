use Rattle.std.proofs.Common.{◌≡◌, ◌<◌, ℕ, None, Ok}
use Rattle.niss_attempts.specs.LostTurn.{shown_if, solves_with_turn, turn_numbered}
use Rattle.niss_attempts.specs.ShownTurn.{shown_between}
use Rattle.niss_attempts.proofs.doubts.lost_turn.lost_by.Given as goal

abbrev pub invariant-loop-place : goal.invariant-loop-place
invariant-loop-place l = (j : ℕ) → j < l.place →
    None ≡ shown_if (solves_with_turn (Ok l.whole.scramble.now) l.whole.steps.now l.whole.bounds.now l.border.number (turn_numbered j))
    (shown_between l.border.text.now l.border.above l.border.below l.border.has_one_sign (turn_numbered j))
