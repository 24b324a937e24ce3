use Rattle.std.proofs.Common.{◌≡◌, length}
use Rattle.niss_attempts.specs.ShownTurn.{steps_among}
use Rattle.niss_attempts.proofs.doubts.shown_turn.first_step.Given as goal

abbrev pub invariant-loop-line : goal.invariant-loop-line
invariant-loop-line l = steps_among l.rest ≡ steps_among l.lines

abbrev pub decreases-loop-line : goal.decreases-loop-line
decreases-loop-line l = length l.rest
