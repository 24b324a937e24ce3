use Rattle.std.proofs.Common.{◌≡◌, ◌+◌, ◌≤◌, length}
use Rattle.niss_attempts.specs.ShownTurn.{signs_among}
use Rattle.niss_attempts.proofs.doubts.shown_turn.has_one_sign.Given as goal

abbrev pub invariant-loop-line : goal.invariant-loop-line
invariant-loop-line l = record {
  same : l.count + length (signs_among l.text l.rest) ≡ length (signs_among l.text l.lines);
  few : l.count ≤ 1;
}

abbrev pub decreases-loop-line : goal.decreases-loop-line
decreases-loop-line l = length l.rest
