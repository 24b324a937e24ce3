use Rattle.std.proofs.Common.{◌≡◌, ◌-◌}
use Rattle.std.specs.Prelude.{find}
use Rattle.std.specs.List.{range_with_len}
use Rattle.niss_attempts.specs.ShownTurn.{said_in, stands_at}
use Rattle.niss_attempts.proofs.doubts.shown_turn.said_in.Given as goal

abbrev pub invariant-loop-at : goal.invariant-loop-at
invariant-loop-at l = find (stands_at l.text l.face) (range_with_len l.at (l.end - l.at)) ≡ said_in l.text l.line l.face
