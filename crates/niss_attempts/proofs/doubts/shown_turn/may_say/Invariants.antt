use Rattle.std.proofs.Common.{◌≡◌, ◌-◌}
use Rattle.std.specs.Prelude.{find}
use Rattle.std.specs.List.{range_with_len}
use Rattle.niss_moves.specs.declared.turn.Face.{Face}
use Rattle.niss_attempts.specs.ShownTurn.{said_in, stands_at}
use Rattle.niss_attempts.proofs.doubts.shown_turn.may_say.Given as goal

abbrev pub invariant-loop-at : goal.invariant-loop-at
invariant-loop-at l = (face : Face) → find (stands_at l.text face) (range_with_len l.at (l.end - l.at)) ≡ said_in l.text l.line face
