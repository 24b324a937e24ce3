use Rattle.std.proofs.Common.{◌∙◌, sym, arith}
use Rattle.niss_attempts.specs.ShownTurn.{stands_at}
use Rattle.niss_attempts.proofs.LostLemmas.{find_passed}
use Rattle.niss_attempts.proofs.doubts.shown_turn.may_say.Goals as goal

pub loop-at-preserved : goal.loop-at-preserved
loop-at-preserved c face =
    sym (find_passed (stands_at c.args.text.now face) c.loop-at.at c.min-end.result (omega arith) (c.may_begin.ensures c.if-may_begin.false face))
    ∙ c.loop-at.invariant face
