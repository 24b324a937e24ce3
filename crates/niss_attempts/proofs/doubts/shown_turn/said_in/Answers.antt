use Rattle.std.proofs.Common.{◌∙◌, sym, arith}
use Rattle.niss_attempts.specs.ShownTurn.{stands_at}
use Rattle.niss_attempts.proofs.LostLemmas.{find_passed}
use Rattle.niss_attempts.proofs.doubts.shown_turn.said_in.Goals as goal

pub loop-at-preserved : goal.loop-at-preserved
loop-at-preserved c =
    sym (find_passed (stands_at c.args.text.now c.args.face) c.loop-at.at c.min-end.result (omega arith) (sym c.stands_at.ensures ∙ c.if-stands_at.false))
    ∙ c.loop-at.invariant
