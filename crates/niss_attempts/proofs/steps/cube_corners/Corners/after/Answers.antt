use Rattle.niss_attempts.proofs.CornerLemmas.{by_nothing, by_more}
use Rattle.niss_attempts.proofs.steps.cube_corners.Corners.after.Goals as goal

pub loop-token-init : goal.loop-token-init
loop-token-init c = by_nothing

pub loop-token-preserved : goal.loop-token-preserved
loop-token-preserved c =
    by_more c.loop-token.corners.to c.then-corners.result.to c.after_move.result c.args.tokens.now c.loop-token.token-index _ c.loop-token-test.true c.after_move.ensures
    c.then-corners.ensures c.loop-token.invariant
