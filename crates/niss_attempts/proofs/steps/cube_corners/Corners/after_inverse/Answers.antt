use Rattle.std.proofs.Common.{◌∙◌, ap}
use Rattle.niss_attempts.specs.Corners.{corners_after}
use Rattle.niss_attempts.proofs.CornerLemmas.{by_nothing, inverse_by_more}
use Rattle.niss_attempts.proofs.steps.cube_corners.Corners.after_inverse.Goals as goal

pub loop-token-init : goal.loop-token-init
loop-token-init c = by_nothing

pub loop-token-preserved : goal.loop-token-preserved
loop-token-preserved c =
    inverse_by_more c.loop-token.corners.to c.then-corners.result.to c.after_move.result c.args.tokens.now c.loop-token.token-index _ c.loop-token-test.true
    (c.after_move.ensures ∙ ap corners_after c.inverse.ensures) c.then-corners.ensures c.loop-token.invariant
