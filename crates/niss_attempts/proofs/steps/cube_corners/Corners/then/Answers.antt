use Rattle.std.proofs.Common.{arith}
use Rattle.niss_attempts.proofs.CornerLemmas.{by_both}
use Rattle.niss_attempts.proofs.steps.cube_corners.Corners.then.Goals as goal

pub returns : goal.returns
returns c s t =
    by_both c.args.self.now.to c.args.next.now.to c.loop-corner.to s t (λ k l. c.loop-corner.invariant.done k (omega (arith, l, c.loop-corner.auto.corner-end, c.loop-corner-test.false)))
