use Rattle.niss_attempts.proofs.CornerLines.{reads_both}
use Rattle.niss_attempts.proofs.steps.corners.StepCorners.then.Goals as goal

pub returns : goal.returns
returns c bytes more =
    reads_both c.args.self.now c.args.next.now _ bytes more c.then.ensures c.then-2.ensures c.then-3.ensures c.both.ensures c.either.ensures
