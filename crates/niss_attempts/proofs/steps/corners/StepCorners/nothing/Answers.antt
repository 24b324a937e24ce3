use Rattle.std.proofs.Common.{refl}
use Rattle.niss_attempts.proofs.CornerLemmas.{by_nothing}
use Rattle.niss_attempts.proofs.CornerLines.{reads_nothing}
use Rattle.niss_attempts.proofs.steps.corners.StepCorners.nothing.Goals as goal

pub returns : goal.returns
returns c = reads_nothing _ by_nothing by_nothing by_nothing refl refl
