use Rattle.std.proofs.Common.{refl, inr}
use Rattle.niss_attempts.proofs.steps.corners.StepCorners.dead.Goals as goal

pub returns : goal.returns
returns c bytes faulty = inr (record { faulty = faulty; not_plain = refl; is_dead = refl })
