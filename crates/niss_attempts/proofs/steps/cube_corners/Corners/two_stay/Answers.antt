use Rattle.niss_attempts.proofs.CornerLemmas.{two_apart, is_seven}
use Rattle.niss_attempts.proofs.steps.cube_corners.Corners.two_stay.Goals as goal

pub returns : goal.returns
returns c s t a b w = is_seven _ (two_apart c.args.self.now.to c.args.next.now.to s t a b w)
