use Rattle.niss_attempts.proofs.CornerLemmas.{two_apart_by, is_seven}
use Rattle.niss_attempts.proofs.steps.cube_corners.Corners.two_stay_by.Goals as goal

pub returns : goal.returns
returns c s r t a b e w = is_seven _ (two_apart_by c.args.self.now.to c.args.between.now.to c.args.next.now.to s r t a b e w)
