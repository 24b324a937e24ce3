use Rattle.niss_attempts.proofs.CornerLemmas.{opposites_stay, is_seven}
use Rattle.niss_attempts.proofs.steps.cube_corners.Corners.opposites_stay.Goals as goal

pub returns-then-self-eq7-3 : goal.returns-then-self-eq7-3
returns-then-self-eq7-3 c s b w = is_seven _ (opposites_stay c.args.self.now.to s b w).3

pub returns-else-self-eq7-3 : goal.returns-else-self-eq7-3
returns-else-self-eq7-3 c s b w = is_seven _ (opposites_stay c.args.self.now.to s b w).2

pub returns-else-self-eq7-2 : goal.returns-else-self-eq7-2
returns-else-self-eq7-2 c s b w = is_seven _ (opposites_stay c.args.self.now.to s b w).1

pub returns-else-self-eq7 : goal.returns-else-self-eq7
returns-else-self-eq7 c s b w = is_seven _ (opposites_stay c.args.self.now.to s b w).0
