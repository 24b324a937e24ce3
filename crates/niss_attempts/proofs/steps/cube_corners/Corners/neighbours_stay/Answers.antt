use Rattle.std.proofs.Common.{◌∙◌}
use Rattle.niss_attempts.proofs.CornerLemmas.{neighbours_stay}
use Rattle.niss_attempts.proofs.steps.cube_corners.Corners.neighbours_stay.Goals as goal

pub returns-then-is_one_bit-2 : goal.returns-then-is_one_bit-2
returns-then-is_one_bit-2 c s b w = c.is_one_bit-then-is_one_bit-2.ensures ∙ (neighbours_stay c.args.self.now.to s b w).2

pub returns-else-is_one_bit-2 : goal.returns-else-is_one_bit-2
returns-else-is_one_bit-2 c s b w = c.is_one_bit-then-is_one_bit.ensures ∙ (neighbours_stay c.args.self.now.to s b w).1

pub returns-else-is_one_bit : goal.returns-else-is_one_bit
returns-else-is_one_bit c s b w = c.is_one_bit.ensures ∙ (neighbours_stay c.args.self.now.to s b w).0
