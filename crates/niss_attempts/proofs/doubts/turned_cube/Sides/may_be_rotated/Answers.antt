use Rattle.std.proofs.Common.{◌++◌}
use Rattle.niss_attempts.proofs.doubts.turned_cube.Sides.may_be_rotated.Goals as goal

pub returns-then-two_stay_by : goal.returns-then-two_stay_by
returns-then-two_stay_by c s r t a b e w = c.may_be_rotated.ensures (s ++ r ++ t) (c.then-then-two_stay_by.ensures (s ++ r) t (c.then.ensures s r a b) e) w
