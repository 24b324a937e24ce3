use Rattle.std.proofs.Common.{◌++◌}
use Rattle.niss_moves.specs.Line.{joined_moves}
use Rattle.niss_attempts.proofs.TailLemmas.{tail_refused}
use Rattle.niss_attempts.proofs.steps.corners.corners_may_solve.Goals as goal

pub returns-then-two_stay : goal.returns-then-two_stay
returns-then-two_stay c moves bytes scrambles tail =
    tail_refused c.line_is_read.ensures.spelled c.one_reading.ensures c.rotated_is_tested.ensures moves bytes c.args.line.now.to c.may_be_rotated.result tail
    (λ s brings. c.may_be_rotated.ensures (joined_moves moves ++ s) (c.then.ensures (joined_moves moves) s scrambles brings))

pub returns-else-two_stay : goal.returns-else-two_stay
returns-else-two_stay c moves bytes scrambles tail =
    tail_refused c.line_is_read.ensures.spelled c.one_reading.ensures c.rotated_is_tested.ensures moves bytes c.args.line.now.to c.two_stay.result tail
    (λ s brings. c.two_stay.ensures (joined_moves moves) s scrambles brings)
