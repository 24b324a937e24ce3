use Rattle.niss_attempts.proofs.TurnedLemmas.{turned_refused}
use Rattle.niss_attempts.proofs.doubts.turned_cube.may_hold.Goals as goal

pub returns-else-not-around : goal.returns-else-not-around
returns-else-not-around c scramble steps bounds number is none =
    turned_refused c.line_is_read.ensures.spelled c.one_reading.ensures c.rotated_is_tested.ensures c.args.around.now c.args.sides.now c.args.hold.now.corners.to
    c.args.hold.now.rotation c.may_be_rotated.result c.requires.sides c.requires.hold c.may_be_rotated.ensures scramble steps bounds number is c.if-not-around.false none
