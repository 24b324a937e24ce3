use Rattle.std.proofs.Common.{◌-◌, ◌^◌, arith}
use Rattle.niss_attempts.proofs.InnerLemmas.{room_enough, room_few}
use Rattle.niss_attempts.proofs.doubts.inner_attempt.room_of.Goals as goal

pub returns-clause-few : goal.returns-clause-few
returns-clause-few c =
    room_few c.args.line.now c.length_of_moves-moves.result c.saturating_mul.result c.saturating_add.result c.min.result c.args.room (2 ^ 64 - 1)
    c.length_of_moves-moves.ensures c.saturating_mul.ensures c.saturating_add.ensures c.min.ensures

pub returns-clause-enough : goal.returns-clause-enough
returns-clause-enough c =
    room_enough c.args.line.now c.length_of_moves-moves.result c.saturating_mul.result c.saturating_add.result c.min.result c.args.room (2 ^ 64 - 1)
    c.length_of_moves-moves.ensures c.saturating_mul.ensures c.saturating_add.ensures c.min.ensures (omega (arith, c.ranges.room.fits))
