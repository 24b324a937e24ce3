use Rattle.niss_cube.proofs.Words.{◌-◌, length, arith}
use Rattle.niss_cube.proofs.Digits.{written-step, written-end}
use Rattle.niss_cube.proofs.cube.coordinate.ranking.unrank_orientations.Goals as goal

pub loop-met-preserved : goal.loop-met-preserved
loop-met-preserved c =
    rw (c.from.ensures, c.from-rest.ensures)
    (written-step c.args.base (length c.args.orientations.now - 1) c.args.rank c.loop-met.met c.loop-met.rest c.loop-met.sum c.loop-met.orientations c.loop-met-test.true c.loop-met.invariant)

pub returns : goal.returns
returns c =
    written-end c.args.base (length c.args.orientations.now - 1) c.args.rank c.loop-met.met c.loop-met.rest c.loop-met.sum c.loop-met.orientations (omega arith) c.loop-met.invariant
