use Rattle.niss_cube.proofs.Words.{refl, arith, edges_of_rank, append-nil}
use Rattle.niss_cube.proofs.Ranks.{placed-slice, placed-free, placed-end, wanted-below}
use Rattle.niss_cube.proofs.cube.coordinate.ranking.unrank_slice.Goals.{then-rest-with, else-rest-with}
use Rattle.niss_cube.proofs.cube.coordinate.ranking.unrank_slice.Goals as goal

pub loop-met-init : goal.loop-met-init
unfolding edges_of_rank
loop-met-init c = record { places = refl; fits = c.requires; few = omega arith; is = append-nil _ }

pub overflow_sub-edges : goal.overflow_sub-edges
overflow_sub-edges c =
    wanted-below c.args.rank c.loop-met.met c.loop-met.wanted c.loop-met.rest c.loop-met.edges c.loop-met.edges c.loop-met-test.true c.loop-met.invariant
    (omega (arith, c.choices_with-with.ensures, c.if-rest-with.false))

pub loop-met-preserved : goal.loop-met-preserved
loop-met-preserved c =
    let l = c.loop-met in
    elim c.if-rest-with.branch [
      | then-rest-with w ↦ rw (w.wanted-is, w.rest-is)
          (placed-slice c.args.rank l.met l.wanted l.rest l.edges c.if-rest-with.edges c.loop-met-test.true l.invariant (omega (arith, c.choices_with-with.ensures, w.if-rest-with.true)) w.edges-is)
      | else-rest-with w ↦ rw (w.wanted-is, w.rest-is, c.choices_with-with.ensures)
          (placed-free c.args.rank l.met l.wanted l.rest l.edges c.if-rest-with.edges c.loop-met-test.true l.invariant (omega (arith, c.choices_with-with.ensures, w.if-rest-with.false)) w.edges-is)
    ]

pub returns : goal.returns
returns c = placed-end c.args.rank c.loop-met.met c.loop-met.wanted c.loop-met.rest c.loop-met.edges (omega arith) c.loop-met.invariant
