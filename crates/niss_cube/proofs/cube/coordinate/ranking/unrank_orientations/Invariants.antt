use Rattle.niss_cube.proofs.Digits.{Written}
use Rattle.niss_cube.proofs.cube.coordinate.ranking.unrank_orientations.Given as goal

abbrev pub invariant-loop-met : goal.invariant-loop-met
invariant-loop-met l = Written l.base l.last l.rank l.met l.rest l.sum l.orientations
