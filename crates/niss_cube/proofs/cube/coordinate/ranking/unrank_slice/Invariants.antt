use Rattle.niss_cube.proofs.Words.{◌-◌}
use Rattle.niss_cube.proofs.Ranks.{Placed}
use Rattle.niss_cube.proofs.cube.coordinate.ranking.unrank_slice.Given as goal

abbrev pub invariant-loop-met : goal.invariant-loop-met
invariant-loop-met l = Placed l.rank (12 - l.met) l.wanted l.rest l.edges
