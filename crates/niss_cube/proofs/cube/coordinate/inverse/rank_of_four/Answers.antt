use Rattle.niss_cube.proofs.Words.{arith, ◌/◌, ◌%◌}
use Rattle.niss_cube.proofs.InverseRanks.{four-rank, small_parts}
use Rattle.niss_cube.proofs.cube.coordinate.inverse.rank_of_four.Goals as goal

pub overflow_add-result : goal.overflow_add-result
overflow_add-result c =
    omega (arith, (small_parts (c.args.mask / 64) (omega (arith, c.requires))).0, (small_parts (c.args.mask % 64) (omega arith)).1)

pub returns : goal.returns
returns c = λ occupied four. four-rank c.args.mask occupied four
