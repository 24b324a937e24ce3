use Rattle.std.proofs.Common.{take}
use Rattle.std.specs.Prelude.{fold}
use Rattle.niss_moves.specs.Places.{SameMap}
use Rattle.niss_cube.specs.Map.{map_of}
use Rattle.niss_search.specs.BothSides.{turned_before}
use Rattle.niss_ways.proofs.solution.Solution.cube_after.Given as goal

abbrev pub invariant-loop-turn : goal.invariant-loop-turn
invariant-loop-turn l = SameMap (map_of l.here) (fold turned_before (map_of l.cube) (take l.turn-index l.inverse))
