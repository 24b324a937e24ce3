use Rattle.niss_cube.proofs.Words.{drop, map_of, SameMap, effect_of_turns}
use Rattle.niss_cube.proofs.cube.Cube.apply.Given as goal

abbrev pub invariant-loop-turn : goal.invariant-loop-turn
invariant-loop-turn l =
    SameMap (λ q. effect_of_turns (drop l.turn-index l.turns) (map_of l.self q)) (λ q. effect_of_turns l.turns (map_of l.initial.self q))
