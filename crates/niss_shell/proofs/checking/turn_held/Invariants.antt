use Rattle.std.proofs.Common.{map, drop}
use Rattle.niss_moves.specs.Effects.{effect_of_turns}
use Rattle.niss_moves.specs.Places.{SameMap}
use Rattle.niss_moves.specs.Rotations.{face_before, renamed_turn}
use Rattle.niss_cube.specs.Map.{map_of}
use Rattle.niss_shell.proofs.checking.turn_held.Given as goal

abbrev pub invariant-loop-turn : goal.invariant-loop-turn
invariant-loop-turn l =
    SameMap (λ q. effect_of_turns (map (renamed_turn (face_before l.rotation)) (drop l.turn-index l.turns)) (map_of l.cube q))
    (λ q. effect_of_turns (map (renamed_turn (face_before l.rotation)) l.turns) (map_of l.initial.cube q))
