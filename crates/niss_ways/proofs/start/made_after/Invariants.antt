use Rattle.std.proofs.Common.{◌≡◌, map, take}
use Rattle.niss_moves.specs.Rotations.{face_before, renamed_turn}
use Rattle.niss_ways.proofs.start.made_after.Given as goal

abbrev pub invariant-loop-turn : goal.invariant-loop-turn
invariant-loop-turn l = l.renamed.items ≡ map (renamed_turn (face_before l.rotation)) (take l.turn-index l.turn-items)
