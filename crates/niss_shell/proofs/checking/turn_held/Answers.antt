use Rattle.std.proofs.Common.{◌∙◌, sym, map}
use Rattle.std.proofs.lemmas.List.{at_drop_more, at_drop_all}
use Rattle.niss_moves.specs.Effects.{effect_of_turns}
use Rattle.niss_moves.specs.Rotations.{face_before, renamed_turn}
use Rattle.niss_cube.specs.Map.{map_of}
use Rattle.niss_shell.proofs.checking.turn_held.Goals as goal

pub loop-turn-preserved : goal.loop-turn-preserved
loop-turn-preserved g q p =
    rw (g.turn.ensures q p) (rw g.face_before.ensures.renames
    (sym (at_drop_more (λ ts. effect_of_turns (map (renamed_turn (face_before g.args.rotation)) ts) (map_of g.loop-turn.cube q))
    g.args.turns.now g.loop-turn.turn-index _ g.loop-turn-test.true)
    ∙ g.loop-turn.invariant q p))

pub returns : goal.returns
returns g q p =
    sym (at_drop_all (λ ts. effect_of_turns (map (renamed_turn (face_before g.args.rotation)) ts) (map_of g.loop-turn.cube q))
    g.args.turns.now g.loop-turn.turn-index g.loop-turn-test.false)
    ∙ g.loop-turn.invariant q p
