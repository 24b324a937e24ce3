use Rattle.niss_cube.proofs.Words.{◌+◌, ◌∙◌, ap, sym, drop, at_drop_more, map_of, effect_of_turns, at_drop_all}
use Rattle.niss_cube.proofs.cube.Cube.apply.Goals as goal

pub loop-turn-preserved : goal.loop-turn-preserved
loop-turn-preserved c q p =
    ap (effect_of_turns (drop (c.loop-turn.turn-index + 1) c.args.turns.now)) (c.turn.ensures q p)
    ∙ sym (at_drop_more (λ ts. effect_of_turns ts (map_of c.loop-turn.self q)) c.args.turns.now c.loop-turn.turn-index _ c.loop-turn-test.true)
    ∙ c.loop-turn.invariant q p

pub returns : goal.returns
returns c = λ q p.
    sym (at_drop_all (λ ts. effect_of_turns ts (map_of c.loop-turn.self q)) c.args.turns.now c.loop-turn.turn-index c.loop-turn-test.false)
    ∙ c.loop-turn.invariant q p
