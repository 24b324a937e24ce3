use Rattle.std.proofs.Common.{ap, ◌∙◌}
use Rattle.niss_moves.specs.Effects.{effect_of_turns}
use Rattle.niss_ways.proofs.start.cube_of.Goals as goal

pub returns : goal.returns
returns c = λ q p.
    c.apply.ensures q p ∙ ap (effect_of_turns c.as_slice.result.now) (c.solved-cube.ensures q p)
    ∙ (λ j. effect_of_turns (c.as_slice.ensures.value j) q)
