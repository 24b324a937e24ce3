use Rattle.niss_shell.proofs.Names.{◌≡◌, ap, sym, ◌∙◌, effect, effect_of_turns, faces, joined_moves, map_of, spelling}
use Rattle.niss_shell.proofs.line_command.cube_of.Goals as goal

pub returns-clause-cube : goal.returns-clause-cube
returns-clause-cube c = λ q place.
    let turns : c.as_slice-2.result.now ≡ faces (joined_moves c.args.line.now) =
    c.as_slice-2.ensures.value ∙ c.to_faces-turns.ensures.faces ∙ ap faces (c.as_slice.ensures.value ∙ c.unniss.ensures.moves) in
    c.apply.ensures q place
    ∙ ap (λ t. effect_of_turns t (map_of c.solved-cube.result q)) turns
    ∙ ap (λ p. effect_of_turns (faces (joined_moves c.args.line.now)) p) (c.solved-cube.ensures q place)

pub returns-clause-rotated : goal.returns-clause-rotated
returns-clause-rotated c = λ q place.
    ap (effect (spelling c.to_faces-turns.result.1))
    (c.apply.ensures q place
    ∙ ap (λ t. effect_of_turns t (map_of c.solved-cube.result q)) c.as_slice-2.ensures.value
    ∙ ap (effect_of_turns c.to_faces-turns.result.0.items) (c.solved-cube.ensures q place))
    ∙ sym (c.to_faces-turns.ensures.effect q)
    ∙ ap (λ s. effect s q) (c.as_slice.ensures.value ∙ c.unniss.ensures.moves)
