use Rattle.niss_shell.proofs.Names.{◌∙◌, effect, joined_moves, map_of, spelling}
use Rattle.niss_shell.proofs.line_command.facelets_of.Goals as goal

pub returns : goal.returns
returns c =
    let cube = c.cube_of in
    c.facelets.ensures
    ∙ c.same_letters.ensures (λ q. effect (spelling cube.result.1) (map_of cube.result.0 q)) (effect (joined_moves c.args.line.now)) cube.ensures.rotated
