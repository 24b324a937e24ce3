use Rattle.niss_moves.proofs.Effects.{joined, inverse_of, inverse_undoes_line}
use Rattle.niss_moves.proofs.niss.invert.Goals as goal

pub returns-clause-effect : goal.returns-clause-effect
returns-clause-effect c s q h =
    let n = c.args.niss.now in
    inverse_undoes_line _ n.normal n.bracketed s q h (inverse_of _ n.normal n.bracketed (joined _ _ _ _ _ n.bracketed n.normal c.new-moves.ensures c.inverse.ensures.moves c.normal.ensures.moves c.push_all.ensures c.push_inverse.ensures))
