use Rattle.niss_cube.proofs.Words.{◌∙◌, ap, Face, standard_axis, rank_after}
use Rattle.niss_cube.proofs.Codes.{rank_after-standard}
use Rattle.niss_cube.proofs.cube.coordinate.Coordinate.standard_turn.Goals as goal

pub returns-clause-same_rank : goal.returns-clause-same_rank
returns-clause-same_rank c = λ rank.
    ap (λ (f : Face). rank_after c.args.self (standard_axis c.args.self) rank record { face = f; power = c.args.turn.power }) c.renamed_face.ensures
    ∙ rank_after-standard c.args.self c.args.axis rank c.args.turn
