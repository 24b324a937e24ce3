use Rattle.niss_cube.proofs.Words.{◌≡◌, sym, ◌∙◌, subst, map_of, rank_of, IsRank}
use Rattle.niss_cube.proofs.CoordinateLaws.{is_rank, renamed-rank}
use Rattle.niss_cube.proofs.cube.coordinate.Coordinate.rank.Goals as goal

pub returns : goal.returns
returns c =
    let is : c.standard_rank.result ≡ rank_of c.args.self c.args.axis (map_of c.args.cube.now) =
    c.standard_rank.ensures ∙ renamed-rank c.args.self c.args.axis c.renamed.result (map_of c.args.cube.now) c.renamed.ensures in
    subst (IsRank c.args.self c.args.axis (map_of c.args.cube.now)) (sym is) (is_rank c.args.self c.args.axis c.args.cube.now)
