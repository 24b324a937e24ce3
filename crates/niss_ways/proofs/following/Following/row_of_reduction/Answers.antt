use Rattle.std.proofs.Common.{sym, ◌∙◌, subst, IsTrue}
use Rattle.niss_cube.specs.Map.{map_of}
use Rattle.niss_cube.specs.Steps.{reached}
use Rattle.niss_cube.specs.declared.cube.Cube.{Cube}
use Rattle.niss_moves.specs.Places.{SameMap}
use Rattle.niss_ways.proofs.TruthLemmas.{in_one_step}
use Rattle.niss_ways.proofs.following.Following.row_of_reduction.Goals as goal

pub reduced-requires : goal.reduced-requires
reduced-requires g c = c.is_of.ensures.step c.if-not-is_of.false ∙ c.step.ensures

pub returns : goal.returns
returns g c =
    let o = c.args.self.now.start.now in
    let step = c.edge_step_on.result in
    let from = c.args.from.now.cube in
    let holds : IsTrue (reached step (map_of o.cube)) =
    subst (λ (k : Cube). IsTrue (reached step (map_of k))) c.cube-cube.ensures (sym c.reached.ensures.value ∙ c.if-not-reached.false) in
    let same : SameMap (map_of from) (map_of o.cube) =
    subst (λ (k : Cube). SameMap (map_of from) (map_of k)) c.cube-cube.ensures (c.is_of.ensures.cube c.if-not-is_of.false) in
    in_one_step o c.reduced.result c.args.self.now.axes.edges step c.none.result c.of-nothing.result from c.edge_step_on.ensures holds
    c.none.ensures c.of-nothing.ensures same c.reduced.ensures.eo c.reduced.ensures.reduction
