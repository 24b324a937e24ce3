use Rattle.std.proofs.Common.{◌≡◌, sym, ◌∙◌, subst, true, List}
use Rattle.niss_cube.specs.Map.{map_of}
use Rattle.niss_cube.specs.declared.cube.Cube.{Cube}
use Rattle.niss_moves.specs.Places.{SameMap}
use Rattle.niss_moves.specs.declared.turn.Face.{Face}
use Rattle.niss_ways.specs.Shown.{Tells}
use Rattle.niss_ways.specs.Ways.{cube_after, first_reaches}
use Rattle.niss_ways.proofs.TruthLemmas.{in_two_steps}
use Rattle.niss_ways.proofs.following.Following.row.Goals as goal

pub reduced-requires : goal.reduced-requires
reduced-requires g c = c.is_of-is_measured.ensures.step c.if-not-is_measured.false ∙ c.step.ensures

pub returns : goal.returns
returns g c =
    let o = c.args.self.now.start.now in
    let p = c.args.found.now.orientation in
    let step = c.edge_step_on-step.result in
    let found : first_reaches step (map_of o.cube) p ≡ true =
    subst (λ (k : Cube). first_reaches step (map_of k) p ≡ true) c.cube-cube.ensures (sym c.first_reaches.ensures ∙ c.if-not-first_reaches.false) in
    let there : SameMap (map_of c.cube_after-between.result) (cube_after (map_of o.cube) p) =
    subst (λ (k : Cube). SameMap (map_of c.cube_after-between.result) (cube_after (map_of k) p)) c.cube-cube.ensures c.cube_after-between.ensures in
    let after : SameMap (map_of c.args.found.now.from.cube) (cube_after (map_of o.cube) p) =
    λ q is. c.is_of-is_measured.ensures.cube c.if-not-is_measured.false q is ∙ there q is in
    let named : Tells o.names step p c.of-eo.result = subst (λ (n : List Face). Tells n step p c.of-eo.result) c.names.ensures.value c.of-eo.ensures in
    in_two_steps o c.reduced.result c.args.self.now.axes.edges step p c.of-eo.result c.args.found.now.from.cube c.edge_step_on-step.ensures found after named
    c.reduced.ensures.eo c.reduced.ensures.reduction
