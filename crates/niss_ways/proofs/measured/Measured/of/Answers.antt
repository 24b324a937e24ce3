use Rattle.std.proofs.Common.{sym, ◌∙◌, subst, IsTrue}
use Rattle.niss_cube.specs.Map.{map_of}
use Rattle.niss_cube.specs.Steps.{may_start}
use Rattle.niss_cube.specs.declared.step.Step.{Step}
use Rattle.niss_ways.proofs.measured.Measured.of.Goals as goal

pub distance-requires-2 : goal.distance-requires-2
distance-requires-2 g c =
    let starts : IsTrue (may_start c.args.tables.now (map_of c.args.cube.now)) =
    subst (λ (s : Step). IsTrue (may_start s (map_of c.args.cube.now))) c.step-step.ensures (sym c.may_start.ensures.value ∙ c.if-not-may_start.false) in
    subst IsTrue ((c.inverse_has_steps.ensures c.args.cube.now c.args.inverse.now c.requires).start c.args.tables.now) starts
