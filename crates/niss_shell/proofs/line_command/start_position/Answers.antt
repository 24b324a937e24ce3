use Rattle.niss_shell.proofs.Names.{◌≡◌, false, sym, ◌∙◌, subst, map_of, may_start, home}
use Rattle.niss_shell.proofs.line_command.start_position.Goals as goal

pub returns-then-may_start : goal.returns-then-may_start
returns-then-may_start g c = c.position.ensures.of_cube (home c.args.line.now) c.cube_of.ensures.cube

pub returns-else-may_start : goal.returns-else-may_start
returns-else-may_start g c =
    sym ((c.steps_see_places.ensures (map_of c.cube_of.result.0) (home c.args.line.now) c.cube_of.ensures.cube).start c.args.tables.now)
    ∙ subst (λ s. may_start s (map_of c.cube_of.result.0) ≡ false) c.step.ensures (sym c.may_start.ensures.value ∙ c.if-may_start.false)
