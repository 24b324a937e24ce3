use Rattle.niss_search.proofs.Words.{arith, ◌∙◌, sym}
use Rattle.niss_search.proofs.LookLemmas.{distance_at-most}
use Rattle.niss_search.proofs.LookLemmas.{distance-cube, distance-reached-cube}
use Rattle.niss_search.proofs.tables.Tables.look.Goals as goal

pub returns-clause-in_range : goal.returns-clause-in_range
returns-clause-in_range g c =
    omega (arith, c.look_by_kind.ensures.value, distance_at-most c.args.self.now c.args.position.now)

pub returns-clause-value : goal.returns-clause-value
returns-clause-value g c = λ e h.
    c.look_by_kind.ensures.value ∙ sym (distance-cube c.positions_follow_cubes.ensures c.args.self.now e c.args.position.now h)

pub returns-clause-zero : goal.returns-clause-zero
returns-clause-zero g c = λ e h.
    rw c.look_by_kind.ensures.value (distance-reached-cube c.positions_follow_cubes.ensures c.args.self.now e c.args.position.now h)

pub returns-clause-tick : goal.returns-clause-tick
returns-clause-tick g c = c.look_by_kind.ensures.tick

pub returns-clause-of_position : goal.returns-clause-of_position
returns-clause-of_position g c = c.look_by_kind.ensures.value
