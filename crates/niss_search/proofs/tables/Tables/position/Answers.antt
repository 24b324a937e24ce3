use Rattle.niss_search.proofs.Words.{refl, map_of, cube-itself, position_of}
use Rattle.niss_search.proofs.GoalLemmas.{goals-counted}
use Rattle.niss_search.proofs.tables.Tables.position.Goals as goal

pub of-requires : goal.of-requires
of-requires g c = rw c.goals.ensures (goals-counted _).1

pub returns-clause-of_cube : goal.returns-clause-of_cube
unfolding position_of
returns-clause-of_cube g c = λ e same.
    rw (c.of.ensures, c.goals.ensures, c.self.view_is)
    (c.positions_follow_cubes.ensures.alike c.args.self.now (map_of c.args.cube.now) e (cube-itself c.args.cube.now) same c.requires)

pub returns-clause-position : goal.returns-clause-position
returns-clause-position g c = (map_of c.args.cube.now, returns-clause-of_cube g c (map_of c.args.cube.now) (λ q p. refl))
