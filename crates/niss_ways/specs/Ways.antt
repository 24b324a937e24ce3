-- What a solution over both sides does.
use Rattle.std.specs.Prelude.{Bool, ◌&&◌, not, fold}
use Rattle.niss_moves.specs.Places.{Place}
use Rattle.niss_moves.specs.Effects.{turned}
use Rattle.niss_cube.specs.declared.step.Step.{Step}
use Rattle.niss_search.specs.BothSides.{Pair, reaches, begins_reached, turned_before}

-- the cube after a solution, named by its map: its turns on the inverse are taken back before all that made the cube
abbrev pub cube_after : (Place → Place) → Pair → Place → Place
cube_after e p = fold (λ f t q. turned t (f q)) (fold turned_before e p.inverse) p.normal

-- it reaches the step, and no beginnings of it with fewer turns do
abbrev pub first_reaches : Step → (Place → Place) → Pair → Bool
first_reaches step e p = reaches step e p && not (begins_reached step e p)
