-- What a row tells, and when that is true.
use Rattle.std.specs.Prelude.{◌≡◌, ◌⊎◌, ℕ, ◌+◌, ◌<◌, List, [], ◌∷◌, ◌++◌, get_or, length, true, IsTrue}
use Rattle.niss_moves.specs.Cleaning.{clean_turns}
use Rattle.niss_moves.specs.Places.{SameMap}
use Rattle.niss_moves.specs.declared.turn.Face.{Face}
use Rattle.niss_moves.specs.declared.turn.Turn.{Turn}
use Rattle.niss_moves.specs.declared.turn.Axis.{Axis}
use Rattle.niss_cube.specs.BadPieces.{TakesBack}
use Rattle.niss_cube.specs.BadPlaces.{bad_count}
use Rattle.niss_cube.specs.Map.{map_of}
use Rattle.niss_cube.specs.Steps.{edge_step_on, goals_of, reached}
use Rattle.niss_cube.specs.declared.cube.Cube.{Cube}
use Rattle.niss_cube.specs.declared.cube.coordinate.Coordinate.TheVariants.{Twist, Slice}
use Rattle.niss_cube.specs.declared.step.Goal.TheVariants.{Domino}
use Rattle.niss_cube.specs.declared.step.Step.{Step}
use Rattle.niss_search.specs.BothSides.{Pair, pair}
use Rattle.niss_search.specs.Cubes.{distance_of}
use Rattle.niss_ways.specs.Shown.{Tells, no_part}
use Rattle.niss_ways.specs.Ways.{cube_after, first_reaches}
use Rattle.niss_ways.specs.declared.way.Way.{Way}

-- Where one stands: the cube after a scramble and the moves so far, a line of turns that leads to it, what was made on
-- each side, and what the faces are called as the cube is held.
pub record Origin : Type 0 where
  pub cube : Cube
  pub line : List Turn
  pub normal : List Turn
  pub inverse : List Turn
  pub names : List Face

-- How many moves there are in all after two solutions, one after the other: of each side once they are cleaned.
abbrev pub total_after : Origin → (first then : Pair) → ℕ
total_after o p q =
    length (clean_turns (o.normal ++ p.normal ++ q.normal)) + length (clean_turns (o.inverse ++ p.inverse ++ q.inverse))

-- How far a step is from a cube, on it alone and on the inverse alone: 0 to 20 turns, or 21 for more or never.
pub record AreLengths (step : Step) (cube : Cube) (on_normal on_inverse : ℕ) : Type 0 where
  pub normal : on_normal ≡ distance_of step (map_of cube)
  pub back : Cube
  pub takes_back : TakesBack cube back
  pub inverse : on_inverse ≡ distance_of step (map_of back)

-- A reduction is told that is one from a cube after first moves, and its case is that of the cube: its bad corners, and
-- its edges on the wrong side of the slice; and how far the reduction is on each side.
pub record IsReduction (o : Origin) (edges : Axis) (first : Pair) (cube : Cube) (way : Way) : Type 0 where
  pub step : Step
  pub axis : Axis
  pub is : goals_of step ≡ Domino edges axis ∷ []
  pub turns : Pair
  pub reached : first_reaches step (map_of cube) turns ≡ true
  pub told : Tells o.names step turns way.dr
  pub total : way.total ≡ total_after o first turns
  pub corners : way.corners ≡ bad_count Twist axis (map_of cube)
  pub edges_outside : way.edges ≡ bad_count Slice axis (map_of cube)
  pub lengths : AreLengths step cube way.on_normal way.on_inverse

-- An orientation is told that is one from where one stands, and a reduction from the cube after it.
pub record IsInTwoSteps (o : Origin) (way : Way) : Type 0 where
  pub axis : Axis
  pub turns : Pair
  pub reached : first_reaches (edge_step_on axis) (map_of o.cube) turns ≡ true
  pub told : Tells o.names (edge_step_on axis) turns way.eo
  pub between : Cube
  pub after : SameMap (map_of between) (cube_after (map_of o.cube) turns)
  pub reduction : IsReduction o axis turns between way

-- The edges are oriented already, no orientation is told, and a reduction is told from where one stands.
pub record IsInOneStep (o : Origin) (way : Way) : Type 0 where
  pub axis : Axis
  pub holds : IsTrue (reached (edge_step_on axis) (map_of o.cube))
  pub none : way.eo ≡ no_part
  pub from : Cube
  pub same : SameMap (map_of from) (map_of o.cube)
  pub reduction : IsReduction o axis (pair [] []) from way

abbrev pub IsWay : Origin → Way → Type 0
IsWay o way = IsInTwoSteps o way ⊎ IsInOneStep o way

-- Each of the first n rows tells the truth.
abbrev pub AreWays : Origin → ℕ → List Way → Type 0
AreWays o n rows = (k : ℕ) (d : Way) → k < n → IsWay o (get_or rows k d)

-- Each of the first n rows is this way, or one of the first m that stood there.
abbrev pub AreFrom : Way → (m : ℕ) → List Way → (n : ℕ) → List Way → Type 0
AreFrom way m old n new =
    (k : ℕ) (d : Way) → k < n → (get_or new k d ≡ way) ⊎ ((j : ℕ) × (j < m) × (get_or new k d ≡ get_or old j d))

-- Each of the first m rows that stood there is one of the first n.
abbrev pub AreStill : (m : ℕ) → List Way → (n : ℕ) → List Way → Type 0
AreStill m old n new = (j : ℕ) (d : Way) → j < m → (k : ℕ) × (k < n) × (get_or new k d ≡ get_or old j d)
