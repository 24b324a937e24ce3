-- What follows from the definitions of the steps alone.
use Rattle.std.specs.Prelude.{◌≡◌, Bool, Some, length, IsTrue, filter, Contains}
use Rattle.std.specs.Option.{option_map_or}
use Rattle.niss_moves.specs.Canonical.{turn_order}
use Rattle.niss_cube.specs.Names.{Place, SameMap, turned, inverse_turn, Turn, Axis, Domino, Cube, Step}
use Rattle.niss_cube.specs.Map.{map_of}
use Rattle.niss_cube.specs.BadPieces.{TakesBack}
use Rattle.niss_cube.specs.Steps.{reached_mask, start_of, goals_of, turns_of, may_start, reached, is_idle, name_of}

-- A step that may start may start after each of its turns too.
abbrev pub StartIsKept : Type 0
StartIsKept =
    (s : Step) (e : Place → Place) (t : Turn) → Contains (turns_of s) t →
    IsTrue (may_start s e) → IsTrue (may_start s (λ q. turned t (e q)))

-- The same of a turn that is made before all that made the cube.
abbrev pub StartIsKeptBefore : Type 0
StartIsKeptBefore =
    (s : Step) (e : Place → Place) (t : Turn) → Contains (turns_of s) t →
    IsTrue (may_start s e) → IsTrue (may_start s (λ q. e (turned t q)))

-- A turn that is none of the step's brings each cube on which the step may start to one on which it may not.
abbrev pub OtherTurnsLeaveStart : Type 0
OtherTurnsLeaveStart =
    (s : Step) (c : Cube) (t : Turn) → IsTrue (may_start s (map_of c)) →
    IsTrue (may_start s (λ q. turned t (map_of c q))) → Contains (turns_of s) t

-- Maps that are the same on the 54 places have the same start and the same goal.
pub record SameSteps (d e : Place → Place) : Type 0 where
  pub start : (s : Step) → may_start s d ≡ may_start s e
  pub goal : (s : Step) → reached s d ≡ reached s e

abbrev pub StepsSeePlaces : Type 0
StepsSeePlaces = (d e : Place → Place) → SameMap d e → SameSteps d e

abbrev pub ReachedStepsSeePlaces : Type 0
ReachedStepsSeePlaces = (d e : Place → Place) → SameMap d e → reached_mask d ≡ reached_mask e

-- A cube and its inverse have the same start and the same goal.
abbrev pub InverseHasSteps : Type 0
InverseHasSteps = (c d : Cube) → TakesBack c d → SameSteps (map_of c) (map_of d)

-- A turn leaves a step reached or not, after all that made the cube, and on the inverse, where it is taken back before all
-- that.
pub record LeavesStep (s : Step) (t : Turn) : Type 0 where
  pub after : (e : Place → Place) → reached s (λ q. turned t (e q)) ≡ reached s e
  pub on_inverse : (e : Place → Place) → reached s (λ q. e (turned (inverse_turn t) q)) ≡ reached s e

abbrev pub IdleTurnsLeaveSteps : Type 0
IdleTurnsLeaveSteps = (s : Step) (t : Turn) → IsTrue (is_idle s t) → LeavesStep s t

-- The turns of a step hold their inverses.
abbrev pub InversesOfSteps : Type 0
InversesOfSteps = (s : Step) (t : Turn) → Contains (turns_of s) t → Contains (turns_of s) (inverse_turn t)

-- The turns of a step are some of the 18, in turn order.
abbrev pub StepTurnsInOrder : Type 0
StepTurnsInOrder = (s : Step) → (part : Turn → Bool) × (turns_of s ≡ filter part turn_order)

-- They are all 18, or the 14 that keep edges oriented, if these must be oriented before the step.
abbrev pub StepTurnsAreCounted : Type 0
StepTurnsAreCounted = (s : Step) → length (turns_of s) ≡ option_map_or (λ axis. 14) (start_of s) 18

-- A step that can reach a domino reduction starts at the oriented edges that this keeps.
abbrev pub DominoKeepsStart : Type 0
DominoKeepsStart =
    (s : Step) (edges axis : Axis) → Contains (goals_of s) (Domino edges axis) → start_of s ≡ Some edges

-- No two steps have one name.
abbrev pub NamesDiffer : Type 0
NamesDiffer = (s t : Step) → name_of s ≡ name_of t → s ≡ t
