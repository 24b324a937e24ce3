-- How a solution is told: each turn by its number in turn order, once its face is named as the cube is held.
use Rattle.std.specs.Prelude.{◌≡◌, ℕ, ◌+◌, ◌*◌, if◌then◌else◌, List, [], ◌∷◌, get_or, length, map, take, drop, replicate}
use Rattle.std.specs.Prelude.{Option, None, Some}
use Rattle.std.specs.List.{list_all}
use Rattle.std.specs.Option.{option_map_or}
use Rattle.niss_moves.specs.Indices.{face_index, power_index}
use Rattle.niss_moves.specs.declared.turn.Axis.{Axis}
use Rattle.niss_moves.specs.declared.turn.Axis.TheVariants.{Ud, Rl, Fb}
use Rattle.niss_moves.specs.declared.turn.Face.{Face}
use Rattle.niss_moves.specs.declared.turn.Turn.{Turn}
use Rattle.niss_cube.specs.Steps.{is_face_of}
use Rattle.niss_cube.specs.declared.step.Step.{Step}
use Rattle.niss_cube.specs.declared.step.Step.TheVariants.{Eofb, Eorl, Eoud, DrudEofb, DrrlEofb, DrudEorl, DrfbEorl, DrrlEoud, DrfbEoud}
use Rattle.niss_cube.specs.declared.step.Step.TheVariants.{Eo, DrEofb, DrEorl, DrEoud}
use Rattle.niss_search.specs.BothSides.{Pair}
use Rattle.niss_ways.specs.declared.way.Part.{Part}
use Rattle.niss_ways.specs.declared.way.SideTurns.{SideTurns}

abbrev pub shown : List Face → Turn → ℕ
shown names t = 3 * face_index (get_or names (face_index t.face) t.face) + power_index t.power

-- the place of a step among all
abbrev pub step_number : Step → ℕ
step_number Eofb = 0
step_number Eorl = 1
step_number Eoud = 2
step_number DrudEofb = 3
step_number DrrlEofb = 4
step_number DrudEorl = 5
step_number DrfbEorl = 6
step_number DrrlEoud = 7
step_number DrfbEoud = 8
step_number Eo = 9
step_number DrEofb = 10
step_number DrEorl = 11
step_number DrEoud = 12

-- The axis on whose faces a solution of a step has the turns at its end that may go either way: a half turn of them keeps
-- what the step has reached.
abbrev pub last_axis : Step → Option Axis
last_axis Eofb = Some Fb
last_axis Eorl = Some Rl
last_axis Eoud = Some Ud
last_axis DrudEofb = Some Rl
last_axis DrrlEofb = Some Ud
last_axis DrudEorl = Some Fb
last_axis DrfbEorl = Some Ud
last_axis DrrlEoud = Some Fb
last_axis DrfbEoud = Some Rl
last_axis _ = None

-- how many turns at the end are on an axis
unfoldable pub last_on : Axis → List Turn → ℕ
last_on axis [] = 0
last_on axis (t ∷ ts) =
    if list_all (λ u. is_face_of axis u.face) (t ∷ ts) then length (t ∷ ts) else last_on axis ts

-- how many may go either way
abbrev pub free_turns : Option Axis → List Turn → ℕ
free_turns axis turns = option_map_or (λ a. last_on a turns) axis 0

-- Turns on a side are told: that many, how many at the end may go either way, each by its number, and 255 after them.
pub record TellsTurns (names : List Face) (axis : Option Axis) (turns : List Turn) (told : SideTurns) : Type 0 where
  pub count : told.count ≡ length turns
  pub free : told.free ≡ free_turns axis turns
  pub each : take (length turns) told.turns ≡ map (shown names) turns
  pub behind : drop (length turns) told.turns ≡ drop (length turns) (replicate 20 255)

-- no turns, and no moves of no step
abbrev pub no_turns : SideTurns
no_turns = record { count = 0; free = 0; turns = replicate 20 255 }

abbrev pub no_part : Part
no_part = record { step = 255; normal = no_turns; inverse = no_turns }

-- A solution of a step is told.
pub record Tells (names : List Face) (of_step : Step) (solution : Pair) (part : Part) : Type 0 where
  pub step : part.step ≡ step_number of_step
  pub normal : TellsTurns names (last_axis of_step) solution.normal part.normal
  pub inverse : TellsTurns names (last_axis of_step) solution.inverse part.inverse
