-- Where moves bring the corners of the cube, by numbers of their places; and what parts of a line do to the corners.
use Rattle.std.specs.Prelude.{◌≡◌, ℕ, ◌+◌, ◌-◌, ◌*◌, ◌<◌, ◌≤◌, ◌⊎◌, ◌==◌, Bool, true, false, not, ◌||◌, List, [], ◌∷◌, ◌++◌, length, flat_map, get_or, slice_index}
use Rattle.std.specs.List.{list_any, range_with_len}
use Rattle.niss_moves.specs.Effects.{effect, inverse}
use Rattle.niss_moves.specs.Line.{Spells, Moves, joined_moves}
use Rattle.niss_moves.specs.Places.{Coord, Pos, Place, is_corner}
use Rattle.niss_moves.specs.Indices.{face_index, power_index, axis_index}
use Rattle.niss_moves.specs.declared.token.Token.{Token}
use Rattle.niss_moves.specs.declared.turn.Power.{Power}
use Rattle.niss_attempts.specs.declared.steps.cube_corners.Corners.{Corners}
use Rattle.niss_attempts.specs.declared.steps.cube_corners.TheConstants.{TURNS, ROTATIONS}
use Rattle.niss_attempts.specs.declared.steps.corners.StepCorners.{StepCorners}
use Rattle.niss_attempts.specs.declared.steps.corners.Around.{Around}
use Rattle.niss_attempts.specs.declared.steps.corners.AttemptCorners.{AttemptCorners}
use Rattle.niss_attempts.specs.declared.steps.sets.StepSet.{StepSet}
use Rattle.niss_attempts.specs.declared.steps.dead.Depth.TheVariants.{Out}
use Rattle.niss_attempts.specs.DeadSteps.{AreParted, IsDead, StandsNowhere, after_bytes}
use Rattle.niss_attempts.specs.Parts.{steps_line, step_with}

abbrev pub side : Coord → ℕ
side Pos = 1
side _ = 0

-- the number of a corner's place, below 8: whether its cell lies at R, at U, at F
unfoldable pub corner_of : Place → ℕ
corner_of q = side q.cell.x + 2 * side q.cell.y + 4 * side q.cell.z

-- By the number of a corner's place the list has that of the place to which the moves bring it.
pub record Brings (to : List ℕ) (s : List Token) : Type 0 where
  pub stays : (q : Place) → is_corner q ≡ true → is_corner (effect s q) ≡ true
  pub there : (q : Place) → is_corner q ≡ true → corner_of (effect s q) ≡ slice_index to (corner_of q)

-- Places whose numbers differ so lie side by side on an edge.
abbrev pub is_one_bit : ℕ → Bool
is_one_bit bits = (bits == 1) || ((bits == 2) || (bits == 4))

abbrev pub home : List ℕ
home = 0 ∷ 1 ∷ 2 ∷ 3 ∷ 4 ∷ 5 ∷ 6 ∷ 7 ∷ []

-- what a table has for a number and a power
abbrev pub entry : List (List Corners) → ℕ → Power → Corners
entry table n p = get_or (get_or table n []) (power_index p) (record { to = home })

-- what the tables have for a move
abbrev pub corners_after : Token → Corners
corners_after (Token.Face t) = entry TURNS (face_index t.face) t.power
corners_after (Token.Wide f p) = entry TURNS (face_index f) p
corners_after (Token.Slice l p) = record { to = home }
corners_after (Token.Rotation a p) = entry ROTATIONS (axis_index a) p

-- bytes have a bracket that opens
abbrev pub has_bracket : List ℕ → Bool
has_bracket bytes = list_any (λ byte. byte == 40) bytes

-- The bytes spell moves that do this to the corners.
pub record ReadsSo (bytes : List ℕ) (c : StepCorners) : Type 0 where
  pub normal : List Token
  pub bracketed : List Token
  pub spells : Spells bytes normal bracketed
  pub brings : Brings c.normal.to normal
  pub undoes : Brings c.undone.to (inverse normal)
  pub inverts : Brings c.inverse.to (inverse bracketed)
  pub is_plain : c.plain ≡ not (has_bracket bytes)
  pub lives : c.is_dead ≡ false

-- The bytes stand in no line of steps that can be read.
pub record ReadsNone (bytes : List ℕ) (c : StepCorners) : Type 0 where
  pub faulty : StandsNowhere bytes
  pub not_plain : c.plain ≡ false
  pub is_dead : c.is_dead ≡ true

abbrev pub Reads : (bytes : List ℕ) → StepCorners → Type 0
Reads bytes c = ReadsSo bytes c ⊎ ReadsNone bytes c

-- No place stands before the one that is listed before it.
abbrev pub Ascends : List ℕ → Type 0
Ascends bounds = (k : ℕ) → k + 1 < length bounds → slice_index bounds k ≤ slice_index bounds (k + 1)

-- the places where steps begin and end: from the begin of the text on, in order
pub record AreBounds (bounds : List ℕ) : Type 0 where
  pub begins : slice_index bounds 0 ≡ 0
  pub ascend : Ascends bounds

-- Each of the steps that begin and end at these places does what the list says.
pub record AreSteps (text bounds : List ℕ) (steps : List StepCorners) : Type 0 where
  pub number : length bounds ≡ length steps + 1
  pub are_bounds : AreBounds bounds
  pub reads : (k : ℕ) (none : StepCorners) → k < length steps → Reads (steps_line text bounds k (k + 1)) (get_or steps k none)

-- The bytes spell moves of which those outside brackets, and then the inverse of those inside, bring corners so.
pub record BringsLine (bytes to : List ℕ) : Type 0 where
  pub normal : List Token
  pub bracketed : List Token
  pub spells : Spells bytes normal bracketed
  pub brings : Brings to (normal ++ inverse bracketed)

-- No bytes that end so, after others that leave no bracket open, spell moves.
abbrev pub EndsNone : List ℕ → Type 0
EndsNone bytes = (before : List ℕ) (n b : List Token) → after_bytes Out before ≡ Out → Spells (before ++ bytes) n b → ⊥

-- A line that ends so ends in moves that bring corners so, or can't be read.
abbrev pub IsTail : (bytes to : List ℕ) → Type 0
IsTail bytes to = BringsLine bytes to ⊎ (EndsNone bytes ⊎ IsDead bytes)

-- all steps from one on as a line in which each of these stands in brackets of its own
abbrev pub line_from : (text bounds : List ℕ) → StepSet → ℕ → List ℕ
line_from text bounds set step = flat_map (step_with text bounds set) (range_with_len step (length bounds - 1 - step))

-- From each step on, the first of them this one, the list has where the moves bring the corners.
abbrev pub AreTails : (text bounds : List ℕ) → StepSet → (first : ℕ) → List Corners → Type 0
AreTails text bounds set first tails =
    (step : ℕ) (none : Corners) → first ≤ step → step < length bounds → IsTail (line_from text bounds set step) (get_or tails step none).to

-- no step
abbrev pub no_step : StepSet
no_step = record { number = 0 }

-- what a scramble does and, if each step is a line by itself or in none, the steps
pub record IsAttempt (attempt : AttemptCorners) (scramble : Moves) (text bounds : List ℕ) : Type 0 where
  pub number : length bounds ≡ length attempt.steps.items + 1
  pub scrambles : Brings attempt.scramble.to (joined_moves scramble)
  pub are_steps : attempt.are_lines ≡ true → AreSteps text bounds attempt.steps.items
  pub are_parted : attempt.are_lines ≡ true → AreParted text bounds
  pub are_tails : attempt.are_lines ≡ true → AreTails text bounds no_step 0 attempt.tails

-- what the three parts of all steps do
pub record IsAround (around : Around) (before own after : List ℕ) : Type 0 where
  pub reads_before : Reads before around.before
  pub reads_own : Reads own around.own
  pub ends : IsTail after around.after.to

-- what a scramble does and, if each step is a line by itself, the steps before some, these, and all after them
pub record IsAroundPart (scramble : Moves) (text bounds : List ℕ) (first end : ℕ) (around : Around) : Type 0 where
  pub attempt : IsAttempt around.attempt.now scramble text bounds
  pub ordered : (first ≤ end) × (end < length bounds)
  pub are : around.attempt.now.are_lines ≡ true →
      IsAround around (steps_line text bounds 0 first) (steps_line text bounds first end) (steps_line text bounds end (length bounds - 1))

-- the same before the step of a number and from it on
abbrev pub IsAroundBorder : (scramble : Moves) (text bounds : List ℕ) (number : ℕ) → Around → Type 0
IsAroundBorder scramble text bounds number around = (number + 1 < length bounds) × IsAroundPart scramble text bounds number number around
