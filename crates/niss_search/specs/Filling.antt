-- The pruning table of a goal while it is filled, level by level. (For the functions of the tables.)
use Rattle.std.specs.Prelude.{◌≡◌, ◌≢◌, ℕ, ◌+◌, ◌*◌, ◌/◌, ◌%◌, ◌<◌, ◌≤◌, nat_le, ⊤, if◌then◌else◌}
use Rattle.std.specs.Prelude.{List, [], ◌∷◌, length, slice_index, Contains, count_by}
use Rattle.niss_moves.specs.Effects.{inverse_turn}
use Rattle.niss_search.specs.Names.{Turn, Goal, Edges, Domino, Step, GoalCoordinates, Flip, TwistAndSlice}
use Rattle.niss_cube.specs.AfterTurn.{rank_after}
use Rattle.niss_cube.specs.declared.cube.coordinate.Coordinate.TheVariants as coordinate
use Rattle.niss_cube.specs.Steps.{turns_of}
use Rattle.niss_cube.specs.StepLaws.{InversesOfSteps}
use Rattle.niss_search.specs.Positions.{coordinates_after, distance_at}
use Rattle.niss_search.specs.Moves.{turn_at}
use Rattle.niss_search.specs.Entries.{values_for, count_for}

-- the entry number of coordinates
abbrev pub entry_number : GoalCoordinates → ℕ
entry_number (Flip axis flip) = flip
entry_number (TwistAndSlice axis twist slice) = twist * 495 + slice

-- the coordinates of the entry with a number, in the table of a goal
abbrev pub entry_at : Goal → ℕ → GoalCoordinates
entry_at (Edges axis) i = Flip axis i
entry_at (Domino edges axis) i = TwistAndSlice axis (i / 495) (i % 495)

-- the entry after a turn
unfoldable pub entry_after : Goal → ℕ → Turn → ℕ
entry_after goal i t = entry_number (coordinates_after (entry_at goal i) t)

-- how many entries stand in a row of the table: those of one twist, or all
abbrev pub row_length : Goal → ℕ
row_length (Edges axis) = 2048
row_length (Domino edges axis) = 495

-- the place in its row to which a turn leads a place
abbrev pub place_after : Goal → ℕ → Turn → ℕ
place_after (Edges axis) place t = rank_after coordinate.Flip axis place t
place_after (Domino edges axis) place t = rank_after coordinate.Slice axis place t

-- A step and one of its goals: what a pruning table is for.
pub record Alternative : Type 0 where
  pub step : Step
  pub goal : Goal

-- From the row at `start` the turns lead to the rows at `starts`, in turn order: there an entry stands at its place after
-- the turn.
abbrev pub AreStarts : Alternative → (start : ℕ) → (starts : List ℕ) → Type 0
AreStarts alt start starts =
    (k place : ℕ) → k < length (turns_of alt.step) → place < row_length alt.goal →
    slice_index starts k + place_after alt.goal place (turn_at alt.step k)
    ≡ entry_after alt.goal (start + place) (turn_at alt.step k)

-- the places after the turns, in turn order
abbrev pub ArePlaces : Alternative → (place : ℕ) → (places : List ℕ) → Type 0
ArePlaces alt place places =
    (k : ℕ) → k < length (turns_of alt.step) →
    slice_index places k ≡ place_after alt.goal place (turn_at alt.step k)

-- the distance of an entry: how far the step is, if this were its one goal
unfoldable pub entry_distance : Alternative → ℕ → ℕ
entry_distance alt i = distance_at alt.step (entry_at alt.goal i ∷ [])

-- the turns that its fill tries: those of the step, from each entry at a distance of at most 19
unfoldable pub goal_ticks : Alternative → ℕ
goal_ticks alt =
    length (turns_of alt.step) * count_by (λ c. nat_le (distance_at alt.step (c ∷ [])) 19) (values_for alt.goal)

-- What the fill needs of the entries: a turn leads from entry to entry, its inverse leads back, and the step has it.
pub record EntriesTurn : Type 0 where
  pub below : (g : Goal) (i : ℕ) (t : Turn) → i < count_for g → entry_after g i t < count_for g
  pub leads : (g : Goal) (i : ℕ) (t : Turn) → i < count_for g →
      entry_at g (entry_after g i t) ≡ coordinates_after (entry_at g i) t
  pub back : (g : Goal) (i : ℕ) (t : Turn) → i < count_for g →
      entry_after g (entry_after g i t) (inverse_turn t) ≡ i
  pub inverses : InversesOfSteps

-- the byte of an entry at a distance, once the table is filled to a level
abbrev pub byte_at : (level distance : ℕ) → ℕ
byte_at level distance = if nat_le distance level then distance else 21

-- every entry at a distance of at most `level` has it, and every other has 21
pub record IsFilled (alt : Alternative) (level : ℕ) (xs : List ℕ) : Type 0 where
  pub size : length xs ≡ count_for alt.goal
  pub bytes : (i : ℕ) → i < count_for alt.goal → slice_index xs i ≡ byte_at level (entry_distance alt i)

-- the same, if some entries of the next level may have been met: one that was has its distance
pub record MayBeAt (level distance byte : ℕ) : Type 0 where
  pub near : distance ≤ level → byte ≡ distance
  pub met : byte ≢ 21 → byte ≡ distance
  pub next : byte ≢ 21 → byte ≤ level + 1

pub record IsFilling (alt : Alternative) (level : ℕ) (xs : List ℕ) : Type 0 where
  pub size : length xs ≡ count_for alt.goal
  pub bytes : (i : ℕ) → i < count_for alt.goal → MayBeAt level (entry_distance alt i) (slice_index xs i)

-- the entries after each turn from entry i have been met
abbrev pub IsExtended : Alternative → List ℕ → ℕ → Type 0
IsExtended alt xs i =
    (t : Turn) → Contains (turns_of alt.step) t → slice_index xs (entry_after alt.goal i t) < 21

-- no entry that was met is lost
abbrev pub KeepsMet : List ℕ → List ℕ → Type 0
KeepsMet old new = (i : ℕ) → slice_index old i < 21 → slice_index new i < 21

-- The coordinates are those of an entry of a goal's table: on its axis, and below their counts.
abbrev pub IsEntry : Goal → GoalCoordinates → Type 0
IsEntry (Edges axis) (Flip on flip) = (on ≡ axis) × (flip < 2048)
IsEntry (Domino edges axis) (TwistAndSlice on twist slice) = (on ≡ axis) × (twist < 2187) × (slice < 495)
IsEntry _ _ = ⊥

-- The coordinates are entries of the tables of the goals, one for each.
unfoldable pub AreEntries : List Goal → List GoalCoordinates → Type 0
AreEntries [] [] = ⊤
AreEntries (g ∷ gs) (c ∷ cs) = IsEntry g c × AreEntries gs cs
AreEntries _ _ = ⊥
