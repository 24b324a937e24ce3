-- Laws over counts and looks, and over positions.
use Rattle.std.specs.Prelude.{◌≡◌, ℕ, ◌+◌, ◌*◌, ◌^◌, ◌≤◌, ◌<◌, min, Bool, IsTrue, None, option_map, unwrap_or}
use Rattle.std.specs.Prelude.{List, [], ◌∷◌, filter, length, map, slice_get, sum_by, All, Contains, ◌⊎◌, ◌++◌}
use Rattle.std.specs.Option.{option_map_or}
use Rattle.niss_moves.specs.Places.{Place, SameMap}
use Rattle.niss_moves.specs.Canonical.{turn_order}
use Rattle.niss_search.specs.Names.{Turn, Step, GoalCoordinates}
use Rattle.niss_cube.specs.AfterTurn.{IsCube}
use Rattle.niss_cube.specs.Steps.{start_of, goals_of, turns_of, may_start}
use Rattle.niss_search.specs.Solutions.{Space, Homomorphism, up_to, count_of_length, look_bound, reaching, least_length, last_length}
use Rattle.niss_search.specs.Solutions.{solutions, looks, all_looks, distance, after_all}
use Rattle.niss_search.specs.Entries.{entries_of, entry_count, fill_ticks}
use Rattle.niss_search.specs.Positions.{position_of, positions, distance_at}
use Rattle.niss_search.specs.Cubes.{cubes, HasPosition, least_length_of, near_solutions_of, near_looks_of}
use Rattle.niss_search.specs.After.{sequences_of, sequences_after, deepening_looks_of}

-- Over the 18 turns, c(k + 2) = 12 c(k + 1) + 18 c(k) for k of at least 1.
abbrev pub CountRecurrence : Type 0
CountRecurrence =
    (k : ℕ) → 1 ≤ k →
    count_of_length turn_order (k + 2)
    ≡ 12 * count_of_length turn_order (k + 1) + 18 * count_of_length turn_order k

-- The counts of the first lengths and the first bounds, over the 18 turns and over the 14 of a step that has so many.
pub record FirstCounts : Type 0 where
  pub counts : map (count_of_length turn_order) (up_to 5) ≡ 1 ∷ 18 ∷ 243 ∷ 3240 ∷ 43254 ∷ 577368 ∷ []
  pub bounds : map (look_bound turn_order) (up_to 5) ≡ 1 ∷ 20 ∷ 282 ∷ 3784 ∷ 50540 ∷ 674664 ∷ []
  pub counts_of_14 :
      (s : Step) → length (turns_of s) ≡ 14 →
      map (count_of_length (turns_of s)) (up_to 3) ≡ 1 ∷ 14 ∷ 139 ∷ 1368 ∷ []
  pub bounds_of_14 :
      (s : Step) → length (turns_of s) ≡ 14 →
      map (look_bound (turns_of s)) (up_to 3) ≡ 1 ∷ 16 ∷ 170 ∷ 1692 ∷ []

-- A part of the turns has no larger counts.
abbrev pub PartHasNoMore : Type 0
PartHasNoMore =
    (part : Turn → Bool) (turns : List Turn) (k : ℕ) →
    count_of_length (filter part turns) k ≤ count_of_length turns k

-- In any space, whatever turns it has, what its goal is and what a look at a state returns: no search looks more often
-- than the bound says.
abbrev pub LooksWithinBoundIn : Type 0 → Type 0
LooksWithinBoundIn S =
    (turns : List Turn) (space : Space turns S) (look : S → ℕ) (e : S) (n slack : ℕ) →
    all_looks space look e n slack ≤ look_bound turns n

-- Without slack a search is for the solutions of least length alone, and deepens to that length.
pub record NoSlackIsLeastIn (S : Type 0) : Type 0 where
  pub listed :
      (turns : List Turn) (space : Space turns S) (e : S) (n : ℕ) →
      solutions space e n 0 ≡ option_map_or (reaching space e) (least_length space e n) []
  pub looked :
      (turns : List Turn) (space : Space turns S) (look : S → ℕ) (e : S) (n : ℕ) →
      all_looks space look e n 0 ≡ sum_by (looks space look e) (up_to (unwrap_or (least_length space e n) n))

-- The least length is that of the first solution, and there is none if there is no solution.
abbrev pub FirstIsLeastIn : Type 0 → Type 0
FirstIsLeastIn S =
    (turns : List Turn) (space : Space turns S) (e : S) (n slack : ℕ) →
    least_length space e n ≡ option_map length (slice_get (solutions space e n slack) 0)

-- A law that holds in every space of cubes, and in every space whose states are the sequences themselves, so also for
-- any test and any look that is made of a sequence.
abbrev pub InSpaces : (Type 0 → Type 0) → Type 0
InSpaces law = law (Place → Place) × law (List Turn)

abbrev pub LooksWithinBound : Type 0
LooksWithinBound = InSpaces LooksWithinBoundIn

abbrev pub NoSlackIsLeast : Type 0
NoSlackIsLeast = InSpaces NoSlackIsLeastIn

abbrev pub FirstIsLeast : Type 0
FirstIsLeast = InSpaces FirstIsLeastIn

-- The bound of a step is at most that over the 18 turns.
abbrev pub StepBoundIsLess : Type 0
StepBoundIsLess = (s : Step) (n : ℕ) → look_bound (turns_of s) n ≤ look_bound turn_order n

-- The bound of a step is small.
abbrev pub BoundIsSmall : Type 0
BoundIsSmall = (s : Step) (n : ℕ) → n ≤ 20 → look_bound (turns_of s) n < 2 ^ 93

-- The list of a step's entries has as many as are counted.
abbrev pub EntriesAreCounted : Type 0
EntriesAreCounted = (s : Step) → length (entries_of s) ≡ entry_count s

-- The fill of an edge orientation's tables tries at most 18 turns from each of 2,048 entries, for each goal.
abbrev pub EdgeFillIsSmall : Type 0
EdgeFillIsSmall = (s : Step) → start_of s ≡ None → fill_ticks s ≤ length (goals_of s) * 36864

-- No fill tries more than 14 turns from each of 1,082,565 entries, for each goal.
abbrev pub FillIsSmall : Type 0
FillIsSmall = (s : Step) → fill_ticks s ≤ length (goals_of s) * 15155910

-- The distance is the length of a shortest sequence of the turns, canonical or not, that leads to the goal; or 21, and then
-- none has fewer turns.
pub record DistanceIsShortestIn (S : Type 0) : Type 0 where
  pub shortest :
      (turns : List Turn) (space : Space turns S) (e : S) (s : List Turn) →
      All (Contains turns) s → IsTrue (space.reached (after_all space e s)) → distance space e ≤ length s
  pub is_one :
      (turns : List Turn) (space : Space turns S) (e : S) →
      (distance space e ≡ 21)
      ⊎ ((s : List Turn) × All (Contains turns) s × (length s ≡ distance space e)
      × IsTrue (space.reached (after_all space e s)))

abbrev pub DistanceIsShortest : Type 0
DistanceIsShortest = InSpaces DistanceIsShortestIn

-- The distance of a position is the least of those of its coordinates: a step is as near as the nearest of its goals.
abbrev pub DistanceIsLeast : Type 0
DistanceIsLeast =
    (s : Step) (c : GoalCoordinates) (x : List GoalCoordinates) →
    distance_at s (c ∷ x) ≡ min (distance_at s (c ∷ [])) (distance_at s x)

-- What of a cube depends on its position alone.
pub record PositionsFollowCubes : Type 0 where
  pub alike :
      (s : Step) (d e : Place → Place) → IsCube d → SameMap d e → IsTrue (may_start s d) →
      HasPosition s e (position_of s d)
  pub follow : (s : Step) → Homomorphism (HasPosition s) (cubes s) (positions s)

-- The solutions are all sequences that reach the step, up to the last length, and a search looks as often as the deepenings
-- up to it.
pub record SolutionsAreSequences : Type 0 where
  pub listed :
      (s : Step) (e : Place → Place) (n slack : ℕ) →
      near_solutions_of s e n slack ≡ sequences_of s e (last_length (least_length_of s e n) n slack)
  pub looked :
      (s : Step) (e : Place → Place) (n slack : ℕ) →
      near_looks_of s e n slack ≡ deepening_looks_of s e (last_length (least_length_of s e n) n slack)

-- Of the solutions those that come after one of them are those that stand behind it.
abbrev pub AfterIsRest : Type 0
AfterIsRest =
    (s : Step) (e : Place → Place) (n slack : ℕ) (front rest : List (List Turn)) (p : List Turn) →
    near_solutions_of s e n slack ≡ front ++ p ∷ rest →
    sequences_after s e (last_length (least_length_of s e n) n slack) p ≡ rest
