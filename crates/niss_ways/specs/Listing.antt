-- A list of a step's solutions over sides, of one length, in a room.
use Rattle.std.specs.Prelude.{◌≡◌, ℕ, ◌+◌, ◌-◌, ◌^◌, ◌<◌, ◌≤◌, min, Bool, true, false, Result, Ok, Err, List, [], ◌∷◌, ◌++◌, get_or, slice_set, length}
use Rattle.niss_moves.specs.declared.turn.Face.{Face}
use Rattle.niss_moves.specs.Places.{Place}
use Rattle.niss_cube.specs.Map.{map_of}
use Rattle.niss_cube.specs.Steps.{turns_of}
use Rattle.niss_cube.specs.declared.step.Step.{Step}
use Rattle.niss_search.specs.BothSides.{Pair, first_pairs, looks_of_pairs}
use Rattle.niss_search.specs.declared.budget.Stopped.{Stopped}
use Rattle.niss_search.specs.declared.budget.Stopped.TheVariants.{Refused, Cut}
use Rattle.niss_ways.specs.Shown.{Tells}
use Rattle.niss_ways.specs.Truth.{Origin}
use Rattle.niss_ways.specs.declared.listing.FoundSolutions.{FoundSolutions}
use Rattle.niss_ways.specs.declared.listing.Full.{Full}
use Rattle.niss_ways.specs.declared.listing.Listed.{Listed}
use Rattle.niss_ways.specs.declared.listing.Rows.{Rows}
use Rattle.niss_ways.specs.declared.way.Part.{Part}

-- After these solutions came, the room has those of them that aren't passed over, as far as it has place, one after
-- another.
pub record Stands (names : List Face) (step : Step) (passed : ℕ) (came : List Pair) (room : List Part) (rows : ℕ) : Type 0 where
  pub count : rows ≡ min (length room) (length came - passed)
  pub each : (k : ℕ) (d : Part) (p : Pair) → k < rows → Tells names step (get_or came (passed + k) p) (get_or room k d)

-- The first solutions from a cube came, all of them if nothing ended the search, and stand in a room of so many places.
pub record ListsInto (names : List Face) (step : Step) (e : Place → Place) (listed : Listed) (places : ℕ) (room : List Part)
    (found : FoundSolutions) : Type 0 where
  pub came : List Pair
  pub rest : List Pair
  pub are_first : first_pairs step e listed.sides listed.length ≡ came ++ rest
  pub are_all : found.cut ≡ false → found.more ≡ false → rest ≡ []
  pub stand : Stands names step listed.passed came room found.rows
  pub same_length : length room ≡ places
  pub counted : found.solutions ≡ min (length came) (2 ^ 64 - 1)
  -- of those that have no place none is counted, unless all are to be
  pub few : listed.counts ≡ false → length came ≤ listed.passed + places
  pub full : found.more ≡ true → found.rows ≡ places
  -- another one had no place
  pub is_more : found.more ≡ true → 0 < length rest
  pub uncounted : found.more ≡ true → listed.counts ≡ false
  pub looked : found.cut ≡ false → found.more ≡ false → found.looks ≡ looks_of_pairs step e listed.sides listed.length
  pub looked_at_most : found.looks ≤ looks_of_pairs step e listed.sides listed.length
  pub cut : found.cut ≡ true → listed.most_looks < looks_of_pairs step e listed.sides listed.length
  -- and leaves fewer of the looks that it may make than the step has turns
  pub spent : found.cut ≡ true → listed.most_looks < found.looks + length (turns_of step)

-- The same from where one stands.
abbrev pub Lists : Origin → Step → Listed → (room room_now : List Part) → FoundSolutions → Type 0
Lists o step listed room room_now found = ListsInto o.names step (map_of o.cube) listed (length room) room_now found

-- What is told of how a search ended.
abbrev pub is_refused : Result ℕ (Stopped Full) → Bool
is_refused (Ok count) = false
is_refused (Err (Refused full)) = true
is_refused (Err Cut) = false

abbrev pub is_cut_off : Result ℕ (Stopped Full) → Bool
is_cut_off (Ok count) = false
is_cut_off (Err (Refused full)) = false
is_cut_off (Err Cut) = true

pub record EndsListing (ended : Result ℕ (Stopped Full)) (rows came looks : ℕ) (found : FoundSolutions) : Type 0 where
  pub more : found.more ≡ is_refused ended
  pub cut : found.cut ≡ is_cut_off ended
  pub rows_are : found.rows ≡ rows
  pub solutions_are : found.solutions ≡ came
  pub looks_are : found.looks ≡ looks

-- What stands in the room of a sink after these came.
pub record HasListed (rows : Rows) (came : List Pair) : Type 0 where
  pub stand : Stands rows.names.now rows.step rows.passed came rows.room.now rows.rows
  pub counted : rows.came ≡ min (length came) (2 ^ 64 - 1)
  pub few : rows.counts ≡ false → length came ≤ rows.passed + length rows.room.now

-- It lends the same room, of the same length, for the same list.
pub record StaysListing (old new : Rows) : Type 0 where
  pub names : new.names.now ≡ old.names.now
  pub step : new.step ≡ old.step
  pub passed : new.passed ≡ old.passed
  pub counts : new.counts ≡ old.counts
  pub room : new.room.ghost_name ≡ old.room.ghost_name
  pub same_length : length new.room.now ≡ length old.room.now

-- A solution stands in the next place, and nothing else is changed.
pub record PutOne (old : Rows) (p : Pair) (new : Rows) : Type 0 where
  pub stays : StaysListing old new
  pub count : new.rows ≡ old.rows + 1
  pub came : new.came ≡ old.came
  pub part : Part
  pub told : Tells old.names.now old.step p part
  pub room_is : new.room.now ≡ slice_set old.room.now old.rows part

-- One more came, or one was left out since there is no place.
pub record ListedOne (old : Rows) (p : Pair) (new : Rows) : Type 0 where
  pub stays : StaysListing old new
  pub lists : (came : List Pair) → HasListed old came → HasListed new (came ++ p ∷ [])

pub record LeftOut (old new : Rows) : Type 0 where
  pub stays : StaysListing old new
  pub lists : (came : List Pair) → HasListed old came → HasListed new came
  pub full : (came : List Pair) → HasListed old came → new.rows ≡ length new.room.now
  pub uncounted : new.counts ≡ false
