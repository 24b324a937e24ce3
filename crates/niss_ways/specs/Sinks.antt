-- What stays of a sink with a room, and how the room grows.
use Rattle.std.specs.Prelude.{◌≡◌, ℕ, List}
use Rattle.niss_ways.specs.Rooms.{Grows}
use Rattle.niss_ways.specs.Truth.{Origin}
use Rattle.niss_ways.specs.declared.first_steps.FirstSteps.{FirstSteps}
use Rattle.niss_ways.specs.declared.way.Way.{Way}

-- Where one stands and how often may be looked stay, and the same room grows.
pub record KeepsRoom (old_start : Origin) (old_most old_name old_count : ℕ) (old : List Way) (new_start : Origin) (new_most new_name new_count : ℕ) (new : List Way)
    : Type 0 where
  pub same_start : new_start ≡ old_start
  pub same_most : new_most ≡ old_most
  pub same_room : new_name ≡ old_name
  pub grows : Grows old_start old_count old new_count new

module _ {A : Type 0} where
  abbrev pub Keeps : FirstSteps A → FirstSteps A → Type 0
  Keeps a b =
      KeepsRoom a.start.now a.looks.most a.room.ghost_name a.count a.room.now b.start.now b.looks.most b.room.ghost_name b.count b.room.now

  -- The same, with other looks.
  abbrev pub KeepsRows : FirstSteps A → FirstSteps A → Type 0
  KeepsRows a b = KeepsRoom a.start.now 0 a.room.ghost_name a.count a.room.now b.start.now 0 b.room.ghost_name b.count b.room.now
