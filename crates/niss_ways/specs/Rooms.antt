-- How a room of rows grows.
use Rattle.std.specs.Prelude.{◌≡◌, ℕ, ◌≤◌, List, length}
use Rattle.niss_ways.specs.Order.{IsSorted, AreWithin, AreKept, AreInTurn}
use Rattle.niss_ways.specs.Truth.{Origin, AreWays}
use Rattle.niss_ways.specs.declared.way.Way.{Way}

-- Rows came into a room, which is as long as before, and no fewer stand there: if what stood in it was in order, so is
-- what stands there, and of that nothing is lost but for what comes before it, and rows of the same rank stand in the order
-- in which they came; and if that told the truth, so does this.
pub record Grows (o : Origin) (old_count : ℕ) (old : List Way) (new_count : ℕ) (new : List Way) : Type 0 where
  pub same_length : length new ≡ length old
  pub within : old_count ≤ length old → new_count ≤ length new
  pub no_fewer : old_count ≤ length old → old_count ≤ new_count
  pub sorted : IsSorted old_count old → IsSorted new_count new
  pub kept : old_count ≤ length old → IsSorted old_count old → AreKept old_count old new_count new
  pub in_turn : old_count ≤ length old → IsSorted old_count old → AreInTurn old_count old new_count new
  pub no_worse : (rank : ℕ) → old_count ≡ length old → AreWithin rank old_count old → AreWithin rank new_count new
  pub true_rows : AreWays o old_count old → AreWays o new_count new
