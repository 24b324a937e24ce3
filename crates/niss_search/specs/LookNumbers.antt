-- Which look of a search is the one at a sequence, and so which solutions it has found after some of its looks.
use Rattle.std.specs.Prelude.{ℕ, ◌+◌, ◌&&◌, not, nat_le, Bool, List, length, filter, sum_by, count_by}
use Rattle.std.specs.List.{range_with_len}
use Rattle.niss_moves.specs.Canonical.{all_canonical}
use Rattle.niss_moves.specs.Places.{Place}
use Rattle.niss_search.specs.Names.{Turn, Step}
use Rattle.niss_search.specs.Solutions.{Space, up_to, is_looked_at, looks, solutions}
use Rattle.niss_search.specs.After.{is_later}
use Rattle.niss_search.specs.Cubes.{cubes, distance_of}

module _ {turns : List Turn} {S : Type 0} (space : Space turns S) (look : S → ℕ) where
  -- Is there a look at q in the deepening to the length of s, and not behind the one at s? q isn't later in turn order.
  abbrev pub is_looked_at_before : S → (s q : List Turn) → Bool
  is_looked_at_before start s q = is_looked_at space look start (length s) q && not (is_later s q)

  -- the number of the look at s in a search, from 1: all looks of the shorter deepenings come before it, and those of its own
  -- at sequences that aren't later
  unfoldable pub look_number : S → List Turn → ℕ
  look_number start s =
      sum_by (looks space look start) (range_with_len 0 (length s))
      + sum_by (λ k. count_by (is_looked_at_before start s) (all_canonical turns k)) (up_to (length s))

  -- the solutions that are found by so many looks
  abbrev pub found_within : S → (n slack made : ℕ) → List (List Turn)
  found_within start n slack made = filter (λ s. nat_le (look_number start s) made) (solutions space start n slack)

-- the same of a step
abbrev pub look_number_of : Step → (Place → Place) → List Turn → ℕ
look_number_of step e s = look_number (cubes step) (distance_of step) e s

abbrev pub found_within_of : Step → (Place → Place) → (n slack made : ℕ) → List (List Turn)
found_within_of step e n slack made = found_within (cubes step) (distance_of step) e n slack made
