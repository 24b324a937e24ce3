-- Solutions over both sides: turns on the normal side, and turns on the inverse.
use Rattle.std.specs.Prelude.{◌≡◌, ℕ, ◌+◌, ◌-◌, ◌≤◌, ◌<◌, nat_le, nat_lt, Bool, true, false, not, ◌&&◌, ◌||◌}
use Rattle.std.specs.Prelude.{if◌then◌else◌, Result, Ok, Err}
use Rattle.std.specs.Prelude.{List, length, take, map, filter, flat_map, sum_by, Option}
use Rattle.std.specs.List.{list_any, range_with_len}
use Rattle.niss_moves.specs.Places.{Place}
use Rattle.niss_moves.specs.Effects.{turned, inverse_turn}
use Rattle.std.specs.Option.{option_map_or}
use Rattle.niss_moves.specs.Canonical.{all_canonical, last_turn}
use Rattle.niss_cube.specs.Steps.{turns_of, reached, is_idle}
use Rattle.niss_search.specs.Names.{Turn, Step}
use Rattle.niss_search.specs.Solutions.{Space, after_all, distance, looks, up_to, last_length, least_of, from_least}
use Rattle.niss_search.specs.Cubes.{cubes}
use Rattle.niss_search.specs.Delivery.{WentThrough, EndedIn}
use Rattle.niss_moves.specs.declared.turn.Power.{Power}
use Rattle.niss_moves.specs.declared.turn.Power.TheVariants.{Counter}
use Rattle.niss_search.specs.declared.searching.both.Ends.{Ends}
use Rattle.niss_search.specs.declared.searching.both.Ends.TheVariants.{Any, NotCounter}
use Rattle.niss_search.specs.declared.searching.both.Sides.{Sides}
use Rattle.niss_search.specs.declared.searching.both.Sides.TheVariants.{Normal, Inverse, Both}

-- turns on the normal side, and turns on the inverse
pub record Pair : Type 0 where
  pub normal : List Turn
  pub inverse : List Turn

abbrev pub pair : (normal inverse : List Turn) → Pair
pair normal inverse = record { normal = normal; inverse = inverse }

-- A turn on the inverse is taken back before all that made the cube, which is named by its map.
abbrev pub turned_before : (Place → Place) → Turn → Place → Place
turned_before e t q = e (turned (inverse_turn t) q)

-- the cubes of a step, after its turns on the inverse
abbrev pub inverse_side : (step : Step) → Space (turns_of step) (Place → Place)
inverse_side step = record { after = turned_before; reached = reached step }

-- All pairs of canonical sequences of i turns on the normal side and j on the inverse. They are in turn order of the shorter
-- side, which is the normal one if both are equally long, and then of the other.
abbrev pub pairs_of_lengths : List Turn → (i j : ℕ) → List Pair
pairs_of_lengths turns i j =
    if nat_le i j
    then flat_map (λ a. map (λ b. pair a b) (all_canonical turns j)) (all_canonical turns i)
    else flat_map (λ b. map (λ a. pair a b) (all_canonical turns i)) (all_canonical turns j)

-- the fewest of n turns that stand on the normal side, and the most
abbrev pub fewest_normal : Sides → ℕ → ℕ
fewest_normal Normal n = n
fewest_normal Inverse n = 0
fewest_normal Both n = 0

abbrev pub most_normal : Sides → ℕ → ℕ
most_normal Normal n = n
most_normal Inverse n = 0
most_normal Both n = n

-- how many may stand there, fewer ones first
abbrev pub splits : Sides → ℕ → List ℕ
splits sides n = range_with_len (fewest_normal sides n) (most_normal sides n + 1 - fewest_normal sides n)

-- all of n turns on these sides
abbrev pub pairs_of_length : List Turn → Sides → ℕ → List Pair
pairs_of_length turns sides n = flat_map (λ i. pairs_of_lengths turns i (n - i)) (splits sides n)

-- Is the last turn of a sequence idle? Then the step is reached before it, or isn't after it.
abbrev pub ends_idle : Step → List Turn → Bool
ends_idle step s = option_map_or (is_idle step) (last_turn s) false

-- Sequences that end in a counterclockwise quarter turn may be left out.
abbrev pub is_counter : Power → Bool
is_counter Counter = true
is_counter _ = false

abbrev pub skips : Ends → Turn → Bool
skips Any t = false
skips NotCounter t = is_counter t.power

abbrev pub leaves_out : Ends → List Turn → Bool
leaves_out Any s = false
leaves_out NotCounter s = option_map_or (skips NotCounter) (last_turn s) false

abbrev pub has_ends : Ends → Pair → Bool
has_ends ends p = not (leaves_out ends p.normal) && not (leaves_out ends p.inverse)

module _ (step : Step) (e : Place → Place) where
  -- Has the cube reached the step after a pair? Turns on the two sides don't see each other, so either side may come first.
  abbrev pub reaches : Pair → Bool
  reaches p = reached step (after_all (cubes step) (after_all (inverse_side step) e p.inverse) p.normal)

  -- Has it after the first turns of a pair on each side, from none to all of them, but not all on both?
  unfoldable pub begins_reached : Pair → Bool
  begins_reached p =
      list_any (λ j. list_any (λ i. nat_lt (i + j) (length p.normal + length p.inverse)
      && reaches (pair (take i p.normal) (take j p.inverse))) (up_to (length p.normal))) (up_to (length p.inverse))

  -- the pairs of n turns on these sides that have such ends and reach the step, and whose first turns don't
  unfoldable pub pairs_with : Ends → Sides → ℕ → List Pair
  pairs_with ends sides n =
      filter (λ p. reaches p && (has_ends ends p && not (begins_reached p))) (pairs_of_length (turns_of step) sides n)

  -- those with any ends
  abbrev pub first_pairs : Sides → ℕ → List Pair
  first_pairs sides n = pairs_with Any sides n

  -- the least length of one, of at most n turns
  unfoldable pub least_pair_length : Sides → ℕ → Option ℕ
  least_pair_length sides n = least_of (first_pairs sides) n

  -- the solutions on these sides: those of the least length, and of as many lengths more as the slack allows
  unfoldable pub pair_solutions : Sides → (n slack : ℕ) → List Pair
  pair_solutions sides n slack = from_least (first_pairs sides) n slack

  -- The looks of a search: the sequences of the shorter side are gone through without a look, and after each the other side is
  -- searched exactly as deep as it is long; but after none that ends in an idle turn, or is left out.
  abbrev pub looks_after : Ends → (from to : Space (turns_of step) (Place → Place)) → (i j : ℕ) → ℕ
  looks_after ends from to i j =
      sum_by (λ s. if leaves_out ends s || ends_idle step s then 0 else looks to (distance to) (after_all from e s) j)
      (all_canonical (turns_of step) i)

  abbrev pub looks_of_lengths : Ends → (i j : ℕ) → ℕ
  looks_of_lengths ends i j =
      if nat_le i j
      then looks_after ends (cubes step) (inverse_side step) i j
      else looks_after ends (inverse_side step) (cubes step) j i

  -- those of the search for pairs of n turns with such ends
  unfoldable pub looks_with : Ends → Sides → ℕ → ℕ
  looks_with ends sides n = sum_by (λ i. looks_of_lengths ends i (n - i)) (splits sides n)

  abbrev pub looks_of_pairs : Sides → ℕ → ℕ
  looks_of_pairs sides n = looks_with Any sides n

  -- those of the searches for each length, up to the last
  unfoldable pub pair_looks : Sides → (n slack : ℕ) → ℕ
  pair_looks sides n slack = sum_by (looks_of_pairs sides) (up_to (last_length (least_pair_length sides n) n slack))

-- What a search does that is to hand out these pairs by so many looks, by what it returns: how many they are, or why it
-- stopped.
module _ {K : Type 0} (took refused : K → Pair → K → Type 0) (pairs : List Pair) (looks : ℕ) (meter meter_now : ℕ) (sink sink_now : K) where
  -- The sink took each of them, one after another, and the meter rose by one for each look.
  pub record HandedOut (count : ℕ) : Type 0 where
    pub taken : WentThrough took sink pairs sink_now
    pub counted : count ≡ length pairs
    pub looked : meter_now ≡ meter + looks

  -- The search was cut since all its looks pass the bound on the meter, and the sink took some of the first pairs; or it took
  -- some of the first ones and refused the next. There were at most so many looks.
  pub record StoppedEarly (cut : Bool) (bound : ℕ) : Type 0 where
    pub taken : EndedIn took refused cut sink pairs sink_now
    pub over : cut ≡ true → bound < meter + looks
    pub rises : meter ≤ meter_now
    pub looked : meter_now ≤ meter + looks

  abbrev pub HandsOut : {T E : Type 0} → (E → Bool) → (bound : ℕ) → (T → ℕ) → Result T E → Type 0
  HandsOut is_cut bound count (Ok value) = HandedOut (count value)
  HandsOut is_cut bound count (Err stop) = StoppedEarly (is_cut stop) bound
