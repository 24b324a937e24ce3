-- The first counts of canonical sequences, and the first bounds on looks, in numbers.
use Rattle.niss_cube.specs.Names.{Ud, Rl, Fb}
use Rattle.niss_search.proofs.Words.{◌≡◌, arith, refl, ◌∷◌, [], List, length, map, flat_map, Option, Some, None}
use Rattle.niss_search.proofs.Words.{Turn, Axis, turn_order, up_to, count_of_length, turns_of, start_of, look_bound, all_canonical}
use Rattle.niss_moves.specs.Canonical.{face_order}
use Rattle.niss_cube.specs.Steps.{powers_from}
use Rattle.niss_search.proofs.Bounds.{count-suc}
use Rattle.niss_search.specs.Laws.{FirstCounts}

-- the counts over the 18 turns, of which each but the first follows from two numbers
count-none : count_of_length turn_order 0 ≡ 1
unfolding all_canonical
count-none = refl

first : map (count_of_length turn_order) (up_to 5) ≡ 1 ∷ 18 ∷ 243 ∷ 3240 ∷ 43254 ∷ 577368 ∷ []
first = rw (count-none, count-suc 0, count-suc 1, count-suc 2, count-suc 3, count-suc 4) refl

first_bounds : map (look_bound turn_order) (up_to 5) ≡ 1 ∷ 20 ∷ 282 ∷ 3784 ∷ 50540 ∷ 674664 ∷ []
unfolding look_bound
first_bounds = rw (count-none, count-suc 0, count-suc 1, count-suc 2, count-suc 3, count-suc 4) refl

-- the turns from edges that are oriented on an axis
abbrev turns_from : Option Axis → List Turn
turns_from start = flat_map (λ f. map (λ p. record { face = f; power = p }) (powers_from start f)) face_order

by_start : (start : Option Axis) → length (turns_from start) ≡ 14 →
    (map (count_of_length (turns_from start)) (up_to 3) ≡ 1 ∷ 14 ∷ 139 ∷ 1368 ∷ [])
    × (map (look_bound (turns_from start)) (up_to 3) ≡ 1 ∷ 16 ∷ 170 ∷ 1692 ∷ [])
unfolding all_canonical look_bound
by_start None e = absurd (omega arith)
by_start (Some Ud) e = (refl, refl)
by_start (Some Rl) e = (refl, refl)
by_start (Some Fb) e = (refl, refl)

pub first-counts : FirstCounts
unfolding turns_of
first-counts = record {
  counts = first;
  bounds = first_bounds;
  counts_of_14 = λ s e. (by_start (start_of s) e).0;
  bounds_of_14 = λ s e. (by_start (start_of s) e).1;
}
