-- The looks of a search over both sides are few enough for the meter.
use Rattle.niss_search.proofs.Words.{◌≡◌, arith, ◌+◌, ◌*◌, ◌<◌, ◌≤◌, ◌-◌, ◌^◌, ℕ, List, length, Bool, true, false, nat_le, cond, sum_by, sum_by-le, range_with_len}
use Rattle.niss_search.proofs.Words.{length-range_with_len, Contains-get_or, Turn, Step, Place, turns_of, cubes, Space, looks, distance, after_all, all_canonical, count_of_length}
use Rattle.niss_search.proofs.Words.{mul-le-mul, mul-le-mul_right, get_or, last_length, Result, Ok, Err}
use Rattle.std.proofs.lemmas.Nat.{pow-add}
use Rattle.std.proofs.Math.Nat.{pow-le-pow_right}
use Rattle.niss_search.proofs.ListLemmas.{in-range}
use Rattle.niss_search.proofs.ByLength.{last-within}
use Rattle.niss_search.proofs.Bounds.{looks-le, range-le, count-le, turns_of-length}
use Rattle.niss_search.specs.BothSides.{Pair, HandsOut, inverse_side, looks_after, looks_of_lengths, fewest_normal, most_normal}
use Rattle.niss_search.specs.BothSides.{looks_of_pairs}
unfoldable use Rattle.niss_search.specs.BothSides.{looks_with, pair_looks, least_pair_length}
use Rattle.niss_search.specs.BothWalk.{ends_here}
use Rattle.niss_search.specs.declared.searching.both.Ends.{Ends}
use Rattle.niss_search.specs.declared.searching.both.Ends.TheVariants.{Any}
use Rattle.niss_search.specs.declared.searching.both.Sides.{Sides}
use Rattle.niss_search.specs.declared.searching.both.Sides.TheVariants.{Normal, Inverse, Both}

power-le : (i j : ℕ) → i ≤ j → 18 ^ i ≤ 18 ^ j
power-le i j l = pow-le-pow_right {n = 18} (omega arith) l

-- the looks of a deepening are at most d + 1 times the sequences of its length
looks-tight : {turns : List Turn} {S : Type 0} (space : Space turns S) (look : S → ℕ) (start : S) (d : ℕ) → length turns ≤ 18 → looks space look start d ≤ (d + 1) * 18 ^ d
looks-tight {turns} space look start d few =
    omega (arith, looks-le space look start d, range-le (count_of_length turns) (18 ^ d) 0 (d + 1) (λ j l. omega (arith, count-le turns j few, power-le j d (omega (arith, l)))))

abbrev most : ℕ
most = 21 * 18 ^ 20

most-within : (sides : Sides) (n : ℕ) → most_normal sides n ≤ n
most-within Normal n = omega arith
most-within Inverse n = omega arith
most-within Both n = omega arith

pub fewest-within : (sides : Sides) (n : ℕ) → fewest_normal sides n ≤ most_normal sides n
fewest-within Normal n = omega arith
fewest-within Inverse n = omega arith
fewest-within Both n = omega arith

if-within : (b : Bool) (n m : ℕ) → n ≤ m → cond b 0 n ≤ m
if-within true n m l = omega arith
if-within false n m l = l

module _ (ends : Ends) (step : Step) (e : Place → Place) where
  after-small : (from to : Space (turns_of step) (Place → Place)) (i j : ℕ) → i + j ≤ 20 → looks_after step e ends from to i j ≤ most
  after-small from to i j few =
      let heads = all_canonical (turns_of step) i in
      let bound = (j + 1) * 18 ^ j in
      let at : List Turn → ℕ = λ h. looks to (distance to) (after_all from e h) j in
      let one : (h : List Turn) → at h ≤ bound = λ h. looks-tight to (distance to) (after_all from e h) j (turns_of-length step) in
      let all : looks_after step e ends from to i j ≤ length heads * bound =
      sum_by-le (λ h. cond (ends_here ends step h) 0 (at h)) bound heads (λ k d l. if-within (ends_here ends step (get_or heads k d)) (at (get_or heads k d)) bound (one (get_or heads k d))) in
      let count : length heads * ((j + 1) * 18 ^ j) ≤ 18 ^ i * ((j + 1) * 18 ^ j) = mul-le-mul_right ((j + 1) * 18 ^ j) (count-le (turns_of step) i (turns_of-length step)) in
      let joined : 18 ^ i * ((j + 1) * 18 ^ j) ≡ (j + 1) * 18 ^ (i + j) = rw (pow-add 18 i j) (omega arith) in
      let deep : j + 1 ≤ 21 = omega (arith, few) in
      let small : (j + 1) * 18 ^ (i + j) ≤ 21 * 18 ^ 20 = mul-le-mul deep (power-le (i + j) 20 few) in
      omega (arith, all, count, joined, small)

  lengths-small : (i j : ℕ) → i + j ≤ 20 → looks_of_lengths step e ends i j ≤ most
  lengths-small i j few = by_test (nat_le i j) where
    by_test : (b : Bool) → cond b (looks_after step e ends (cubes step) (inverse_side step) i j) (looks_after step e ends (inverse_side step) (cubes step) j i) ≤ most
    by_test true = after-small (cubes step) (inverse_side step) i j few
    by_test false = after-small (inverse_side step) (cubes step) j i (omega (arith, few))

  pub length-small : (sides : Sides) (n : ℕ) → n ≤ 20 → looks_with step e ends sides n ≤ 21 * most
  unfolding looks_with
  length-small sides n few =
      let a = fewest_normal sides n in
      let k = most_normal sides n + 1 - a in
      let all : sum_by (λ i. looks_of_lengths step e ends i (n - i)) (range_with_len a k) ≤ length (range_with_len a k) * most =
      sum_by-le (λ i. looks_of_lengths step e ends i (n - i)) most (range_with_len a k) (λ i d l.
      lengths-small (get_or (range_with_len a k) i d) (n - get_or (range_with_len a k) i d) (omega (arith, few, in-range a k (get_or (range_with_len a k) i d) (Contains-get_or (range_with_len a k) i d l), most-within sides n, fewest-within sides n))) in
      omega (arith, all, length-range_with_len a k, few, most-within sides n)

module _ (step : Step) (e : Place → Place) where
  pub whole-small : (sides : Sides) (n slack : ℕ) → n ≤ 20 → pair_looks step e sides n slack ≤ 21 * (21 * most)
  unfolding pair_looks
  whole-small sides n slack few =
      let last = last_length (least_pair_length step e sides n) n slack in
      let range = range_with_len 0 (last + 1) in
      let all : sum_by (looks_of_pairs step e sides) range ≤ length range * (21 * most) =
      sum_by-le (looks_of_pairs step e sides) (21 * most) range (λ i d l.
      length-small Any step e sides (get_or range i d) (omega (arith, few, last-within (least_pair_length step e sides n) n slack, in-range 0 (last + 1) (get_or range i d) (Contains-get_or range i d l)))) in
      omega (arith, all, length-range_with_len 0 (last + 1), few, last-within (least_pair_length step e sides n) n slack)

-- What passes a bound on the meter passes another one.
module _ {K T E : Type 0} (took refused : K → Pair → K → Type 0) (pairs : List Pair) (looks m n : ℕ) (s t : K) (is_cut : E → Bool) (bound : ℕ) (count : T → ℕ) where
  pub hands-bounded : (other : ℕ) → (bound < m + looks → other < m + looks) → (r : Result T E) → HandsOut took refused pairs looks m n s t is_cut bound count r
      → HandsOut took refused pairs looks m n s t is_cut other count r
  hands-bounded other passes (Ok v) h = h
  hands-bounded other passes (Err stop) h = record { taken = h.taken; over = λ cut. passes (h.over cut); rises = h.rises; looked = h.looked }

  pub hands-within : (r : Result T E) → HandsOut took refused pairs looks m n s t is_cut bound count r → n ≤ m + looks
  hands-within (Ok v) h = omega (arith, h.looked)
  hands-within (Err stop) h = h.looked
