-- Sets of steps by their numbers, the lines in which they stand in brackets, and the first set that solves.
use Rattle.std.proofs.Common.{◌≡◌, ◌∙◌, ℕ, zero, suc, ◌+◌, ◌-◌, ◌*◌, ◌^◌, ◌<◌, ◌≤◌, ◌⊎◌, ◌==◌, Bool, false, List, [], ◌∷◌, ◌++◌, length, get_or, refl, sym, ap, subst, arith, inl, inr, append-nil}
use Rattle.std.specs.Prelude.{flat_map, nat_lt}
use Rattle.std.specs.Int.{bit_at}
unfoldable use Rattle.std.specs.Int.Count.{count_trailing_zeros}
use Rattle.std.specs.List.{range_with_len}
use Rattle.std.proofs.Math.Nat.{pow-succ'}
use Rattle.std.proofs.Math.Pow.{pow_mono}
use Rattle.std.proofs.lemmas.Bool.{cases_lt, lt-ltb}
use Rattle.std.proofs.lemmas.Grind.{flat_map-append}
use Rattle.niss_moves.proofs.CallerLemmas.{Fact, Below, Equal, Both, When, Numbers, holds}
use Rattle.niss_search.proofs.CallerLemmas.{range_push}
use Rattle.niss_attempts.specs.declared.steps.cube_corners.Corners.{Corners}
use Rattle.niss_attempts.specs.declared.steps.sets.StepSet.{StepSet}
use Rattle.niss_attempts.specs.Corners.{IsTail, AreTails, line_from}
use Rattle.niss_attempts.specs.Parts.{first_in, last_in, step_with, line_with, steps_line, in_brackets_if}

abbrev pub of : ℕ → StepSet
of n = record { number = n }

-- the first step of a set, and the last
abbrev ends : ℕ → Fact
ends n =
    When (nat_lt 0 n) (Both (Equal (count_trailing_zeros 64 n) (first_in (of n))) (Both (Below (2 ^ first_in (of n)) (n + 1))
    (Both (Below (2 ^ last_in (of n)) (n + 1)) (Both (Below n (2 ^ (last_in (of n) + 1))) (Below (last_in (of n)) 8)))))

are_ends : (n : ℕ) → 0 < n → n < 256 → (count_trailing_zeros 64 n ≡ first_in (of n)) × (2 ^ first_in (of n) < n + 1) × (2 ^ last_in (of n) < n + 1)
    × (n < 2 ^ (last_in (of n) + 1)) × (last_in (of n) < 8)
unfolding count_trailing_zeros
are_ends n some few =
    let all = holds (Numbers 256 ends) refl n few (lt-ltb 0 n some) in
    (all.0, all.1.0, all.1.1.0, all.1.1.1.0, all.1.1.1.1)

pub first_is : (n : ℕ) → 0 < n → n < 256 → count_trailing_zeros 64 n ≡ first_in (of n)
first_is n some few = (are_ends n some few).0

power_below : (i j n : ℕ) → 2 ^ i ≤ n → n < 2 ^ j → i < j
power_below i j n low high = by_order (cases_lt i j)
  where
    by_order : (i < j) ⊎ (j ≤ i) → i < j
    by_order (inl less) = less
    by_order (inr not) = absurd (omega (arith, low, high, pow_mono not))

pub first_among : (n steps : ℕ) → 0 < n → n < 256 → n < 2 ^ steps → first_in (of n) < steps
first_among n steps some few within =
    let low = (are_ends n some few).1 in
    power_below (first_in (of n)) steps n (omega (arith, low)) within

pub last_is : (n r : ℕ) → 0 < n → n < 256 → 2 ^ r ≤ n → n < 2 * 2 ^ r → r ≡ last_in (of n)
last_is n r some few low high =
    let is = are_ends n some few in
    let next : r + 1 ≡ suc r = omega arith in
    let double : 2 ^ (r + 1) ≡ 2 * 2 ^ r = ap (λ k. 2 ^ k) next ∙ pow-succ' 2 r in
    let one : r < last_in (of n) + 1 = power_below r (last_in (of n) + 1) n low is.3 in
    let other : last_in (of n) < r + 1 = power_below (last_in (of n)) (r + 1) n (omega (arith, is.2)) (omega (arith, double, high)) in
    omega (arith, one, other)

pub last_few : (n : ℕ) → 0 < n → n < 256 → last_in (of n) < 8
last_few n some few = (are_ends n some few).4

-- The steps after the first one of a set stand as in the set before it.
abbrev stays : ℕ → Fact
stays n = When (nat_lt 0 n) (Numbers 13 λ k. When (nat_lt (first_in (of n)) k) (Equal (bit_at (n - 1) k) (bit_at n k)))

later_stay : (n k : ℕ) → 0 < n → n < 256 → k < 13 → first_in (of n) < k → bit_at (n - 1) k ≡ bit_at n k
later_stay n k some few low high = holds (Numbers 256 stays) refl n few (lt-ltb 0 n some) k low (lt-ltb (first_in (of n)) k high)

same_lines : (f g : ℕ → List ℕ) (a n : ℕ) → ((k : ℕ) → a ≤ k → k < a + n → f k ≡ g k) → flat_map f (range_with_len a n) ≡ flat_map g (range_with_len a n)
same_lines f g a zero same = refl
same_lines f g a (suc n) same =
    let first : f a ≡ g a = same a (omega arith) (omega arith) in
    let rest = same_lines f g (a + 1) n (λ k low high. same k (omega (arith, low)) (omega (arith, high))) in
    λ i. first i ++ rest i

pub tails_kept : (text bounds : List ℕ) (tails : List Corners) (n : ℕ) → 0 < n → n < 256 → length bounds ≤ 13 → AreTails text bounds (of (n - 1)) 0 tails →
    AreTails text bounds (of n) (first_in (of n) + 1) tails
tails_kept text bounds tails n some few nine are step none from within =
    let so : (k : ℕ) → step ≤ k → k < step + (length bounds - 1 - step) → step_with text bounds (of (n - 1)) k ≡ step_with text bounds (of n) k =
    λ k low high. ap (λ bit. in_brackets_if (bit == 1) (steps_line text bounds k (k + 1)))
    (later_stay n k some few (omega (arith, high, within, nine)) (omega (arith, from, low))) in
    let same : line_from text bounds (of (n - 1)) step ≡ line_from text bounds (of n) step =
    same_lines (step_with text bounds (of (n - 1))) (step_with text bounds (of n)) step (length bounds - 1 - step) so in
    subst (λ (bytes : List ℕ). IsTail bytes (get_or tails step none).to) same (are step none (omega arith) within)

-- one step more in a line
pub line_more : (text bounds : List ℕ) (chosen : StepSet) (n : ℕ) →
    flat_map (step_with text bounds chosen) (range_with_len 0 n) ++ step_with text bounds chosen n ≡ flat_map (step_with text bounds chosen) (range_with_len 0 (n + 1))
line_more text bounds chosen n =
    let f : ℕ → List ℕ = step_with text bounds chosen in
    let from_none : 0 + n ≡ n = omega arith in
    let all : flat_map f (range_with_len 0 (n + 1)) ≡ flat_map f (range_with_len 0 n) ++ flat_map f (n ∷ []) =
    ap (flat_map f) (range_push 0 n ∙ ap (λ k. range_with_len 0 n ++ k ∷ []) from_none) ∙ flat_map-append f (range_with_len 0 n) (n ∷ []) in
    sym (all ∙ ap (λ v. flat_map f (range_with_len 0 n) ++ v) (append-nil (f n)))

-- all steps from the first one on are the whole line
pub whole_tail : (text bounds : List ℕ) (chosen : StepSet) (tails : List Corners) (none : Corners) → 0 < length bounds → AreTails text bounds chosen 0 tails →
    IsTail (line_with text bounds chosen) (get_or tails 0 none).to
whole_tail text bounds chosen tails none some are =
    let all : length bounds - 1 - 0 ≡ length bounds - 1 = omega arith in
    subst (λ (n : ℕ). IsTail (flat_map (step_with text bounds chosen) (range_with_len 0 n)) (get_or tails 0 none).to) all (are 0 none (omega arith) some)

-- no set with a lower number solves
abbrev pub NoneBelow : (StepSet → Bool) → ℕ → Type 0
NoneBelow solving n = (other : StepSet) → 0 < other.number → other.number < n → solving other ≡ false

pub none_below_more : (solving : StepSet → Bool) (n : ℕ) → solving (of n) ≡ false → NoneBelow solving n → NoneBelow solving (n + 1)
none_below_more solving n not none other some less = by_number (cases_lt other.number n)
  where
    by_number : (other.number < n) ⊎ (n ≤ other.number) → solving other ≡ false
    by_number (inl lower) = none other some lower
    by_number (inr not_lower) =
        let same : other.number ≡ n = omega (arith, less, not_lower) in
        let is : other ≡ of n = λ i. record { number = same i } in
        ap solving is ∙ not
