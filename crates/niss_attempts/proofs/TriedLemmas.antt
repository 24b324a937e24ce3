-- Which numbers are tried, and the first of them that holds.
use Rattle.std.proofs.Common.{◌≡◌, ◌∙◌, ℕ, ◌+◌, ◌<◌, ◌≤◌, ◌&&◌, nat_lt, Bool, true, false, cond, Some, [], ◌∷◌, ◌++◌, length, refl, sym, ap, arith, length-append}
use Rattle.std.specs.List.{filter, range_with_len}
use Rattle.std.proofs.lemmas.Bool.{and_parts, ltb-true, ltb-false}
use Rattle.std.proofs.lemmas.List.Elements.{filter-append}
use Rattle.niss_search.proofs.CallerLemmas.{range_push}
use Rattle.niss_attempts.proofs.LostLemmas.{one_more}
use Rattle.niss_attempts.specs.Another.{IsFirstTried, IsTried, count_before, most_lines_tried}

count_more : (is_so : ℕ → Bool) (n : ℕ) (b : Bool) → is_so n ≡ b → count_before is_so (n + 1) ≡ count_before is_so n + length (cond b (n ∷ []) [])
count_more is_so n b is =
    let last : 0 + n ≡ n = omega arith in
    ap (λ v. length (filter is_so v)) (range_push 0 n ∙ ap (λ k. range_with_len 0 n ++ k ∷ []) last)
    ∙ ap length (filter-append is_so (range_with_len 0 n) (n ∷ []))
    ∙ ap (λ c. length (filter is_so (range_with_len 0 n) ++ cond c (n ∷ []) [])) is
    ∙ length-append (filter is_so (range_with_len 0 n)) (cond b (n ∷ []) [])

left_false : (x y : Bool) → y ≡ true → (x && y) ≡ false → x ≡ false
left_false true y is not = absurd (cc (sym is ∙ not))
left_false false y is not = refl

-- What is known before a number: so many were tried, and none of them holds.
pub record AreTried (is_so : ℕ → Bool) (Holds : ℕ → Bool → Type 0) (at tried : ℕ) : Type 0 where
  pub few : tried ≤ count_before is_so at
  pub all : tried < most_lines_tried → tried ≡ count_before is_so at
  pub none : (j : ℕ) → j < at → IsTried is_so j → Holds j false

passed : (is_so : ℕ → Bool) (Holds : ℕ → Bool → Type 0) (at tried : ℕ) (b : Bool) → is_so at ≡ b → (nat_lt tried most_lines_tried && is_so at) ≡ false →
    AreTried is_so Holds at tried → AreTried is_so Holds (at + 1) tried
passed is_so Holds at tried false not untried it =
    let here : count_before is_so (at + 1) ≡ count_before is_so at + 0 = count_more is_so at false not in
    let few = it.few in
    record {
      few = omega (arith, here, few);
      all = λ low. let all = it.all low in omega (arith, here, all);
      none = one_more (λ j. IsTried is_so j → Holds j false) at it.none (λ h. absurd (cc (sym h.0 ∙ not)));
    }
passed is_so Holds at tried true is untried it =
    let here : count_before is_so (at + 1) ≡ count_before is_so at + 1 = count_more is_so at true is in
    let many : most_lines_tried ≤ tried = ltb-false tried most_lines_tried (left_false (nat_lt tried most_lines_tried) (is_so at) is untried) in
    let few = it.few in
    record {
      few = omega (arith, here, few);
      all = λ low. absurd (omega (arith, many, low));
      none = one_more (λ j. IsTried is_so j → Holds j false) at it.none (λ h. let low = h.1 in absurd (omega (arith, many, few, low)));
    }

-- a number that isn't tried
pub tries_passed : (is_so : ℕ → Bool) (Holds : ℕ → Bool → Type 0) (at tried : ℕ) → (nat_lt tried most_lines_tried && is_so at) ≡ false →
    AreTried is_so Holds at tried → AreTried is_so Holds (at + 1) tried
tries_passed is_so Holds at tried untried it = passed is_so Holds at tried (is_so at) refl untried it

-- one that is tried, and doesn't hold
pub tries_more : (is_so : ℕ → Bool) (Holds : ℕ → Bool → Type 0) (at tried : ℕ) → (nat_lt tried most_lines_tried && is_so at) ≡ true → Holds at false →
    AreTried is_so Holds at tried → AreTried is_so Holds (at + 1) (tried + 1)
tries_more is_so Holds at tried is not it =
    let both = and_parts (nat_lt tried most_lines_tried) (is_so at) is in
    let here : count_before is_so (at + 1) ≡ count_before is_so at + 1 = count_more is_so at true both.1 in
    let so_far = it.all (ltb-true tried most_lines_tried both.0) in
    record {
      few = omega (arith, here, so_far);
      all = λ low. omega (arith, here, so_far);
      none = one_more (λ j. IsTried is_so j → Holds j false) at it.none (λ h. not);
    }

-- one that holds
pub tries_first : (bound : ℕ) (is_so : ℕ → Bool) (Holds : ℕ → Bool → Type 0) (at tried : ℕ) → at < bound → (nat_lt tried most_lines_tried && is_so at) ≡ true → Holds at true →
    AreTried is_so Holds at tried → IsFirstTried bound is_so Holds (Some at)
tries_first bound is_so Holds at tried within is holds it =
    let both = and_parts (nat_lt tried most_lines_tried) (is_so at) is in
    let low = ltb-true tried most_lines_tried both.0 in
    let so_far = it.all low in
    (within, (both.1, omega (arith, low, so_far)), holds, it.none)
