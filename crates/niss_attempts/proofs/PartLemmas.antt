-- The places where steps end, and the first part that solves.
use Rattle.std.proofs.Common.{◌≡◌, ℕ, zero, suc, ◌+◌, ◌<◌, ◌≤◌, ◌⊎◌, Bool, true, false, cond, None, List, [], ◌∷◌, ◌++◌, length, take, refl, sym, ap, ◌∙◌, inl, inr, arith, length-append}
use Rattle.std.specs.Prelude.{slice_index}
use Rattle.std.specs.List.{filter, range_with_len}
use Rattle.std.proofs.lemmas.Bool.{cases_lt}
use Rattle.std.proofs.lemmas.List.{append-nil, take_all, take-append-le, length-take-le}
use Rattle.std.proofs.lemmas.List.Elements.{filter-append}
use Rattle.niss_search.proofs.CallerLemmas.{range_push}
use Rattle.niss_attempts.specs.declared.steps.parts.Part.{Part}
use Rattle.niss_attempts.specs.Corners.{Ascends, AreBounds}
use Rattle.niss_attempts.specs.Parts.{most_steps, in_bracket, is_open_after, is_end, part, IsHow, IsPart, IsFirstFrom}
unfoldable use Rattle.niss_attempts.specs.Parts.{bounds_of}

range_one : (n : ℕ) → range_with_len 1 (n + 1) ≡ range_with_len 1 n ++ (n + 1) ∷ []
range_one n =
    let last : 1 + n ≡ n + 1 = omega arith in
    range_push 1 n ∙ ap (λ k. range_with_len 1 n ++ k ∷ []) last

-- a bracket is open after one byte more
pub bracket_after : (text : List ℕ) (n : ℕ) (before after : Bool) → after ≡ is_open_after before (slice_index text n) → before ≡ in_bracket text n →
    after ≡ in_bracket text (n + 1)
bracket_after text n before after is so_far =
    let next : suc n ≡ n + 1 = omega arith in
    is ∙ ap (λ b. is_open_after b (slice_index text n)) so_far ∙ ap (in_bracket text) next

-- the places so far
abbrev pub bounds_to : List ℕ → ℕ → List ℕ
bounds_to text n = 0 ∷ take most_steps (filter (is_end text) (range_with_len 1 n))

pub bounds_end : (text items : List ℕ) → items ≡ bounds_to text (length text) → items ≡ bounds_of text
unfolding bounds_of
bounds_end text items is = is

-- the ends up to a place
abbrev ends_to : List ℕ → ℕ → List ℕ
ends_to text n = filter (is_end text) (range_with_len 1 n)

ends_more : (text : List ℕ) (n : ℕ) (b : Bool) → is_end text (n + 1) ≡ b → ends_to text (n + 1) ≡ ends_to text n ++ cond b ((n + 1) ∷ []) []
ends_more text n b is =
    ap (λ v. filter (is_end text) v) (range_one n) ∙ filter-append (is_end text) (range_with_len 1 n) ((n + 1) ∷ [])
    ∙ ap (λ v. ends_to text n ++ cond v ((n + 1) ∷ []) []) is

pub bounds_passed : (text items : List ℕ) (n : ℕ) → is_end text (n + 1) ≡ false → items ≡ bounds_to text n → items ≡ bounds_to text (n + 1)
bounds_passed text items n not is = is ∙ ap (λ v. 0 ∷ take most_steps v) (sym (ends_more text n false not ∙ append-nil (ends_to text n)))

added : (xs items more : List ℕ) (x : ℕ) → (length items < most_steps + 1 → more ≡ items ++ x ∷ []) → (most_steps + 1 ≤ length items → more ≡ items) → items ≡ 0 ∷ take most_steps xs →
    (length xs < most_steps) ⊎ (most_steps ≤ length xs) → more ≡ 0 ∷ take most_steps (xs ++ x ∷ [])
added xs items more x room full is (inl few) =
    let all : take most_steps xs ≡ xs = take_all most_steps xs (omega arith) in
    let long : length items ≡ suc (length xs) = ap length is ∙ ap (λ v. suc (length v)) all in
    let one : length (xs ++ x ∷ []) ≡ length xs + 1 = length-append xs (x ∷ []) in
    room (omega (arith, long)) ∙ ap (λ v. v ++ x ∷ []) (is ∙ ap (λ v. 0 ∷ v) all) ∙ ap (λ v. 0 ∷ v) (sym (take_all most_steps (xs ++ x ∷ []) (omega (arith, one))))
added xs items more x room full is (inr many) =
    let long : length items ≡ suc most_steps = ap length is ∙ ap (λ k. suc k) (length-take-le most_steps xs many) in
    full (omega (arith, long)) ∙ is ∙ ap (λ v. 0 ∷ v) (sym (take-append-le most_steps xs (x ∷ []) many))

pub bounds_added : (text items more : List ℕ) (n : ℕ) → is_end text (n + 1) ≡ true → (length items < most_steps + 1 → more ≡ items ++ (n + 1) ∷ []) →
    (most_steps + 1 ≤ length items → more ≡ items) → items ≡ bounds_to text n → more ≡ bounds_to text (n + 1)
bounds_added text items more n ends room full is =
    added (ends_to text n) items more (n + 1) room full is (cases_lt (length (ends_to text n)) most_steps) ∙ ap (λ v. 0 ∷ take most_steps v) (sym (ends_more text n true ends))

few_taken : (xs : List ℕ) → (length xs < most_steps) ⊎ (most_steps ≤ length xs) → length (take most_steps xs) ≤ most_steps
few_taken xs (inl few) = omega (arith, ap length (take_all most_steps xs (omega arith)))
few_taken xs (inr many) = omega (arith, length-take-le most_steps xs many)

pub bounds_few : (text : List ℕ) → (0 < length (bounds_of text)) × (length (bounds_of text) ≤ most_steps + 1)
unfolding bounds_of
bounds_few text =
    let few : length (take most_steps (ends_to text (length text))) ≤ most_steps = few_taken (ends_to text (length text)) (cases_lt (length (ends_to text (length text))) most_steps) in
    (omega arith, omega (arith, few))

-- Places ascend from one on.
abbrev AscendFrom : ℕ → List ℕ → Type 0
AscendFrom a [] = Unit {0}
AscendFrom a (x ∷ xs) = (a ≤ x) × AscendFrom x xs

filtered_ascend : (test : ℕ → Bool) (a b n : ℕ) → a ≤ b → AscendFrom a (filter test (range_with_len b n))
filtered_ascend test a b zero le = tt
filtered_ascend test a b (suc n) le =
    by_test (test b) (le, filtered_ascend test b (b + 1) n (omega arith)) (filtered_ascend test a (b + 1) n (omega (arith, le)))
  where
    rest : List ℕ
    rest = filter test (range_with_len (b + 1) n)

    by_test : (t : Bool) → AscendFrom a (b ∷ rest) → AscendFrom a rest → AscendFrom a (cond t (b ∷ rest) rest)
    by_test true taken passed = taken
    by_test false taken passed = passed

taken_ascend : (n a : ℕ) (xs : List ℕ) → AscendFrom a xs → AscendFrom a (take n xs)
taken_ascend zero a xs up = tt
taken_ascend (suc n) a [] up = tt
taken_ascend (suc n) a (x ∷ xs) up = (up.0, taken_ascend n x xs up.1)

ascend_from : (a : ℕ) (xs : List ℕ) → AscendFrom a xs → Ascends (a ∷ xs)
ascend_from a [] up k l = absurd (omega (arith, l))
ascend_from a (x ∷ xs) up zero l = up.0
ascend_from a (x ∷ xs) up (suc k) l =
    let next : suc k + 1 ≡ suc (k + 1) = omega arith in
    rw next (ascend_from x xs up.1 k (omega (arith, l)))

pub are_bounds : (text : List ℕ) → AreBounds (bounds_of text)
unfolding bounds_of
are_bounds text =
    let ends : List ℕ = filter (is_end text) (range_with_len 1 (length text)) in
    record {
      begins = refl;
      ascend = ascend_from 0 (take most_steps ends) (taken_ascend most_steps 0 ends (filtered_ascend (is_end text) 0 1 (length text) (omega arith)));
    }

-- a part is what is done with some steps
same_part : (q : Part) (first end : ℕ) → q.first ≡ first → q.end ≡ end → part q.how first end ≡ q
same_part q first end e f = sym (λ i. record { how = q.how; first = e i; end = f i })

-- No place of a list lies after a last one.
abbrev AllWithin : ℕ → List ℕ → Type 0
AllWithin last [] = Unit {0}
AllWithin last (x ∷ xs) = (x ≤ last) × AllWithin last xs

filtered_within : (test : ℕ → Bool) (last b n : ℕ) → b + n ≤ last + 1 → AllWithin last (filter test (range_with_len b n))
filtered_within test last b zero le = tt
filtered_within test last b (suc n) le = by_test (test b) (omega (arith, le), filtered_within test last (b + 1) n (omega (arith, le))) (filtered_within test last (b + 1) n (omega (arith, le)))
  where
    rest : List ℕ
    rest = filter test (range_with_len (b + 1) n)

    by_test : (t : Bool) → AllWithin last (b ∷ rest) → AllWithin last rest → AllWithin last (cond t (b ∷ rest) rest)
    by_test true taken passed = taken
    by_test false taken passed = passed

taken_within : (n last : ℕ) (xs : List ℕ) → AllWithin last xs → AllWithin last (take n xs)
taken_within zero last xs all = tt
taken_within (suc n) last [] all = tt
taken_within (suc n) last (x ∷ xs) all = (all.0, taken_within n last xs all.1)

place_within : (last : ℕ) (xs : List ℕ) (k : ℕ) → AllWithin last xs → slice_index xs k ≤ last
place_within last [] k all = omega arith
place_within last (x ∷ xs) zero all = all.0
place_within last (x ∷ xs) (suc k) all = place_within last xs k all.1

-- no step ends after the text
pub bounds_within : (text : List ℕ) (k : ℕ) → slice_index (bounds_of text) k ≤ length text
unfolding bounds_of
bounds_within text zero = omega arith
bounds_within text (suc k) =
    place_within (length text) (take most_steps (filter (is_end text) (range_with_len 1 (length text)))) k
    (taken_within most_steps (length text) (filter (is_end text) (range_with_len 1 (length text))) (filtered_within (is_end text) (length text) 1 (length text) (omega arith)))

-- no part that begins with a step and ends before another solves
abbrev pub NoneFrom : (Part → Bool) → (first end : ℕ) → Type 0
NoneFrom solving first end = (q : Part) → q.first ≡ first → q.first < q.end → q.end < end → solving q ≡ false

pub from_more : (solving : Part → Bool) (first end : ℕ) → NoneFrom solving first end → IsHow (λ how. solving (part how first end)) None →
    NoneFrom solving first (end + 1)
from_more solving first end none how q same some near = last (cases_lt q.end end)
  where
    last : (q.end < end) ⊎ (end ≤ q.end) → solving q ≡ false
    last (inl less) = none q same some less
    last (inr not) = ap solving (sym (same_part q first end same (omega arith))) ∙ how q.how

-- no part that begins before a step solves
abbrev pub NoneBefore : ℕ → (Part → Bool) → ℕ → Type 0
NoneBefore steps solving first = (q : Part) → IsPart steps q → q.first < first → solving q ≡ false

pub none_more : (solving : Part → Bool) (steps first : ℕ) → NoneBefore steps solving first → IsFirstFrom steps solving first None →
    NoneBefore steps solving (first + 1)
none_more solving steps first none from q among near = last (cases_lt q.first first)
  where
    last : (q.first < first) ⊎ (first ≤ q.first) → solving q ≡ false
    last (inl less) = none q among less
    last (inr not) = from q among (omega arith)
