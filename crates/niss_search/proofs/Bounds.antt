-- How many canonical sequences there are, by the laws over their counts; the looks are within the bound, and the bound
-- is small. And how many turns may follow one, from which a word picks the next.
use Rattle.niss_search.proofs.Words.{◌≡◌, arith, length, ◌+◌, ◌<◌, ℕ, ap, ◌≤◌, [], List, turns_of, ◌*◌, ◌∷◌, Bool, Turn, suc, cond}
use Rattle.niss_search.proofs.Words.{range_with_len, ◌++◌, zero, get_or, may_follow, last_turn, subst, count_by, filter, sum_by}
use Rattle.niss_search.proofs.Words.{sum_by-cons, None, Space, Option, Some, ◌^◌, last_length, looks, up_to}
use Rattle.niss_search.proofs.Words.{all_canonical, canonical_extensions, least_length, length-flat_map, all_looks, is_looked_at}
use Rattle.niss_search.proofs.Words.{length-map, look_bound, sum_by-le-sum_by, count_by-le-length, count_of_length, sum_by-le, BoundIsSmall}
use Rattle.niss_search.proofs.Words.{length-filter, pow-suc, ◌∙◌, sym, refl, B, D, F, Face, L, R, U, face_may_follow, last_turn-push}
use Rattle.niss_search.proofs.Words.{turn_order, CountRecurrence, PartHasNoMore, StepBoundIsLess, StepTurnsInOrder, goes_first, map, not}
use Rattle.niss_search.proofs.Words.{true, ◌-◌, ◌/◌, ◌%◌, no_turn, choice, filter_passes, mul-le-mul_right, choices, lit<, false, below}
use Rattle.niss_moves.specs.Indices.{face_index}
use Rattle.std.proofs.Math.Nat.{pow-le-pow_right}
use Rattle.std.proofs.lemmas.List.Filters.{sum_by-filter_both}
use Rattle.niss_search.proofs.ListLemmas.{sum_by-same, sum_by-range_more}
use Rattle.niss_search.proofs.DepthFirst.{below-all}
use Rattle.niss_search.proofs.ByLength.{last-within}
pub use Rattle.niss_cube.proofs.CallerLemmas.{turns_of-length, turns_of-oriented}

pub ruleset few_turns = (turns_of-length)

-- the looks of a deepening are at most the canonical sequences of its lengths
pub looks-le : {turns : List Turn} {S : Type 0} (space : Space turns S) (look : S → ℕ) (start : S) (d : ℕ) → looks space look start d ≤ sum_by (count_of_length turns) (up_to d)
unfolding looks
looks-le {turns} space look start d =
    let looked = is_looked_at space look start d in
    sum_by-le-sum_by (λ k. count_by looked (all_canonical turns k)) (count_of_length turns) (up_to d) (λ k. count_by-le-length looked (all_canonical turns k))

pub range-le : (f : ℕ → ℕ) (m a n : ℕ) → ((j : ℕ) → j < a + n → f j ≤ m) → sum_by f (range_with_len a n) ≤ n * m
range-le f m a zero h = omega arith
range-le f m a (suc n) h =
    omega (arith, sum_by-cons f a (range_with_len (a + 1) n), h a (omega arith), range-le f m (a + 1) n (λ j l. h j (omega arith)))

pub count-le : (turns : List Turn) (k : ℕ) → length turns ≤ 18 → count_of_length turns k ≤ 18 ^ k
unfolding all_canonical
count-le turns zero h = omega arith
count-le turns (suc k) h =
    let each : (s : List Turn) → length (canonical_extensions turns s) ≤ 18 = λ s.
    omega (arith, length-map (filter (may_follow (last_turn s)) turns) (λ t. s ++ t ∷ []), length-filter (may_follow (last_turn s)) turns, count_by-le-length (may_follow (last_turn s)) turns) in
    omega (arith, length-flat_map (canonical_extensions turns) (all_canonical turns k), sum_by-le (λ s. length (canonical_extensions turns s)) 18 (all_canonical turns k) (λ i d l. each (get_or (all_canonical turns k) i d)), count-le turns k h, pow-suc 18 k)

-- by a bound on the counts of every length
look_bound-small : (turns : List Turn) (n : ℕ) → length turns ≤ 18 → n ≤ 20 → look_bound turns n ≤ 21 * (21 * 18 ^ 20)
unfolding look_bound
look_bound-small turns n h l =
    let each : (j : ℕ) → j ≤ 20 → count_of_length turns j ≤ 18 ^ 20 = λ j m. omega (arith, count-le turns j h, pow-le-pow_right {n = 18} (omega arith) m) in
    omega (arith, range-le (λ d. sum_by (count_of_length turns) (up_to d)) (21 * 18 ^ 20) 0 (n + 1) (λ d m. omega (arith, range-le (count_of_length turns) (18 ^ 20) 0 (d + 1) (λ j k. each j (omega arith)))))

prefix-le : (f g : ℕ → ℕ) (a m n : ℕ) → ((j : ℕ) → f j ≤ g j) → m ≤ n → sum_by f (range_with_len a m) ≤ sum_by g (range_with_len a n)
prefix-le f g a zero n h l = omega arith
prefix-le f g a (suc m) zero h l = absurd (omega arith)
prefix-le f g a (suc m) (suc n) h l =
    omega (arith, sum_by-cons f a (range_with_len (a + 1) m), sum_by-cons g a (range_with_len (a + 1) n), h a, prefix-le f g (a + 1) m n h (omega arith))

module _ {turns : List Turn} {S : Type 0} (space : Space turns S) where
  module _ (look : S → ℕ) (start : S) where
    abbrev most : ℕ → ℕ
    most d = sum_by (count_of_length turns) (up_to d)

    -- the looks of every deepening are within the bound
    pub all_looks-bound : (n slack : ℕ) → all_looks space look start n slack ≤ look_bound turns n
    unfolding all_looks look_bound
    all_looks-bound n slack =
        let least = least_length space start n in
        prefix-le (looks space look start) most 0 (last_length least n slack + 1) (n + 1) (looks-le space look start) (omega (arith, last-within least n slack))

    pub looks-sum-small : (d : ℕ) → length turns ≤ 18 → d ≤ 21 → sum_by (looks space look start) (range_with_len 0 d) ≤ 21 * (21 * 18 ^ 20)
    unfolding look_bound
    looks-sum-small d h l =
        omega (arith, prefix-le (looks space look start) most 0 d 21 (looks-le space look start) l, look_bound-small turns 20 h (omega arith))

-- the bound of a step is small
pub bound-small : BoundIsSmall
bound-small s n h = omega (arith, look_bound-small (turns_of s) n (turns_of-length s) h)

sum_by-kept : {X Y : Type 0} (g : Y → ℕ) (h : X → Y) (m : X → Bool) (xs : List X) → sum_by g (map h (filter m xs)) ≡ sum_by (λ x. cond (m x) (g (h x)) 0) xs
sum_by-kept g h m [] = refl
sum_by-kept g h m (x ∷ xs) =
    grind (arith, sum_by-kept g h m xs, sum_by-cons (λ y. cond (m y) (g (h y)) 0) x xs, sum_by-cons g (h x) (map h (filter m xs)))

length-below : (turns : List Turn) (k : ℕ) (p : List Turn) → length (below turns p (suc k)) ≡ sum_by (λ t. cond (may_follow (last_turn p) t) (length (below turns (p ++ t ∷ []) k)) 0) turns
length-below turns k p =
    length-flat_map (λ q. below turns q k) (canonical_extensions turns p)
    ∙ sum_by-kept (λ q. length (below turns q k)) (λ t. p ++ t ∷ []) (may_follow (last_turn p)) turns

part-below : (part : Turn → Bool) (turns : List Turn) (k : ℕ) (p : List Turn) → length (below (filter part turns) p k) ≤ length (below turns p k)
part-below part turns zero p = omega arith
part-below part turns (suc k) p =
    let f : Turn → ℕ = λ t. cond (may_follow (last_turn p) t) (length (below (filter part turns) (p ++ t ∷ []) k)) 0 in
    let g : Turn → ℕ = λ t. cond (may_follow (last_turn p) t) (length (below turns (p ++ t ∷ []) k)) 0 in
    let each : (t : Turn) → f t ≤ g t = λ t. grind (arith, part-below part turns k (p ++ t ∷ [])) in
    omega (arith, length-below (filter part turns) k p, length-below turns k p, sum_by-filter_both part (λ t. not (part t)) (λ t. refl) f turns, sum_by-le-sum_by f g turns each)

pub part-has-no-more : PartHasNoMore
part-has-no-more part turns k =
    omega (arith, part-below part turns k [], ap length (below-all (filter part turns) k), ap length (below-all turns k))

-- how many sequences of k turns may follow a turn of U, R or F, and one of D, L or B
abbrev afters : ℕ → ℕ × ℕ
afters zero = (1, 1)
afters (suc k) = let n = afters k in (6 * n.0 + 9 * n.1, 6 * n.0 + 6 * n.1)

abbrev after_face : Face → ℕ → ℕ
after_face f k = cond (goes_first f) (afters k).0 (afters k).1

-- the sum over the 18 turns after a turn of a face, where each turn counts by its face
sum-after : (f : Face) (k : ℕ) → sum_by (λ t. cond (face_may_follow f t.face) (after_face t.face k) 0) turn_order ≡ after_face f (suc k)
sum-after U k = omega arith
sum-after D k = omega arith
sum-after R k = omega arith
sum-after L k = omega arith
sum-after F k = omega arith
sum-after B k = omega arith

below-after : (k : ℕ) (p : List Turn) (t : Turn) → length (below turn_order (p ++ t ∷ []) k) ≡ after_face t.face k
below-after zero p t = grind arith
below-after (suc k) p t =
    length-below turn_order k (p ++ t ∷ [])
    ∙ sum_by-same (λ u. cond (may_follow (last_turn (p ++ t ∷ [])) u) (length (below turn_order ((p ++ t ∷ []) ++ u ∷ []) k)) 0) (λ u. cond (face_may_follow t.face u.face) (after_face u.face k) 0) turn_order (λ u.
    rw (last_turn-push p t, below-after k (p ++ t ∷ []) u))
    ∙ sum-after t.face k

pub count-suc : (k : ℕ) → count_of_length turn_order (suc k) ≡ 9 * (afters k).0 + 9 * (afters k).1
count-suc k =
    sym (ap length (below-all turn_order (suc k)))
    ∙ length-below turn_order k []
    ∙ sum_by-same (λ u. length (below turn_order ([] ++ u ∷ []) k)) (λ u. after_face u.face k) turn_order (λ u. below-after k [] u)
    ∙ sums (afters k).0 (afters k).1 where
      sums : (a b : ℕ) → sum_by (λ (u : Turn). cond (goes_first u.face) a b) turn_order ≡ 9 * a + 9 * b
      sums a b = omega arith

pub count-recurrence : CountRecurrence
count-recurrence zero h = absurd (omega arith)
count-recurrence (suc k) h =
    let e₂ : suc k + 2 ≡ suc (suc (suc k)) = omega arith in
    let e₁ : suc k + 1 ≡ suc (suc k) = omega arith in
    omega (arith, ap (count_of_length turn_order) e₂, ap (count_of_length turn_order) e₁, count-suc (suc (suc k)), count-suc (suc k), count-suc k)

-- a part of the turns has no larger bound
part-bound : (part : Turn → Bool) (turns : List Turn) (n : ℕ) → look_bound (filter part turns) n ≤ look_bound turns n
unfolding look_bound
part-bound part turns n =
    sum_by-le-sum_by (λ d. sum_by (count_of_length (filter part turns)) (up_to d)) (λ d. sum_by (count_of_length turns) (up_to d)) (up_to n) (λ d. sum_by-le-sum_by (count_of_length (filter part turns)) (count_of_length turns) (up_to d) (part-has-no-more part turns))

pub step-bound : StepTurnsInOrder → StepBoundIsLess
step-bound in_order s n =
    subst (λ (turns : List Turn). look_bound turns n ≤ look_bound turn_order n) (sym (in_order s).1) (part-bound (in_order s).0 turn_order n)

-- how many turns may follow one of a face
pub count_after : (f : Face) → length (filter (λ t. face_may_follow f t.face) turn_order) ≡ cond {A = ℕ} (goes_first f) 15 12
count_after U = refl
count_after D = refl
count_after R = refl
count_after L = refl
count_after F = refl
count_after B = refl

-- the share of a word among the turns that may follow one: 12 of 18 after a face with an odd number, else 15
pub picked : (w : ℕ) (t : Turn) → w * 15 / 4294967296 - (w * 15 / 4294967296 - w * 12 / 4294967296) * (face_index t.face % 2) ≡ w * length (choices (Some t)) / 4294967296
picked w t = rw (count_after t.face) (by-face w t.face) where
  by-face : (w : ℕ) (f : Face) → w * 15 / 4294967296 - (w * 15 / 4294967296 - w * 12 / 4294967296) * (face_index f % 2) ≡ w * cond {A = ℕ} (goes_first f) 15 12 / 4294967296
  by-face w U = omega arith
  by-face w D = omega arith
  by-face w R = omega arith
  by-face w L = omega arith
  by-face w F = omega arith
  by-face w B = omega arith

some : (first : Bool) → 0 < cond {A = ℕ} first 15 12
some true = lit< tt
some false = lit< tt

-- some turn may always follow
choices-some : (last : Option Turn) → 0 < length (choices last)
choices-some None = lit< tt
choices-some (Some t) = rw (count_after t.face) (some (goes_first t.face))

-- a word's index is that of a choice
pub choice-index : (last : Option Turn) (w : ℕ) → w < 2 ^ 32 → w * length (choices last) / 2 ^ 32 < length (choices last)
choice-index last w h =
    let k = length (choices last) in
    let top : w * k ≤ (2 ^ 32 - 1) * k = mul-le-mul_right k (omega arith) in
    let some = choices-some last in
    omega arith

-- the turn that a word picks may follow
pub choice-follows : (last : Option Turn) (w : ℕ) → w < 2 ^ 32 → may_follow last (choice last w) ≡ true
choice-follows last w h =
    filter_passes (may_follow last) turn_order _ no_turn (choice-index last w h)

-- one deepening makes few looks
pub looks-small : {turns : List Turn} {S : Type 0} (space : Space turns S) (look : S → ℕ) (start : S) (d : ℕ) → length turns ≤ 18 → d ≤ 20 → looks space look start d ≤ 21 * (21 * 18 ^ 20)
looks-small space look start d few small =
    omega (arith, sum_by-range_more (looks space look start) d, looks-sum-small space look start (d + 1) few (omega (arith, small)))
