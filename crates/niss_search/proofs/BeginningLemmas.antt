-- Whether first turns of a pair reach the step: by each number of turns on the inverse, and for each by those on the normal side.
use Rattle.niss_search.proofs.Words.{◌≡◌, refl, sym, ◌∙◌, ap, Bool, true, false, ℕ, List, [], ◌∷◌, Turn, Step, Place, SameMap, cubes}
use Rattle.niss_search.proofs.Words.{after_all, reached, turned, fold-append, StepsSeePlaces, take, take_all, get_or, length, length-append, ◌+◌, ◌<◌, ◌≤◌, ◌++◌, ◌||◌, ◌&&◌}
use Rattle.niss_search.proofs.Words.{list_any, list_any_at, range_with_len, length-range_with_len, arith, nat_lt, lt-ltb, le-ltb, up_to, Contains, All-contains_itself}
use Rattle.std.proofs.lemmas.List.FromFn.{get_or-range_with_len}
use Rattle.std.proofs.lemmas.List.Folds.{list_any-append}
use Rattle.std.proofs.lemmas.List.{take_more, take-append-le}
use Rattle.std.proofs.Math.Bool.{or-false}
use Rattle.niss_search.proofs.ListLemmas.{range-push, in-range}
use Rattle.niss_search.proofs.LookLemmas.{list_any-each}
use Rattle.niss_search.proofs.InverseLemmas.{Stay}
use Rattle.niss_moves.specs.Effects.{inverse_turn, effect_of_turns}
use Rattle.niss_cube.specs.Map.{map_of}
use Rattle.niss_cube.specs.declared.cube.Cube.{Cube}
use Rattle.niss_search.specs.BothSides.{pair, turned_before, inverse_side, reaches, begins_reached}
use Rattle.niss_search.specs.BothWalk.{reached_along}

-- a test over the numbers below n
pub any_at : (f : ℕ → Bool) (n i : ℕ) → i < n → f i ≡ true → list_any f (range_with_len 0 n) ≡ true
any_at f n i l e =
    let there : 0 + i ≡ i = omega arith in
    list_any_at f (range_with_len 0 n) i 0 (omega (arith, l, length-range_with_len 0 n)) (ap f (get_or-range_with_len 0 n i 0 l ∙ there) ∙ e)

any_more : (f : ℕ → Bool) (n : ℕ) → list_any f (range_with_len 0 (n + 1)) ≡ (list_any f (range_with_len 0 n) || f n)
any_more f n =
    ap (list_any f) (range-push n) ∙ list_any-append f (range_with_len 0 n) (n ∷ [])
    ∙ ap (λ b. list_any f (range_with_len 0 n) || b) (or-false (f n))

pub none_more : (f : ℕ → Bool) (n : ℕ) → list_any f (range_with_len 0 n) ≡ false → f n ≡ false → list_any f (range_with_len 0 (n + 1)) ≡ false
none_more f n none e = any_more f n ∙ (λ i. none i || e i)

any_same : (f g : ℕ → Bool) (n : ℕ) → ((i : ℕ) → i < n → f i ≡ g i) → list_any f (range_with_len 0 n) ≡ list_any g (range_with_len 0 n)
any_same f g n same =
    list_any-each (Contains (range_with_len 0 n)) f g (range_with_len 0 n) (λ i m. same i (omega (arith, in-range 0 n i m))) (All-contains_itself (range_with_len 0 n))

-- the cube after one turn more
pub turned_next : (step : Step) (f : Place → Place) (c d : Cube) (ts : List Turn) (i : ℕ) (none : Turn) → i < length ts
    → SameMap (map_of c) (after_all (cubes step) f (take i ts)) → SameMap (map_of d) (λ q. turned (get_or ts i none) (map_of c q))
    → SameMap (map_of d) (after_all (cubes step) f (take (i + 1) ts))
turned_next step f c d ts i none l before after q p =
    after q p ∙ ap (turned (get_or ts i none)) (before q p)
    ∙ (λ j. sym (fold-append (λ (e : Place → Place) t q. turned t (e q)) f (take i ts) (get_or ts i none ∷ [])) j q)
    ∙ (λ j. after_all (cubes step) f (sym (take_more ts i none l) j) q)

pub before_next : Stay → (step : Step) (f : Place → Place) (c d : Cube) (ts : List Turn) (i : ℕ) (none u : Turn) → i < length ts
    → u ≡ inverse_turn (get_or ts i none)
    → SameMap (map_of c) (after_all (inverse_side step) f (take i ts)) → SameMap (map_of d) (λ q. map_of c (turned u q))
    → SameMap (map_of d) (after_all (inverse_side step) f (take (i + 1) ts))
before_next stay step f c d ts i none u l is before after q p =
    let p₀ = take i ts in
    let t = get_or ts i none in
    after q p ∙ before (turned u q) (stay u q p)
    ∙ ap (λ v. after_all (inverse_side step) f p₀ (turned v q)) is
    ∙ (λ i. sym (fold-append turned_before f p₀ (t ∷ [])) i q)
    ∙ (λ j. after_all (inverse_side step) f (sym (take_more ts i none l) j) q)

-- first turns, but not all, are those before the last one, or all of these
pub along-last : (step : Step) (f : Place → Place) (front : List Turn) (t : Turn)
    → reached_along step f (front ++ t ∷ []) ≡ (reached_along step f front || reached step (after_all (cubes step) f front))
unfolding reached_along
along-last step f front t =
    let test : List Turn → ℕ → Bool = λ ts i. reached step (after_all (cubes step) f (take i ts)) in
    let first : (i : ℕ) → i ≤ length front → test (front ++ t ∷ []) i ≡ test front i =
    λ i l. ap (λ ts. reached step (after_all (cubes step) f ts)) (take-append-le i front (t ∷ []) l) in
    let all : test front (length front) ≡ reached step (after_all (cubes step) f front) =
    ap (λ ts. reached step (after_all (cubes step) f ts)) (take_all (length front) front (omega arith)) in
    ap (λ n. list_any (test (front ++ t ∷ [])) (range_with_len 0 n)) (length-append front (t ∷ []))
    ∙ any_more (test (front ++ t ∷ [])) (length front)
    ∙ (λ k. any_same (test (front ++ t ∷ [])) (test front) (length front) (λ i l. first i (omega (arith, l))) k || (first (length front) (omega arith) ∙ all) k)

-- turns bring maps that are the same to maps that are the same
after_same : (step : Step) (a : List Turn) (d e : Place → Place) → SameMap d e → SameMap (after_all (cubes step) d a) (after_all (cubes step) e a)
after_same step [] d e same = same
after_same step (t ∷ a) d e same = after_same step a (λ q. turned t (d q)) (λ q. turned t (e q)) (λ q p. ap (turned t) (same q p))

-- what is reached from a cube is so from its map
pub along_same : StepsSeePlaces → (step : Step) (d e : Place → Place) → SameMap d e → (a : List Turn) → reached_along step d a ≡ reached_along step e a
unfolding reached_along
along_same see step d e same a =
    (λ i. list_any (λ k. (see (after_all (cubes step) d (take k a)) (after_all (cubes step) e (take k a)) (after_same step (take k a) d e same)).goal step i) (range_with_len 0 (length a)))

-- the same of the first turns, or all
pub row_same : StepsSeePlaces → (step : Step) (d e : Place → Place) → SameMap d e → (a : List Turn)
    → (reached_along step d a || reached step (after_all (cubes step) d a)) ≡ (reached_along step e a || reached step (after_all (cubes step) e a))
row_same see step d e same a =
    let along = along_same see step d e same a in
    let whole = (see (after_all (cubes step) d a) (after_all (cubes step) e a) (after_same step a d e same)).goal step in
    λ i. along i || whole i

pub all_effect : (step : Step) (f : Place → Place) (ts : List Turn) (q : Place) → effect_of_turns ts (f q) ≡ after_all (cubes step) f ts q
all_effect step f [] q = refl
all_effect step f (t ∷ ts) q = all_effect step (λ q. turned t (f q)) ts q

-- Do first turns reach the step that have j of those on the inverse, and any on the normal side?
module _ (step : Step) (e : Place → Place) (a b : List Turn) where
  abbrev pub row : ℕ → Bool
  row j = let f = after_all (inverse_side step) e (take j b) in reached_along step f a || reached step (after_all (cubes step) f a)

  abbrev reach : (j i : ℕ) → Bool
  reach j i = reaches step e (pair (take i a) (take j b))

  abbrev tested : (j i : ℕ) → Bool
  tested j i = nat_lt (i + j) (length a + length b) && reach j i

  test-less : (j i : ℕ) → i + j < length a + length b → tested j i ≡ reach j i
  test-less j i l = ap (λ t. t && reach j i) (lt-ltb (i + j) (length a + length b) l)

  all_normal : (j : ℕ) → reach j (length a) ≡ reached step (after_all (cubes step) (after_all (inverse_side step) e (take j b)) a)
  all_normal j = ap (λ ts. reached step (after_all (cubes step) (after_all (inverse_side step) e (take j b)) ts)) (take_all (length a) a (omega arith))

  row-is : (j : ℕ) → j < length b → list_any (tested j) (up_to (length a)) ≡ row j
  unfolding reached_along
  row-is j l =
      any_more (tested j) (length a)
      ∙ (λ k. any_same (tested j) (reach j) (length a) (λ i m. test-less j i (omega (arith, l, m))) k || (test-less j (length a) (omega (arith, l)) ∙ all_normal j) k)

  last-row : list_any (tested (length b)) (up_to (length a)) ≡ reached_along step (after_all (inverse_side step) e b) a
  unfolding reached_along
  last-row =
      let whole : take (length b) b ≡ b = take_all (length b) b (omega arith) in
      let none : tested (length b) (length a) ≡ false = ap (λ t. t && reach (length b) (length a)) (le-ltb (length a + length b) (length a + length b) (omega arith)) in
      any_more (tested (length b)) (length a)
      ∙ (λ k. any_same (tested (length b)) (reach (length b)) (length a) (λ i m. test-less (length b) i (omega (arith, m))) k || none k)
      ∙ or-false (list_any (reach (length b)) (range_with_len 0 (length a)))
      ∙ ap (λ ts. reached_along step (after_all (inverse_side step) e ts) a) whole

  -- so the pairs are gone through by the turns on the inverse
  pub begins-by_rows : begins_reached step e (pair a b) ≡ (list_any row (range_with_len 0 (length b)) || reached_along step (after_all (inverse_side step) e b) a)
  unfolding begins_reached
  begins-by_rows =
      any_more (λ j. list_any (tested j) (up_to (length a))) (length b)
      ∙ (λ k. any_same (λ j. list_any (tested j) (up_to (length a))) row (length b) row-is k || last-row k)
