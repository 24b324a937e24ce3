-- The order in which solutions are handed out: each comes after those before it. So those that come after one of them are
-- those that stand behind it.
use Rattle.niss_search.proofs.Words.{◌≡◌, arith, length, ◌+◌, ◌<◌, ℕ, ap, ◌∙◌, sym, ◌≤◌, [], List, refl, true, false, ◌∷◌, Bool, Turn}
use Rattle.niss_search.proofs.Words.{suc, zero, range_with_len, ◌++◌, flat_map, filter, get_or, subst, All, All-head, All-tail, All-append}
use Rattle.niss_search.proofs.Words.{All-nil, All-filter, All-weaker, eq-eqb, ne_eqb, lt-ltb, le-ltb, length-append, nat_lt, ◌&&◌, IsTrue}
use Rattle.niss_search.proofs.Words.{Space, reaching, all_canonical, turn_order, turns_of, Step, StepTurnsInOrder}
use Rattle.niss_search.proofs.Words.{turn_place, is_later, comes_after, sequences_of, least_length_of}
use Rattle.niss_search.proofs.Words.{last_length, cubes, all_looks}
use Rattle.niss_search.proofs.Words.{ap₂, All-cons}
use Rattle.std.specs.Prelude.{AllPairs}
use Rattle.std.proofs.lemmas.Bool.{ltb-true}
use Rattle.std.proofs.lemmas.List.{get_or_at}
use Rattle.niss_moves.proofs.CallerLemmas.{and_left, and_right}
use Rattle.std.proofs.lemmas.List.Kept.{AllPairs-cons, AllPairs-filter}
use Rattle.niss_moves.specs.Canonical.{DiffersFirst}
use Rattle.niss_search.specs.Laws.{AfterIsRest, SolutionsAreSequences}
use Rattle.niss_search.proofs.DeepeningLemmas.{solutions-up_to}
use Rattle.niss_search.proofs.LookLemmas.{filter-each}
use Rattle.niss_search.proofs.AfterLemmas.{canonical-length, filter-true}

-- what `niss_moves` says of the order of all canonical sequences of a length
abbrev pub CanonicalOrder : Type 0
CanonicalOrder =
    (comes_before : Turn → Turn → Bool) (turns : List Turn) (k : ℕ) → AllPairs (λ t u. IsTrue (comes_before t u)) turns
    → AllPairs (DiffersFirst comes_before) (all_canonical turns k)

-- Lists of which each element stands before all later ones.
module _ {X : Type 0} (Before : X → X → Type 0) where
  pub pairs-first : (x : X) (xs : List X) → AllPairs Before (x ∷ xs) → All (Before x) xs
  pairs-first x xs h k d lt = h 0 (suc k) d (omega arith) (omega (arith, lt))

  pub pairs-rest : (x : X) (xs : List X) → AllPairs Before (x ∷ xs) → AllPairs Before xs
  pairs-rest x xs h i j d le lt = h (suc i) (suc j) d (omega (arith, le)) (omega (arith, lt))

  pairs-none : AllPairs Before []
  pairs-none i j d le lt = absurd (omega (arith, lt))

  pairs-append : (P Q : X → Type 0) (xs ys : List X) → All P xs → All Q ys → AllPairs Before xs → AllPairs Before ys
      → ((x y : X) → P x → Q y → Before x y) → AllPairs Before (xs ++ ys)
  pairs-append P Q [] ys a b h k cross = k
  pairs-append P Q (x ∷ xs) ys a b h k cross =
      AllPairs-cons Before x (xs ++ ys)
      (All-append (Before x) xs ys (pairs-first x xs h) (All-weaker Q (Before x) (λ y q. cross x y (All-head P x xs a) q) ys b))
      (pairs-append P Q xs ys (All-tail P x xs a) b (pairs-rest x xs h) k cross)

-- Does a test pass for each element of a list, and for each with all later ones?
abbrev passes_all : {X : Type 0} → (X → Bool) → List X → Bool
passes_all test [] = true
passes_all test (x ∷ xs) = test x && passes_all test xs

abbrev passes_pairs : {X : Type 0} → (X → X → Bool) → List X → Bool
passes_pairs test [] = true
passes_pairs test (x ∷ xs) = passes_all (test x) xs && passes_pairs test xs

tested-all : {X : Type 0} (test : X → Bool) (xs : List X) → passes_all test xs ≡ true → All (λ x. IsTrue (test x)) xs
tested-all test [] h = All-nil (λ x. IsTrue (test x))
tested-all test (x ∷ xs) h =
    All-cons (λ x. IsTrue (test x)) x xs (and_left _ _ h) (tested-all test xs (and_right (test x) _ h))

tested-pairs : {X : Type 0} (test : X → X → Bool) (xs : List X) → passes_pairs test xs ≡ true → AllPairs (λ x y. IsTrue (test x y)) xs
tested-pairs test [] h = pairs-none (λ x y. IsTrue (test x y))
tested-pairs test (x ∷ xs) h =
    AllPairs-cons (λ x y. IsTrue (test x y)) x xs (tested-all (test x) xs (and_left _ _ h)) (tested-pairs test xs (and_right (passes_all (test x) xs) _ h))

-- one turn stands before another in turn order
abbrev pub comes_before : Turn → Turn → Bool
comes_before t u = nat_lt (turn_place t) (turn_place u)

pub turns-in_order : StepTurnsInOrder → (step : Step) → AllPairs (λ t u. IsTrue (comes_before t u)) (turns_of step)
turns-in_order in_order step =
    subst (λ (turns : List Turn). AllPairs (λ t u. IsTrue (comes_before t u)) turns) (sym (in_order step).1)
    (AllPairs-filter (λ t u. IsTrue (comes_before t u)) (in_order step).0 turn_order (tested-pairs comes_before turn_order refl))

-- One sequence stands before another.
abbrev Before : List Turn → List Turn → Type 0
Before a b = (comes_after a b ≡ true) × (comes_after b a ≡ false)

never-later : (p : List Turn) → is_later p p ≡ false
unfolding is_later
never-later [] = refl
never-later (t ∷ ts) = rw (eq-eqb (turn_place t) (turn_place t) refl) (never-later ts)

pub later-differs : (front : List Turn) (t u : Turn) (ts us : List Turn) → turn_place t < turn_place u
    → (is_later (front ++ t ∷ ts) (front ++ u ∷ us) ≡ true) × (is_later (front ++ u ∷ us) (front ++ t ∷ ts) ≡ false)
unfolding is_later
later-differs [] t u ts us h = (
  rw (ne_eqb (turn_place t) (turn_place u) (omega (arith, h)), lt-ltb (turn_place t) (turn_place u) h) refl,
  rw (ne_eqb (turn_place u) (turn_place t) (omega (arith, h)), le-ltb (turn_place u) (turn_place t) (omega (arith, h))) refl,
)
later-differs (v ∷ front) t u ts us h =
    let same = eq-eqb (turn_place v) (turn_place v) refl in
    let rest = later-differs front t u ts us h in
    (rw same rest.0, rw same rest.1)

before-differs : (a b : List Turn) → DiffersFirst comes_before a b → length a ≡ length b → Before a b
before-differs a b d same =
    let lt = ltb-true (turn_place d.left) (turn_place d.right) d.order in
    let differs = later-differs d.front d.left d.right d.after_left d.after_right lt in
    let one : is_later a b ≡ true = ap₂ is_later d.first_is d.second_is ∙ differs.0 in
    let other : is_later b a ≡ false = ap₂ is_later d.second_is d.first_is ∙ differs.1 in (
      rw (same, le-ltb (length b) (length b) (omega arith), eq-eqb (length b) (length b) refl) one,
      rw (same, le-ltb (length b) (length b) (omega arith), eq-eqb (length b) (length b) refl) other,
    )

before-longer : (a b : List Turn) → length a < length b → Before a b
before-longer a b h = (
  rw (lt-ltb (length a) (length b) h) refl,
  rw (le-ltb (length b) (length a) (omega (arith, h)), ne_eqb (length b) (length a) (omega (arith, h))) refl,
)

never-after : (p : List Turn) → comes_after p p ≡ false
never-after p = rw (le-ltb (length p) (length p) (omega arith), eq-eqb (length p) (length p) refl) (never-later p)

-- Behind an element stand those that come after it.
rest-is : (front rest : List (List Turn)) (p : List Turn) → AllPairs Before (front ++ p ∷ rest) → filter (comes_after p) (front ++ p ∷ rest) ≡ rest
rest-is [] rest p h =
    rw (never-after p)
    (filter-each (Before p) (comes_after p) (λ q. true) rest (λ q b. b.0) (pairs-first Before p rest h) ∙ filter-true rest)
rest-is (q ∷ front) rest p h =
    let all = pairs-first Before q (front ++ p ∷ rest) h in
    let inside : length front < length (front ++ p ∷ rest) = omega (arith, length-append front (p ∷ rest)) in
    let before : Before q p = subst (Before q) (get_or_at front p rest p (length front) refl) (all (length front) p inside) in
    rw before.1 (rest-is front rest p (pairs-rest Before q (front ++ p ∷ rest) h))

module _ {turns : List Turn} (order : AllPairs (λ t u. IsTrue (comes_before t u)) turns) (canonical : CanonicalOrder) {S : Type 0} (space : Space turns S) (start : S) where
  abbrev each : ℕ → List (List Turn)
  each = reaching space start

  each-long : (k : ℕ) → All (λ q. length q ≡ k) (each k)
  each-long k = All-filter _ (λ q. length q ≡ k) (all_canonical turns k) (canonical-length turns k)

  each-in_order : (k : ℕ) → AllPairs Before (each k)
  each-in_order k =
      AllPairs-filter Before _ (all_canonical turns k) (λ i j d lt inside.
      before-differs (get_or (all_canonical turns k) i d) (get_or (all_canonical turns k) j d) (canonical comes_before turns k order i j d lt inside)
      (canonical-length turns k i d (omega (arith, lt, inside)) ∙ sym (canonical-length turns k j d inside)))

  all-long : (a m : ℕ) → All (λ q. a ≤ length q) (flat_map each (range_with_len a m))
  all-long a zero = All-nil (λ q. a ≤ length q)
  all-long a (suc m) =
      All-append (λ q. a ≤ length q) (each a) (flat_map each (range_with_len (a + 1) m))
      (All-weaker (λ q. length q ≡ a) (λ q. a ≤ length q) (λ q e. omega (arith, e)) (each a) (each-long a))
      (All-weaker (λ q. a + 1 ≤ length q) (λ q. a ≤ length q) (λ q e. omega (arith, e)) (flat_map each (range_with_len (a + 1) m)) (all-long (a + 1) m))

  all-in_order : (a m : ℕ) → AllPairs Before (flat_map each (range_with_len a m))
  all-in_order a zero = pairs-none Before
  all-in_order a (suc m) =
      pairs-append Before (λ q. length q ≡ a) (λ q. a + 1 ≤ length q) (each a) (flat_map each (range_with_len (a + 1) m))
      (each-long a) (all-long (a + 1) m) (each-in_order a) (all-in_order (a + 1) m)
      (λ p q e l. before-longer p q (omega (arith, e, l)))

pub solutions_are_sequences : SolutionsAreSequences
unfolding all_looks
solutions_are_sequences = record {
  listed = λ step e n slack. solutions-up_to (cubes step) e n slack;
  looked = λ step e n slack. refl;
}

pub after_is_rest : StepTurnsInOrder → CanonicalOrder → AfterIsRest
after_is_rest in_order canonical step e n slack front rest p h =
    let last = last_length (least_length_of step e n) n slack in
    let whole : sequences_of step e last ≡ front ++ p ∷ rest = sym (solutions_are_sequences.listed step e n slack) ∙ h in
    let ordered = all-in_order (turns-in_order in_order step) canonical (cubes step) e 0 (last + 1) in
    ap (filter (comes_after p)) whole
    ∙ rest-is front rest p (subst (AllPairs Before) whole ordered)
