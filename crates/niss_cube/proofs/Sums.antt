-- Sums over the numbers below a bound, over the places of a permutation, and a number that stands once in a list.
use Rattle.std.proofs.lemmas.Bool.{ne_eqb}
use Rattle.niss_cube.proofs.Words.{sum_by-cons, eqb_tells, length, get_or, eq-eqb, sum_by, arith, false, refl, zero}
use Rattle.niss_cube.proofs.Words.{List, Bool, true, ◌==◌, cond, sym, ◌∙◌, inl, inr, ◌≡◌, suc, ◌+◌, ◌*◌, ◌<◌, ◌≤◌, ◌∷◌}
use Rattle.niss_cube.proofs.Words.{ap, [], ℕ, count_by, index_in}

abbrev pub below : ℕ → (ℕ → ℕ) → ℕ
below zero f = 0
below (suc n) f = below n f + f n

abbrev pub one_if : Bool → ℕ
one_if b = cond b 1 0

pub below_same : (n : ℕ) (f g : ℕ → ℕ) → ((k : ℕ) → k < n → f k ≡ g k) → below n f ≡ below n g
below_same zero f g h = refl
below_same (suc n) f g h = omega (arith, below_same n f g (λ k l. h k (omega arith)), h n (omega arith))

pub below_zero : (n : ℕ) → below n (λ _. 0) ≡ 0
below_zero zero = refl
below_zero (suc n) = omega (arith, below_zero n)

pub below_add : (n : ℕ) (f g : ℕ → ℕ) → below n (λ k. f k + g k) ≡ below n f + below n g
below_add zero f g = refl
below_add (suc n) f g = omega (arith, below_add n f g)

-- the order of two sums can be changed
pub below_swap : (n m : ℕ) (f : ℕ → ℕ → ℕ) → below n (λ i. below m (λ j. f i j)) ≡ below m (λ j. below n (λ i. f i j))
below_swap zero m f = sym (below_zero m)
below_swap (suc n) m f =
    ap (λ x. x + below m (λ j. f n j)) (below_swap n m f)
    ∙ sym (below_add m (λ j. below n (λ i. f i j)) (λ j. f n j))

pub below_times : (n : ℕ) (f : ℕ → ℕ) (c : ℕ) → below n (λ k. f k * c) ≡ below n f * c
below_times zero f c = omega arith
below_times (suc n) f c = grind (arith, below_times n f c)

pub eqb-itself : (x : ℕ) → (x == x) ≡ true
eqb-itself x = eq-eqb x x refl

pub one_above : (n x : ℕ) (f : ℕ → ℕ) → n ≤ x → below n (λ h. one_if (x == h) * f h) ≡ 0
one_above zero x f l = refl
one_above (suc n) x f l =
    rw (ne_eqb x n (λ q. omega arith), one_above n x f (omega arith)) (omega arith)

-- the one term of a sum that a test picks
pub one_of : (n x : ℕ) (f : ℕ → ℕ) → x < n → below n (λ h. one_if (x == h) * f h) ≡ f x
one_of zero x f l = absurd (omega arith)
one_of (suc n) x f l = elim (eqb_tells x n) [
  | inl w ↦ rw (w.0, one_above n x f (omega (arith, w.1))) (omega (arith, ap f w.1))
  | inr w ↦ rw (w.0, one_of n x f (grind (arith, w.1))) (omega arith)
]

-- What each number below n is taken by once, sums as these numbers do.
pub below_permuted : (n : ℕ) (home f : ℕ → ℕ) → ((k : ℕ) → k < n → home k < n) → ((h : ℕ) → h < n → below n (λ k. one_if (home k == h)) ≡ 1) → below n (λ k. f (home k)) ≡ below n f
below_permuted n home f small once =
    below_same n (λ k. f (home k)) (λ k. below n (λ h. one_if (home k == h) * f h)) (λ k l. sym (one_of n (home k) f (small k l)))
    ∙ below_swap n n (λ k h. one_if (home k == h) * f h)
    ∙ below_same n (λ h. below n (λ k. one_if (home k == h) * f h)) f
    (λ h l.
    below_times n (λ k. one_if (home k == h)) (f h) ∙ rw (once h l) (omega arith))

pub below_front : (n : ℕ) (f : ℕ → ℕ) → below (suc n) f ≡ f 0 + below n (λ k. f (suc k))
below_front zero f = omega arith
below_front (suc n) f = omega (arith, below_front n f)

-- a sum over a list, by its places
pub sum_by-below : {A : Type 0} (f : A → ℕ) (d : A) (xs : List A) → sum_by f xs ≡ below (length xs) (λ k. f (get_or xs k d))
sum_by-below f d [] = refl
sum_by-below f d (x ∷ xs) =
    sum_by-cons f x xs ∙ ap (λ n. f x + n) (sum_by-below f d xs) ∙ sym (below_front (length xs) (λ k. f (get_or (x ∷ xs) k d)))

pub below_at_most : (n : ℕ) (f g : ℕ → ℕ) → ((k : ℕ) → k < n → f k ≤ g k) → below n f ≤ below n g
below_at_most zero f g h = omega arith
below_at_most (suc n) f g h =
    omega (arith, below_at_most n f g (λ k l. h k (omega arith)), h n (omega arith))

-- terms that are at most others, and sum as these do, are these
pub below_all_same : (n : ℕ) (f g : ℕ → ℕ) → ((k : ℕ) → k < n → f k ≤ g k) → below n f ≡ below n g → (k : ℕ) → k < n → f k ≡ g k
below_all_same zero f g h e k l = absurd (omega arith)
below_all_same (suc n) f g h e k l =
    let r : below n f ≤ below n g = below_at_most n f g (λ k l. h k (omega arith)) in
    let last : f n ≤ g n = h n (omega arith) in
    elim (eqb_tells k n) [
      | inl w ↦ let same : f n ≡ g n = omega arith in ap f w.1 ∙ same ∙ sym (ap g w.1)
      | inr w ↦ below_all_same n f g (λ k l. h k (omega arith)) (omega arith) k (grind (arith, w.1))
    ]

pub one_if-at_most : (a b : Bool) → (a ≡ true → b ≡ true) → one_if a ≤ one_if b
one_if-at_most true b h = rw (h refl) (omega arith)
one_if-at_most false b h = omega arith

pub one_if-same : (a b : Bool) → one_if a ≡ one_if b → a ≡ b
one_if-same true true h = refl
one_if-same false false h = refl
one_if-same _ _ h = absurd (omega arith)

-- how often h stands in xs, by the places
abbrev pub times_in : List ℕ → ℕ → ℕ
times_in xs h = below (length xs) (λ k. one_if (get_or xs k 0 == h))

pub count_by-times : (xs : List ℕ) (h : ℕ) → count_by (λ x. x == h) xs ≡ times_in xs h
count_by-times xs h = sum_by-below (λ x. one_if (x == h)) 0 xs

-- the place of h
abbrev pub place_in : List ℕ → ℕ → ℕ
place_in xs h = index_in (λ x. x == h) xs

below_at_least : (n : ℕ) (f : ℕ → ℕ) (k : ℕ) → k < n → f k ≤ below n f
below_at_least zero f k l = absurd (omega arith)
below_at_least (suc n) f k l = elim (eqb_tells k n) [
  | inl w ↦ let e : f k ≡ f n = ap f w.1 in omega arith
  | inr w ↦ let a : f k ≤ below n f = below_at_least n f k (grind (arith, w.1)) in omega arith
]

-- a number that stands in a list stands at its place
pub place_in-found : (xs : List ℕ) (h : ℕ) → 1 ≤ times_in xs h → (place_in xs h < length xs) × (get_or xs (place_in xs h) 0 ≡ h)
place_in-found [] h l = absurd (omega arith)
place_in-found (x ∷ xs) h l =
    let front : times_in (x ∷ xs) h ≡ one_if (x == h) + times_in xs h = below_front (length xs) (λ k. one_if (get_or (x ∷ xs) k 0 == h)) in
    elim (eqb_tells x h) [
      | inl w ↦ rw w.0 (omega arith, w.1)
      | inr w ↦
          let e : one_if (x == h) ≡ 0 = ap one_if w.0 in
          let r : (place_in xs h < length xs) × (get_or xs (place_in xs h) 0 ≡ h) = place_in-found xs h (omega arith) in
          rw w.0 (omega arith, r.1)
    ]

-- a place at which h stands is its place, where it stands once
pub place_in-is : (xs : List ℕ) (h n : ℕ) → times_in xs h ≡ 1 → n < length xs → get_or xs n 0 ≡ h → place_in xs h ≡ n
place_in-is [] h n one l e = absurd (omega arith)
place_in-is (x ∷ xs) h zero one l e = rw (eq-eqb x h e) refl
place_in-is (x ∷ xs) h (suc n) one l e =
    let front : times_in (x ∷ xs) h ≡ one_if (x == h) + times_in xs h = below_front (length xs) (λ k. one_if (get_or (x ∷ xs) k 0 == h)) in
    let there : one_if (get_or xs n 0 == h) ≡ 1 = ap one_if (eq-eqb (get_or xs n 0) h e) in
    let some : one_if (get_or xs n 0 == h) ≤ times_in xs h = below_at_least (length xs) (λ k. one_if (get_or xs k 0 == h)) n (omega arith) in
    elim (eqb_tells x h) [
      | inl w ↦ let here : one_if (x == h) ≡ 1 = ap one_if w.0 in absurd (omega arith)
      | inr w ↦ let here : one_if (x == h) ≡ 0 = ap one_if w.0 in rw w.0 (ap suc (place_in-is xs h n (omega arith) (omega arith) e))
    ]
