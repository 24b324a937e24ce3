-- Lists joined, filtered and summed.
use Rattle.niss_search.proofs.Words.{◌≡◌, arith, length, ◌+◌, ◌<◌, ℕ, ap, ◌∙◌, sym, ◌≤◌, [], List, refl, ◌-◌, ◌∷◌, Bool, suc}
use Rattle.niss_search.proofs.Words.{range_with_len, ◌++◌, zero, map, Contains, flat_map, filter, sum_by, sum_by-cons, sum_by-le, list_any}
use Rattle.niss_search.proofs.Words.{nat_le, nat_tests, flat_map-append, sum_by-append, Contains-get_or, add-one, Contains-append_right}
use Rattle.niss_search.proofs.Words.{add-zero, filter-append, sum_by_push, length-range_with_len, append-nil, take, take_at, length-append}
use Rattle.std.proofs.lemmas.List.FromFn.{get_or-range_with_len}

module _ {X : Type 0} where
  pub Contains-first : (x : X) (xs : List X) → Contains (x ∷ xs) x
  Contains-first x xs = Contains-get_or (x ∷ xs) 0 x (omega arith)

  pub Contains-later : (x : X) (xs : List X) (y : X) → Contains xs y → Contains (x ∷ xs) y
  Contains-later x xs y h = Contains-append_right (x ∷ []) xs y h

pub sum_by-none : {X : Type 0} (f : X → ℕ) (xs : List X) → ((x : X) → Contains xs x → f x ≡ 0) → sum_by f xs ≡ 0
sum_by-none f xs h = omega (arith, sum_by-le f 0 xs (λ k d l. omega (arith, h _ (Contains-get_or xs k d l))))

module _ {X A : Type 0} where
  pub flat_map-none : (f : X → List A) (xs : List X) → ((x : X) → Contains xs x → f x ≡ []) → flat_map f xs ≡ []
  flat_map-none f [] h = refl
  flat_map-none f (x ∷ xs) h =
      rw (h x (Contains-first x xs), flat_map-none f xs (λ y m. h y (Contains-later x xs y m)))

  pub filter-flat_map : (p : A → Bool) (f : X → List A) (xs : List X) → filter p (flat_map f xs) ≡ flat_map (λ x. filter p (f x)) xs
  filter-flat_map p f [] = refl
  filter-flat_map p f (x ∷ xs) = rw (filter-append p (f x) (flat_map f xs), filter-flat_map p f xs)

  pub sum_by-flat_map : (g : A → ℕ) (f : X → List A) (xs : List X) → sum_by g (flat_map f xs) ≡ sum_by (λ x. sum_by g (f x)) xs
  sum_by-flat_map g f [] = refl
  sum_by-flat_map g f (x ∷ xs) =
      sum_by-append g (f x) (flat_map f xs) ∙ ap (λ n. sum_by g (f x) + n) (sum_by-flat_map g f xs) ∙ sym (sum_by-cons (λ y. sum_by g (f y)) x xs)

module _ {X Y A : Type 0} where
  pub flat_map-flat_map : (g : Y → List A) (f : X → List Y) (xs : List X) → flat_map g (flat_map f xs) ≡ flat_map (λ x. flat_map g (f x)) xs
  flat_map-flat_map g f [] = refl
  flat_map-flat_map g f (x ∷ xs) = rw (flat_map-append g (f x) (flat_map f xs), flat_map-flat_map g f xs)

module _ {X Y : Type 0} where
  pub sum_by-map : (g : Y → ℕ) (h : X → Y) (xs : List X) → sum_by g (map h xs) ≡ sum_by (λ x. g (h x)) xs
  sum_by-map g h [] = refl
  sum_by-map g h (x ∷ xs) =
      omega (arith, sum_by-cons g (h x) (map h xs), sum_by-cons (λ y. g (h y)) x xs, sum_by-map g h xs)

  -- two sums may be taken in either order
  pub sum_by-swap : (f : X → Y → ℕ) (xs : List X) (ys : List Y) → sum_by (λ x. sum_by (f x) ys) xs ≡ sum_by (λ y. sum_by (λ x. f x y) xs) ys
  sum_by-swap f [] ys = sym (sum_by-none (λ y. 0) ys (λ y m. refl))
  sum_by-swap f (x ∷ xs) ys = sum_by-cons (λ z. sum_by (f z) ys) x xs ∙ ap (λ n. sum_by (f x) ys + n) (sum_by-swap f xs ys) ∙ both ys where
    both : (zs : List Y) → sum_by (f x) zs + sum_by (λ y. sum_by (λ z. f z y) xs) zs ≡ sum_by (λ y. sum_by (λ z. f z y) (x ∷ xs)) zs
    both [] = refl
    both (z ∷ zs) =
        let here = sum_by-cons (λ w. f w z) x xs in
        omega (arith, both zs, here, sum_by-cons (f x) z zs, sum_by-cons (λ y. sum_by (λ w. f w y) xs) z zs, sum_by-cons (λ y. sum_by (λ w. f w y) (x ∷ xs)) z zs)

module _ {X : Type 0} where
  pub sum_by-same : (f g : X → ℕ) (xs : List X) → ((x : X) → f x ≡ g x) → sum_by f xs ≡ sum_by g xs
  sum_by-same f g xs h = ap (λ (k : X → ℕ). sum_by k xs) (λ i x. h x i)

  -- some element passes exactly where the filtered list is not empty
  pub list_any-filter : (p : X → Bool) (xs : List X) → list_any p xs ≡ nat_le 1 (length (filter p xs))
  list_any-filter p [] = refl
  list_any-filter p (x ∷ xs) = grind (arith, nat_tests, list_any-filter p xs)

pub sum_by-shift : (f : ℕ → ℕ) (a n : ℕ) → sum_by f (range_with_len (a + 1) n) ≡ sum_by (λ j. f (suc j)) (range_with_len a n)
sum_by-shift f a zero = refl
sum_by-shift f a (suc n) =
    omega (arith, sum_by-cons f (a + 1) (range_with_len (a + 1 + 1) n), sum_by-cons (λ j. f (suc j)) a (range_with_len (a + 1) n), sum_by-shift f (a + 1) n, ap f (add-one a))

pub sum_by-one : {X : Type 0} (f : X → ℕ) (x : X) → sum_by f (x ∷ []) ≡ f x
sum_by-one f x = omega (arith, sum_by-cons f x [])

-- the numbers of a range
pub in-range : (a n j : ℕ) → Contains (range_with_len a n) j → j < a + n
in-range a n j m =
    omega (arith, m.1, m.2, length-range_with_len a n, get_or-range_with_len a n m.0 j (omega (arith, m.1, length-range_with_len a n)))

pub range_with_len-append : (a m n : ℕ) → range_with_len a (m + n) ≡ range_with_len a m ++ range_with_len (a + m) n
range_with_len-append a zero n =
    let e : zero + n ≡ n = omega arith in
    rw (e, add-zero a) refl
range_with_len-append a (suc m) n =
    let e : suc m + n ≡ suc (m + n) = omega arith in
    let next : a + 1 + m ≡ a + suc m = omega arith in
    ap (range_with_len a) e
    ∙ ap (λ (l : List ℕ). a ∷ l) (range_with_len-append (a + 1) m n ∙ ap (λ k. range_with_len (a + 1) m ++ range_with_len k n) next)

-- the numbers below m, and then those from m on
pub range-split : (m n : ℕ) → m ≤ n → range_with_len 0 n ≡ range_with_len 0 m ++ range_with_len m (n - m)
range-split m n h =
    let parts : n ≡ m + (n - m) = omega arith in
    let start : 0 + m ≡ m = omega arith in
    ap (range_with_len 0) parts
    ∙ range_with_len-append 0 m (n - m)
    ∙ ap (λ k. range_with_len 0 m ++ range_with_len k (n - m)) start

-- one number more, also in a sum
pub range-push : (d : ℕ) → range_with_len 0 (d + 1) ≡ range_with_len 0 d ++ d ∷ []
range-push d =
    let last : 0 + d ≡ d = omega arith in
    range_with_len-append 0 d 1 ∙ ap (λ k. range_with_len 0 d ++ k ∷ []) last

pub sum_by-range_more : (f : ℕ → ℕ) (n : ℕ) → sum_by f (range_with_len 0 (n + 1)) ≡ sum_by f (range_with_len 0 n) + f n
sum_by-range_more f n = rw (range-push n) (sum_by_push f (range_with_len 0 n) n)

pub flat_map-range_more : {A : Type 0} (f : ℕ → List A) (n : ℕ) → flat_map f (range_with_len 0 (n + 1)) ≡ flat_map f (range_with_len 0 n) ++ f n
flat_map-range_more f n =
    ap (flat_map f) (range-push n)
    ∙ flat_map-append f (range_with_len 0 n) (n ∷ [])
    ∙ ap (λ ys. flat_map f (range_with_len 0 n) ++ ys) (append-nil (f n))

-- what stands before the last element
pub before-last : {X : Type 0} (xs ys : List X) (x y : X) → xs ++ x ∷ [] ≡ ys ++ y ∷ [] → ys ≡ xs
before-last xs ys x y e =
    let size : length ys ≡ length xs = omega (arith, ap length e, length-append xs (x ∷ []), length-append ys (y ∷ [])) in
    sym (take_at ys (y ∷ []) (length xs) size) ∙ ap (take (length xs)) (sym e) ∙ take_at xs (x ∷ []) (length xs) refl
