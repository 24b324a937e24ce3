-- One more among some in order: the later ones move back one place each, and leave a free place before them.
use Rattle.std.proofs.Common.{◌≡◌, ◌≢◌, ◌⊎◌, inl, inr, ℕ, suc, ◌+◌, ◌-◌, ◌<◌, ◌≤◌, List, length, refl, sym, ◌∙◌, subst, ap, arith}
use Rattle.std.specs.Prelude.{get_or, slice_set}
use Rattle.std.proofs.lemmas.List.{get_or-set_same, get_or-set_other}

-- two numbers are equal or not
same_or_not : (i k : ℕ) → (i ≡ k) ⊎ (i ≢ k)
same_or_not i k = grind arith

module _ {X : Type 0} (f : X → ℕ) where
  abbrev pub Sorted : ℕ → List X → Type 0
  Sorted n xs = (i j : ℕ) (d : X) → i < j → j < n → f (get_or xs i d) ≤ f (get_or xs j d)

  -- Of n and one places one is free. In the others stand the first n of a list, those behind the free one have more
  -- than r.
  pub record Open (old : List X) (n r at : ℕ) (xs : List X) : Type 0 where
    pub from : (k : ℕ) (d : X) → k < n + 1 → k ≢ at → (j : ℕ) × (j < n) × (get_or xs k d ≡ get_or old j d)
    pub sorted : Sorted n old → (i j : ℕ) (d : X) → i < j → j < n + 1 → i ≢ at → j ≢ at → f (get_or xs i d) ≤ f (get_or xs j d)
    pub above : (j : ℕ) (d : X) → at < j → j < n + 1 → r < f (get_or xs j d)
    pub stay : (j : ℕ) (d : X) → j < n → (k : ℕ) × (k < n + 1) × (k ≢ at) × (get_or xs k d ≡ get_or old j d)
    -- those before the free one stand where they stood, and the others one place further
    pub before : (k : ℕ) (d : X) → k < at → get_or xs k d ≡ get_or old k d
    pub behind : (k : ℕ) (d : X) → at ≤ k → k < n → get_or xs (suc k) d ≡ get_or old k d

  pub begun : (old : List X) (n r : ℕ) → Open old n r n old
  begun old n r = record {
    from = λ k d lt ne. (k, (omega arith), refl);
    sorted = λ h i j d ij jn ni nj. h i j d ij (omega arith);
    above = λ j d lt jn. absurd (omega arith);
    stay = λ j d lt. (j, (omega arith), (λ e. absurd (omega arith)), refl);
    before = λ k d lt. refl;
    behind = λ k d le lt. absurd (omega arith);
  }

  module _ (old : List X) (n r at : ℕ) (xs : List X) (x : X) (o : Open old n r (suc at) xs)
      (room : suc at < length xs) (is : (d : X) → get_or xs at d ≡ x) (more : r < f x) where
    abbrev now : List X
    now = slice_set xs (suc at) x

    here_now : (d : X) → get_or now (suc at) d ≡ x
    here_now d = get_or-set_same xs (suc at) x d room

    other_now : (k : ℕ) (d : X) → k ≢ suc at → get_or now k d ≡ get_or xs k d
    other_now k d ne = get_or-set_other xs (suc at) k x d ne

    -- where each came from in the list before: the one in the place that was free from the place before it
    pub shifted : suc at < n + 1 → Open old n r at now
    shifted lt = record {
      from = λ k d kn ne. from_at k d kn ne (same_or_not k (suc at));
      sorted = λ h i j d ij jn ni nj. sorted_at h i j d ij jn ni nj (same_or_not i (suc at)) (same_or_not j (suc at));
      above = λ j d jt jn. above_at j d jt jn (same_or_not j (suc at));
      stay = λ j d jn. let w = o.stay j d jn in stay_at j d w.0 w.1 w.2 w.3 (same_or_not w.0 at);
      before = λ k d less. other_now k d (λ e. absurd (omega arith)) ∙ o.before k d (omega arith);
      behind = λ k d le kn. behind_at k d le kn (same_or_not k at);
    } where
      behind_at : (k : ℕ) (d : X) → at ≤ k → k < n → (k ≡ at) ⊎ (k ≢ at) → get_or now (suc k) d ≡ get_or old k d
      behind_at k d le kn (inl e) =
          ap (λ (m : ℕ). get_or now (suc m) d) e ∙ here_now d ∙ sym (is d) ∙ o.before at d (omega arith) ∙ sym (ap (λ (m : ℕ). get_or old m d) e)
      behind_at k d le kn (inr ne) = other_now (suc k) d (λ e. absurd (omega arith)) ∙ o.behind k d (omega arith) kn

      stay_at : (j : ℕ) (d : X) (k : ℕ) → k < n + 1 → k ≢ suc at → get_or xs k d ≡ get_or old j d → (k ≡ at) ⊎ (k ≢ at)
          → (m : ℕ) × (m < n + 1) × (m ≢ at) × (get_or now m d ≡ get_or old j d)
      stay_at j d k kn ne same (inl e) =
          (suc at, lt, (λ q. absurd (omega arith)), here_now d ∙ sym (is d) ∙ sym (ap (λ (m : ℕ). get_or xs m d) e) ∙ same)
      stay_at j d k kn ne same (inr e) = (k, kn, e, other_now k d ne ∙ same)

      from_at : (k : ℕ) (d : X) → k < n + 1 → k ≢ at → (k ≡ suc at) ⊎ (k ≢ suc at) → (j : ℕ) × (j < n) × (get_or now k d ≡ get_or old j d)
      from_at k d kn ne (inl e) = let w = o.from at d (omega arith) (omega arith) in
          (w.0, w.1, ap (λ (m : ℕ). get_or now m d) e ∙ here_now d ∙ sym (is d) ∙ w.2)
      from_at k d kn ne (inr e) = let w = o.from k d kn e in (w.0, w.1, other_now k d e ∙ w.2)

      sorted_at : Sorted n old → (i j : ℕ) (d : X) → i < j → j < n + 1 → i ≢ at → j ≢ at → (i ≡ suc at) ⊎ (i ≢ suc at) → (j ≡ suc at) ⊎ (j ≢ suc at)
          → f (get_or now i d) ≤ f (get_or now j d)
      sorted_at h i j d ij jn ni nj (inl e) (inl k) = absurd (omega arith)
      sorted_at h i j d ij jn ni nj (inl e) (inr k) =
          let first : f (get_or now i d) ≡ f (get_or xs at d) = ap f (ap (λ (m : ℕ). get_or now m d) e ∙ here_now d ∙ sym (is d)) in
          let second : f (get_or now j d) ≡ f (get_or xs j d) = ap f (other_now j d k) in
          let le : f (get_or xs at d) ≤ f (get_or xs j d) = o.sorted h at j d (omega arith) jn (omega arith) k in
          omega arith
      sorted_at h i j d ij jn ni nj (inr e) (inl k) =
          let first : f (get_or now i d) ≡ f (get_or xs i d) = ap f (other_now i d e) in
          let second : f (get_or now j d) ≡ f (get_or xs at d) = ap f (ap (λ (m : ℕ). get_or now m d) k ∙ here_now d ∙ sym (is d)) in
          let le : f (get_or xs i d) ≤ f (get_or xs at d) = o.sorted h i at d (omega arith) (omega arith) e (omega arith) in
          omega arith
      sorted_at h i j d ij jn ni nj (inr e) (inr k) =
          let first : f (get_or now i d) ≡ f (get_or xs i d) = ap f (other_now i d e) in
          let second : f (get_or now j d) ≡ f (get_or xs j d) = ap f (other_now j d k) in
          let le : f (get_or xs i d) ≤ f (get_or xs j d) = o.sorted h i j d ij jn e k in
          omega arith

      above_at : (j : ℕ) (d : X) → at < j → j < n + 1 → (j ≡ suc at) ⊎ (j ≢ suc at) → r < f (get_or now j d)
      above_at j d jt jn (inl e) =
          let is_x : f (get_or now j d) ≡ f x = ap f (ap (λ (m : ℕ). get_or now m d) e ∙ here_now d) in omega arith
      above_at j d jt jn (inr e) =
          let same : f (get_or now j d) ≡ f (get_or xs j d) = ap f (other_now j d e) in
          let gt : r < f (get_or xs j d) = o.above j d (omega arith) jn in omega arith

  module _ (old : List X) (n r at : ℕ) (xs : List X) (w : X) (o : Open old n r at xs) (room : at < length xs) (is : r ≡ f w) where
    abbrev filled : List X
    filled = slice_set xs at w

    pub here_filled : (d : X) → get_or filled at d ≡ w
    here_filled d = get_or-set_same xs at w d room

    other_filled : (k : ℕ) (d : X) → k ≢ at → get_or filled k d ≡ get_or xs k d
    other_filled k d ne = get_or-set_other xs at k w d ne

    -- the one more stands in the free place at last
    pub closed_from : (k : ℕ) (d : X) → k < n + 1 → (get_or filled k d ≡ w) ⊎ ((j : ℕ) × (j < n) × (get_or filled k d ≡ get_or old j d))
    closed_from k d kn = by_place (same_or_not k at) where
      by_place : (k ≡ at) ⊎ (k ≢ at) → (get_or filled k d ≡ w) ⊎ ((j : ℕ) × (j < n) × (get_or filled k d ≡ get_or old j d))
      by_place (inl e) = inl (ap (λ (m : ℕ). get_or filled m d) e ∙ here_filled d)
      by_place (inr e) = let v = o.from k d kn e in inr (v.0, v.1, other_filled k d e ∙ v.2)

    pub closed_stay : (j : ℕ) (d : X) → j < n → (k : ℕ) × (k < n + 1) × (get_or filled k d ≡ get_or old j d)
    closed_stay j d jn = let v = o.stay j d jn in (v.0, v.1, other_filled v.0 d v.2 ∙ v.3)

    pub closed_before : (k : ℕ) (d : X) → k < at → get_or filled k d ≡ get_or old k d
    closed_before k d lt = other_filled k d (λ e. absurd (omega arith)) ∙ o.before k d lt

    pub closed_behind : (k : ℕ) (d : X) → at ≤ k → k < n → get_or filled (suc k) d ≡ get_or old k d
    closed_behind k d le kn = other_filled (suc k) d (λ e. absurd (omega arith)) ∙ o.behind k d le kn

    pub closed_after : (k : ℕ) (d : X) → at ≤ k → k < n → f w < f (get_or old k d)
    closed_after k d le kn =
        let same : f (get_or xs (suc k) d) ≡ f (get_or old k d) = ap f (o.behind k d le kn) in
        let gt : r < f (get_or xs (suc k) d) = o.above (suc k) d (omega arith) (omega arith) in omega arith

    pub closed_sorted : ((d : X) → 0 < at → f (get_or xs (at - 1) d) ≤ f w) → Sorted n old → Sorted (n + 1) filled
    closed_sorted end h i j d ij jn = by_places (same_or_not i at) (same_or_not j at) where
      before_at : (i : ℕ) → i < at → (i ≡ at - 1) ⊎ (i ≢ at - 1) → at < n + 1 → f (get_or xs i d) ≤ f w
      before_at i lt (inl e) an = subst (λ (m : ℕ). f (get_or xs m d) ≤ f w) (sym e) (end d (omega arith))
      before_at i lt (inr e) an =
          let le : f (get_or xs i d) ≤ f (get_or xs (at - 1) d) = o.sorted h i (at - 1) d (omega arith) (omega arith) (omega arith) (omega arith) in
          let last : f (get_or xs (at - 1) d) ≤ f w = end d (omega arith) in omega arith

      by_places : (i ≡ at) ⊎ (i ≢ at) → (j ≡ at) ⊎ (j ≢ at) → f (get_or filled i d) ≤ f (get_or filled j d)
      by_places (inl e) (inl k) = absurd (omega arith)
      by_places (inl e) (inr k) =
          let first : f (get_or filled i d) ≡ f w = ap f (ap (λ (m : ℕ). get_or filled m d) e ∙ here_filled d) in
          let second : f (get_or filled j d) ≡ f (get_or xs j d) = ap f (other_filled j d k) in
          let gt : r < f (get_or xs j d) = o.above j d (omega arith) jn in omega arith
      by_places (inr e) (inl k) =
          let first : f (get_or filled i d) ≡ f (get_or xs i d) = ap f (other_filled i d e) in
          let second : f (get_or filled j d) ≡ f w = ap f (ap (λ (m : ℕ). get_or filled m d) k ∙ here_filled d) in
          let le : f (get_or xs i d) ≤ f w = before_at i (omega arith) (same_or_not i (at - 1)) (omega arith) in omega arith
      by_places (inr e) (inr k) =
          let first : f (get_or filled i d) ≡ f (get_or xs i d) = ap f (other_filled i d e) in
          let second : f (get_or filled j d) ≡ f (get_or xs j d) = ap f (other_filled j d k) in
          let le : f (get_or xs i d) ≤ f (get_or xs j d) = o.sorted h i j d ij jn e k in omega arith
