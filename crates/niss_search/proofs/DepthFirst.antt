-- With any consistent heuristic that is 0 only at the goal, depth-first search finds exactly the solutions that the
-- definition lists, and looks exactly where the definition of looks says.
use Rattle.niss_search.proofs.Words.{◌≡◌, arith, length, ◌+◌, ◌<◌, ℕ, ap, ◌∙◌, sym, ◌≤◌, [], List, refl, true, ◌-◌, ◌∷◌, Bool, Turn, false}
use Rattle.niss_search.proofs.Words.{suc, cond, subst, reaching, range_with_len, ◌++◌, zero, may_follow, Contains, flat_map, last_turn, count_by, filter}
use Rattle.niss_search.proofs.Words.{leb, sum_by, sum_by-cons, nat_le, looks, all_canonical, canonical_extensions, le-leb, lt-leb, add-one}
use Rattle.niss_search.proofs.Words.{up_to, is_looked_at, Space, after_all, All-contains, All-contains_itself, All-filter, leb-true, Part}
use Rattle.niss_search.proofs.Words.{beyond, length-append, only_looks, then_part, for_each, fold-append, leb-false, take_at, append-nil}
use Rattle.niss_search.proofs.Words.{GoalCoordinates, positions, distance_at, Step, below_at, beyond_at, deepening, below}
use Rattle.niss_search.proofs.ListLemmas.{flat_map-none, filter-flat_map, sum_by-flat_map, flat_map-flat_map, sum_by-map, sum_by-swap}
use Rattle.niss_search.proofs.ListLemmas.{sum_by-shift, sum_by-none, sum_by-one, in-range}
use Rattle.std.proofs.lemmas.List.Folds.{flat_map-map, map_fixed}
use Rattle.std.proofs.lemmas.List.Concat.{flat_map_single}
use Rattle.niss_search.proofs.DescentParts.{beyond_at-far}
use Rattle.niss_search.proofs.LookLemmas.{distance_at-goal, distance_at-turn}

module _ (turns : List Turn) where
  below-last : (k : ℕ) (p : List Turn) → below turns p (suc k) ≡ flat_map (canonical_extensions turns) (below turns p k)
  below-last zero p =
      flat_map_single (λ q. q) (canonical_extensions turns p) ∙ map_fixed (λ q. q) (canonical_extensions turns p) (λ k d l. refl) ∙ sym (append-nil (canonical_extensions turns p))
  below-last (suc k) p =
      (λ i. flat_map (λ q. below-last k q i) (canonical_extensions turns p))
      ∙ sym (flat_map-flat_map (canonical_extensions turns) (λ q. below turns q k) (canonical_extensions turns p))

  -- the whole tree, level by level
  pub below-all : (k : ℕ) → below turns [] k ≡ all_canonical turns k
  unfolding all_canonical
  below-all zero = refl
  below-all (suc k) = below-last k [] ∙ ap (flat_map (canonical_extensions turns)) (below-all k)

module _ {turns : List Turn} {S : Type 0} (space : Space turns S) (look : S → ℕ) (start : S) where
  -- the state after a sequence, whether it is at the goal, and the look there
  abbrev pub here : List Turn → S
  here p = after_all space start p

  abbrev reach : List Turn → Bool
  reach p = space.reached (here p)

  abbrev pub far : List Turn → ℕ
  far p = look (here p)

  -- 1 for a sequence that is looked at
  abbrev pub looked : ℕ → List Turn → ℕ
  looked d q = cond (is_looked_at space look start d q) 1 0

  -- one turn more is looked at if the test passes before it
  pub looked-push : (d : ℕ) (p : List Turn) (t : Turn) (b : Bool) → nat_le (far p) (d - length p) ≡ b → looked d (p ++ t ∷ []) ≡ cond b 1 0
  looked-push d [] t b e = ap (λ v. cond v 1 0) e
  looked-push d (u ∷ us) t b e =
      let last : length (u ∷ us) ≡ length (us ++ t ∷ []) = omega (arith, length-append us (t ∷ [])) in
      rw (take_at (u ∷ us) (t ∷ []) (length (us ++ t ∷ [])) last, e) refl

  pub here-push : (p : List Turn) (t : Turn) → here (p ++ t ∷ []) ≡ space.after (here p) t
  here-push p t = fold-append space.after start p (t ∷ [])

  -- the turns that may follow
  abbrev nexts : List Turn → List Turn
  nexts p = filter (may_follow (last_turn p)) turns

  -- of the sequences that begin with p and have k turns more those that reach, and how many are looked at
  abbrev reaching_in : ℕ → List Turn → List (List Turn)
  reaching_in k p = filter reach (below turns p k)

  abbrev looked_in : (d k : ℕ) → List Turn → ℕ
  looked_in d k p = sum_by (looked d) (below turns p k)

  -- how many are looked at that have fewer turns more
  abbrev looked_to : (d k : ℕ) → List Turn → ℕ
  looked_to d k p = sum_by (λ j. looked_in d j p) (range_with_len 0 k)

  -- those with one turn more, by that turn
  filter-below : (k : ℕ) (p : List Turn) → reaching_in (suc k) p ≡ flat_map (λ t. reaching_in k (p ++ t ∷ [])) (nexts p)
  filter-below k p =
      filter-flat_map reach (λ q. below turns q k) (canonical_extensions turns p)
      ∙ flat_map-map (reaching_in k) (λ t. p ++ t ∷ []) (nexts p)

  looked-below : (d k : ℕ) (p : List Turn) → looked_in d (suc k) p ≡ sum_by (λ t. looked_in d k (p ++ t ∷ [])) (nexts p)
  looked-below d k p =
      sum_by-flat_map (looked d) (λ q. below turns q k) (canonical_extensions turns p)
      ∙ sum_by-map (looked_in d k) (λ t. p ++ t ∷ []) (nexts p)

  module _ (at_goal : (x : S) → leb (look x) 0 ≡ space.reached x) (by_turn : (x : S) (t : Turn) → Contains turns t → look x ≤ 1 + look (space.after x t)) where
    falls : (p : List Turn) (t : Turn) → Contains (nexts p) t → far p ≤ 1 + far (p ++ t ∷ [])
    falls p t m =
        let all = All-filter (may_follow (last_turn p)) (Contains turns) turns (All-contains_itself turns) in
        rw (here-push p t) (by_turn (here p) t (All-contains (Contains turns) (nexts p) t all m))

    -- nothing that is pruned reaches
    pruned : (k : ℕ) (p : List Turn) → k < far p → reaching_in k p ≡ []
    pruned zero p h =
        let away : reach p ≡ false = sym (at_goal (here p)) ∙ lt-leb (far p) 0 h in
        ap (λ b. cond b (p ∷ []) []) away
    pruned (suc k) p h =
        filter-below k p
        ∙ flat_map-none (λ t. reaching_in k (p ++ t ∷ [])) (nexts p) (λ t m. pruned k (p ++ t ∷ []) (omega (arith, falls p t m)))

    -- nothing below a sequence that fails the test is looked at
    unlooked : (d n : ℕ) (p : List Turn) → length p + suc n ≤ d → d - length p < far p → looked_in d (suc n) p ≡ 0
    unlooked d zero p h l =
        looked-below d zero p
        ∙ sum_by-none (λ t. looked_in d zero (p ++ t ∷ [])) (nexts p) (λ t m.
        sum_by-one (looked d) (p ++ t ∷ []) ∙ looked-push d p t false (lt-leb (far p) (d - length p) l))
    unlooked d (suc n) p h l =
        looked-below d (suc n) p
        ∙ sum_by-none (λ t. looked_in d (suc n) (p ++ t ∷ [])) (nexts p) (λ t m.
        unlooked d n (p ++ t ∷ []) (omega (arith, length-append p (t ∷ []))) (omega (arith, length-append p (t ∷ []), falls p t m)))

    -- what is done below a sequence that is looked at: those with k turns more that reach, and the looks of each length
    -- more
    abbrev looks_done : (d k : ℕ) → List Turn → ℕ
    looks_done d k p = sum_by (λ j. looked_in d (suc j) p) (range_with_len 0 k)

    abbrev pub IsDone : (d k : ℕ) → List Turn → Part → Type 0
    IsDone d k p part = (part.paths ≡ reaching_in k p) × (part.looks ≡ looks_done d k p)

    pub done_is : (d k : ℕ) (p : List Turn) → d ≡ length p + k → IsDone d k p (beyond space look (here p) p k)
    unfolding beyond
    done_is d zero p e = (ap (λ b. cond b (p ∷ []) []) (at_goal (here p)), refl)
    done_is d (suc k) p e = by_test (leb (far p) (suc k)) refl (λ t. done_is d k (p ++ t ∷ []) (omega (arith, length-append p (t ∷ [])))) where
      after_turn : Turn → S → Part
      after_turn t x = beyond space look x (p ++ t ∷ []) k

      by_test : (b : Bool) → leb (far p) (suc k) ≡ b → ((t : Turn) → IsDone d k (p ++ t ∷ []) (after_turn t (here (p ++ t ∷ []))))
          → IsDone d (suc k) p (cond b (for_each (λ t. then_part (only_looks 1) (after_turn t (space.after (here p) t))) (nexts p)) (only_looks 0))
      by_test true f rest = (found, visited) where
        moved : (t : Turn) → IsDone d k (p ++ t ∷ []) (after_turn t (space.after (here p) t))
        moved t = subst (λ (y : S). IsDone d k (p ++ t ∷ []) (after_turn t y)) (here-push p t) (rest t)

        found : flat_map (λ t. (after_turn t (space.after (here p) t)).paths) (nexts p) ≡ reaching_in (suc k) p
        found = (λ i. flat_map (λ t. (moved t).0 i) (nexts p)) ∙ sym (filter-below k p)

        one_more : (t : Turn) → 1 + (after_turn t (space.after (here p) t)).looks ≡ looked_to d (suc k) (p ++ t ∷ [])
        one_more t =
            let W : ℕ → ℕ = λ j. looked_in d j (p ++ t ∷ []) in
            let passes : nat_le (far p) (d - length p) ≡ true = le-leb (far p) (d - length p) (omega (arith, leb-true (far p) (suc k) f)) in
            let one = sum_by-one (looked d) (p ++ t ∷ []) ∙ looked-push d p t true passes in
            omega (arith, (moved t).1, one, sum_by-cons W 0 (range_with_len (0 + 1) k), sum_by-shift W 0 k)

        visited : sum_by (λ t. 1 + (after_turn t (space.after (here p) t)).looks) (nexts p) ≡ looks_done d (suc k) p
        visited =
            (λ i. sum_by (λ t. one_more t i) (nexts p))
            ∙ sum_by-swap (λ t j. looked_in d j (p ++ t ∷ [])) (nexts p) (range_with_len 0 (suc k))
            ∙ (λ i. sum_by (λ j. sym (looked-below d j p) i) (range_with_len 0 (suc k)))
      by_test false f rest = (sym (pruned (suc k) p away), sym none) where
        away : suc k < far p
        away = leb-false (far p) (suc k) f

        none : looks_done d (suc k) p ≡ 0
        none = sum_by-none (λ j. looked_in d (suc j) p) (range_with_len 0 (suc k)) (λ j m. unlooked d j p (omega (arith, in-range 0 (suc k) j m)) (omega (arith, away)))

    -- one deepening finds the canonical sequences of its length that reach, in turn order, and makes the looks of its
    -- length
    pub deepening_is : (d : ℕ) → then_part (only_looks 1) (beyond space look start [] d) ≡ deepening space look start d
    unfolding looks
    deepening_is d = λ i. record { paths = found i; looks = all i; events = (then_part (only_looks 1) (beyond space look start [] d)).events } where
      made : IsDone d d [] (beyond space look start [] d)
      made = done_is d d [] (omega arith)

      found : (beyond space look start [] d).paths ≡ reaching space start d
      found = made.0 ∙ ap (filter reach) (below-all turns d)

      W : ℕ → ℕ
      W k = count_by (is_looked_at space look start d) (all_canonical turns k)

      V : ℕ → ℕ
      V k = looked_in d k []

      all : 1 + (beyond space look start [] d).looks ≡ sum_by W (up_to d)
      all =
          let first : 1 + (beyond space look start [] d).looks ≡ looked_to d (suc d) [] =
          omega (arith, made.1, sum_by-one (looked d) [], sum_by-cons V 0 (range_with_len (0 + 1) d), sum_by-shift V 0 d) in
          first ∙ (λ i. sum_by (λ k. sum_by (looked d) (below-all turns k i)) (range_with_len 0 (suc d))) ∙ sym (ap (λ n. sum_by W (range_with_len 0 n)) (add-one d))

-- one deepening from a position
pub below_at-start : (step : Step) (x : List GoalCoordinates) (d : ℕ) → below_at step x [] d ≡ deepening (positions step) (distance_at step) x d
unfolding beyond_at
below_at-start step x = deepening_is (positions step) (distance_at step) x (distance_at-goal step) (distance_at-turn step)

module _ (step : Step) (x : List GoalCoordinates) (d : ℕ) where
  -- what it finds once the start was looked at, and how often it looks
  pub near_paths : (beyond_at step x [] d).paths ≡ reaching (positions step) x d
  near_paths = ap (λ (q : Part). q.paths) (below_at-start step x d)

  pub near_looks : 1 + (beyond_at step x [] d).looks ≡ looks (positions step) (distance_at step) x d
  near_looks = ap (λ (q : Part). q.looks) (below_at-start step x d)

  -- from a start that is too far nothing, by that look alone
  pub far_paths : d < distance_at step x → reaching (positions step) x d ≡ []
  far_paths h = sym near_paths ∙ ap (λ (q : Part). q.paths) (beyond_at-far step x [] d h)

  pub far_looks : d < distance_at step x → looks (positions step) (distance_at step) x d ≡ 1
  far_looks h = sym near_looks ∙ ap (λ (q : Part). 1 + q.looks) (beyond_at-far step x [] d h)
