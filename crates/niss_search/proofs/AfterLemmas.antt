-- The sequences that come after one: what is done of them is what a filter leaves of all that is done, by no more looks.
use Rattle.niss_search.proofs.Words.{◌≡◌, arith, length, ◌+◌, ◌<◌, ℕ, ap, ◌∙◌, sym, ◌≤◌, [], List, refl, true, false, ◌-◌, ◌∷◌, Bool, Turn}
use Rattle.niss_search.proofs.Words.{cond, suc, zero, range_with_len, ◌++◌, flat_map, filter, drop, take, get_or, append_assoc, append-nil, subst}
use Rattle.niss_search.proofs.Words.{All, All-cons, All-nil, All-map, All-weaker, drop_at, may_follow, last_turn, nat_le, nat_lt, ◌==◌}
use Rattle.niss_search.proofs.Words.{Space, Part, only_looks, then_part, for_each, beyond, later, later_at, beyond_at, by_place}
use Rattle.niss_search.proofs.Words.{later_turn_at, all_after, turn_place, comes_after, is_later, reaching, looks, deepening, positions}
use Rattle.niss_search.proofs.Words.{distance_at, Step, GoalCoordinates, turns_of, up_to, all_canonical, canonical_extensions, length-append}
use Rattle.niss_search.proofs.Words.{sum_by, sum_by-cons, sum_by-append, sum_by-le-sum_by, ap₂}
use Rattle.niss_search.proofs.Words.{◌||◌, ◌&&◌, le-ltb, lt-ltb, ne_eqb, eq-eqb, All-filter, flat_map-append, leb_tells, inl, inr}
use Rattle.niss_search.proofs.ListLemmas.{filter-flat_map, range-split}
use Rattle.niss_search.proofs.LookLemmas.{filter-each, All-flat_map}
use Rattle.niss_search.proofs.DepthFirst.{below_at-start}

-- a sequence that begins with p
abbrev pub BeginsWith : List Turn → List Turn → Type 0
BeginsWith p q = (r : List Turn) × (q ≡ p ++ r)

-- Is what stands behind p in a sequence later than these turns?
abbrev is_later_behind : List Turn → List Turn → List Turn → Bool
is_later_behind p ts q = is_later ts (drop (length p) q)

pub filter-true : (xs : List (List Turn)) → filter (λ q. true) xs ≡ xs
filter-true [] = refl
filter-true (x ∷ xs) = ap (λ (l : List (List Turn)). x ∷ l) (filter-true xs)

filter-false : (xs : List (List Turn)) → filter (λ q. false) xs ≡ []
filter-false [] = refl
filter-false (x ∷ xs) = filter-false xs

module _ (p : List Turn) (t u : Turn) (ts : List Turn) where
  -- behind one turn more, by the places of this turn and the other
  later-more : (q : List Turn) → BeginsWith (p ++ u ∷ []) q
      → is_later_behind p (t ∷ ts) q ≡ cond (turn_place t == turn_place u) (is_later_behind (p ++ u ∷ []) ts q) (nat_lt (turn_place t) (turn_place u))
  unfolding is_later
  later-more q h =
      let r = h.0 in
      let one : drop (length p) ((p ++ u ∷ []) ++ r) ≡ u ∷ r =
      ap (drop (length p)) (append_assoc p (u ∷ []) r) ∙ drop_at p (u ∷ r) (length p) refl in
      let more : drop (length (p ++ u ∷ [])) ((p ++ u ∷ []) ++ r) ≡ r = drop_at (p ++ u ∷ []) r (length (p ++ u ∷ [])) refl in
      subst (λ (s : List Turn). is_later_behind p (t ∷ ts) s ≡ cond (turn_place t == turn_place u) (is_later_behind (p ++ u ∷ []) ts s) (nat_lt (turn_place t) (turn_place u))) (sym h.1)
      (ap (is_later (t ∷ ts)) one ∙ ap (λ (s : List Turn). cond (turn_place t == turn_place u) (is_later ts s) (nat_lt (turn_place t) (turn_place u))) (sym more))

  turn-paths : (same all : Part) → All (BeginsWith (p ++ u ∷ [])) all.paths → filter (is_later_behind (p ++ u ∷ []) ts) all.paths ≡ same.paths
      → filter (is_later_behind p (t ∷ ts)) all.paths ≡ (by_place t u same all).paths
  turn-paths same all begins is =
      filter-each (BeginsWith (p ++ u ∷ [])) (is_later_behind p (t ∷ ts)) _ all.paths later-more begins
      ∙ by_tests (turn_place t == turn_place u) (nat_lt (turn_place t) (turn_place u)) where
        by_tests : (b c : Bool) → filter (λ q. cond b (is_later_behind (p ++ u ∷ []) ts q) c) all.paths ≡ (cond b same (cond c all (only_looks 0))).paths
        by_tests true c = is
        by_tests false true = filter-true all.paths
        by_tests false false = filter-false all.paths

place-looks : (t u : Turn) (same all : Part) → same.looks ≤ all.looks → (by_place t u same all).looks ≤ all.looks
place-looks t u same all h = by_tests (turn_place t == turn_place u) (nat_lt (turn_place t) (turn_place u)) where
  by_tests : (b c : Bool) → (cond b same (cond c all (only_looks 0))).looks ≤ all.looks
  by_tests true c = h
  by_tests false true = omega arith
  by_tests false false = omega arith

module _ {turns : List Turn} {S : Type 0} (space : Space turns S) (look : S → ℕ) where
  -- the turns that may follow, and what is done after one
  abbrev pub nexts : List Turn → List Turn
  nexts p = filter (may_follow (last_turn p)) turns

  abbrev below_turn : S → List Turn → ℕ → Turn → Part
  below_turn x p k u = then_part (only_looks 1) (beyond space look (space.after x u) (p ++ u ∷ []) k)

  abbrev pub later_turn : S → List Turn → Turn → List Turn → Turn → Part
  later_turn x p t ts u = by_place t u (later space look (space.after x u) (p ++ u ∷ []) ts) (below_turn x p (length ts) u)

  pub all-begin : (p : List Turn) (u : Turn) (q : List Turn) → BeginsWith (p ++ u ∷ []) q → BeginsWith p q
  all-begin p u q h = (u ∷ h.0, h.1 ∙ append_assoc p (u ∷ []) h.0)

  beyond-begins : (k : ℕ) (x : S) (p : List Turn) → All (BeginsWith p) (beyond space look x p k).paths
  unfolding beyond
  beyond-begins zero x p = by_test (nat_le (look x) 0) where
    by_test : (b : Bool) → All (BeginsWith p) (cond b (p ∷ []) [])
    by_test true = All-cons (BeginsWith p) p [] ([], sym (append-nil p)) (All-nil (BeginsWith p))
    by_test false = All-nil (BeginsWith p)
  beyond-begins (suc k) x p = by_test (nat_le (look x) (suc k)) (λ u. beyond-begins k (space.after x u) (p ++ u ∷ [])) where
    by_test : (b : Bool) → ((u : Turn) → All (BeginsWith (p ++ u ∷ [])) (beyond space look (space.after x u) (p ++ u ∷ []) k).paths)
        → All (BeginsWith p) (cond b (for_each (below_turn x p k) (nexts p)) (only_looks 0)).paths
    by_test true each =
        All-flat_map (λ u. Unit {0}) (BeginsWith p) (λ u. (below_turn x p k u).paths) (nexts p)
        (λ u m. All-weaker (BeginsWith (p ++ u ∷ [])) (BeginsWith p) (all-begin p u) (beyond space look (space.after x u) (p ++ u ∷ []) k).paths (each u))
        (λ i d l. tt)
    by_test false each = All-nil (BeginsWith p)

  -- what is done of the later ones is what the filter leaves
  pub later-paths : (ts : List Turn) (x : S) (p : List Turn) → filter (is_later_behind p ts) (beyond space look x p (length ts)).paths ≡ (later space look x p ts).paths
  unfolding beyond later is_later
  later-paths [] x p = filter-false (beyond space look x p 0).paths
  later-paths (t ∷ ts) x p = by_test (nat_le (look x) (suc (length ts))) (λ u. later-paths ts (space.after x u) (p ++ u ∷ [])) where
    by_test : (b : Bool)
        → ((u : Turn) → filter (is_later_behind (p ++ u ∷ []) ts) (beyond space look (space.after x u) (p ++ u ∷ []) (length ts)).paths ≡ (later space look (space.after x u) (p ++ u ∷ []) ts).paths)
        → filter (is_later_behind p (t ∷ ts)) (cond b (for_each (below_turn x p (length ts)) (nexts p)) (only_looks 0)).paths
        ≡ (cond b (for_each (later_turn x p t ts) (nexts p)) (only_looks 0)).paths
    by_test true each =
        filter-flat_map (is_later_behind p (t ∷ ts)) (λ u. (below_turn x p (length ts) u).paths) (nexts p)
        ∙ (λ i. flat_map (λ u. one u i) (nexts p)) where
          one : (u : Turn) → filter (is_later_behind p (t ∷ ts)) (below_turn x p (length ts) u).paths ≡ (later_turn x p t ts u).paths
          one u =
              turn-paths p t u ts (later space look (space.after x u) (p ++ u ∷ []) ts) (below_turn x p (length ts) u)
              (beyond-begins (length ts) (space.after x u) (p ++ u ∷ [])) (each u)
    by_test false each = refl

  -- by no more looks
  pub later-looks : (ts : List Turn) (x : S) (p : List Turn) → (later space look x p ts).looks ≤ 1 + (beyond space look x p (length ts)).looks
  unfolding beyond later
  later-looks [] x p = omega arith
  later-looks (t ∷ ts) x p = by_test (nat_le (look x) (suc (length ts))) (λ u. later-looks ts (space.after x u) (p ++ u ∷ [])) where
    by_test : (b : Bool)
        → ((u : Turn) → (later space look (space.after x u) (p ++ u ∷ []) ts).looks ≤ 1 + (beyond space look (space.after x u) (p ++ u ∷ []) (length ts)).looks)
        → 1 + (cond b (for_each (later_turn x p t ts) (nexts p)) (only_looks 0)).looks
        ≤ 1 + (cond b (for_each (below_turn x p (length ts)) (nexts p)) (only_looks 0)).looks
    by_test true each =
        let less = sum_by-le-sum_by (λ u. (later_turn x p t ts u).looks) (λ u. (below_turn x p (length ts) u).looks) (nexts p)
        (λ u. place-looks t u (later space look (space.after x u) (p ++ u ∷ []) ts) (below_turn x p (length ts) u) (each u)) in
        omega (arith, less)
    by_test false each = omega arith

-- the turns of a step up to one: what is done after them
abbrev pub passed : Step → List GoalCoordinates → (p ts : List Turn) → ℕ → Part
passed step x p ts i = then_part (only_looks 1) (for_each (later_turn_at step x p ts) (take i (turns_of step)))

-- what is done of the later ones up to a length
abbrev pub after_below : Step → List GoalCoordinates → List Turn → ℕ → Part
after_below step x ts d =
    then_part (later_at step x [] ts)
    (for_each (deepening (positions step) (distance_at step) x) (range_with_len (length ts + 1) (d - (length ts + 1))))

-- the sequences of a length have it
pub canonical-length : (turns : List Turn) (k : ℕ) → All (λ q. length q ≡ k) (all_canonical turns k)
unfolding all_canonical
canonical-length turns zero = All-cons (λ q. length q ≡ 0) [] [] refl (All-nil (λ q. length q ≡ 0))
canonical-length turns (suc k) =
    All-flat_map (λ s. length s ≡ k) (λ q. length q ≡ suc k) (canonical_extensions turns) (all_canonical turns k) (λ s is.
    All-map (λ q. length q ≡ suc k) (λ t. s ++ t ∷ []) (filter (may_follow (last_turn s)) turns) (λ i d l.
    omega (arith, length-append s (get_or (filter (may_follow (last_turn s)) turns) i d ∷ []), is)))
    (canonical-length turns k)

module _ {turns : List Turn} {S : Type 0} (space : Space turns S) (start : S) (p : List Turn) where
  abbrev each : ℕ → List (List Turn)
  each = reaching space start

  -- what is later of those of one length
  level : (k : ℕ) → filter (comes_after p) (each k) ≡ filter (λ q. nat_lt (length p) k || length p == k && is_later p q) (each k)
  level k =
      filter-each (λ q. length q ≡ k) (comes_after p) _ (each k) (λ q is. ap (λ n. nat_lt (length p) n || length p == n && is_later p q) is)
      (All-filter _ (λ q. length q ≡ k) (all_canonical turns k) (canonical-length turns k))

  level-shorter : (k : ℕ) → k < length p → filter (comes_after p) (each k) ≡ []
  level-shorter k h =
      level k ∙ rw (le-ltb (length p) k (omega (arith, h)), ne_eqb (length p) k (omega (arith, h))) (filter-false (each k))

  level-same : filter (comes_after p) (each (length p)) ≡ filter (is_later p) (each (length p))
  level-same = level (length p) ∙ rw (le-ltb (length p) (length p) (omega arith), eq-eqb (length p) (length p) refl) refl

  level-longer : (k : ℕ) → length p < k → filter (comes_after p) (each k) ≡ each k
  level-longer k h = level k ∙ rw (lt-ltb (length p) k h) (filter-true (each k))

  levels-shorter : (a m : ℕ) → a + m ≤ length p → flat_map (λ k. filter (comes_after p) (each k)) (range_with_len a m) ≡ []
  levels-shorter a zero h = refl
  levels-shorter a (suc m) h =
      rw (level-shorter a (omega (arith, h)), levels-shorter (a + 1) m (omega (arith, h))) refl

  levels-longer : (a m : ℕ) → length p < a → flat_map (λ k. filter (comes_after p) (each k)) (range_with_len a m) ≡ flat_map each (range_with_len a m)
  levels-longer a zero h = refl
  levels-longer a (suc m) h =
      rw (level-longer a h, levels-longer (a + 1) m (omega (arith, h))) refl

  -- of all up to a length: those as long as p that are later, and the longer ones
  pub levels : (n : ℕ) → length p ≤ n
      → filter (comes_after p) (flat_map each (up_to n)) ≡ filter (is_later p) (each (length p)) ++ flat_map each (range_with_len (length p + 1) (n - length p))
  levels n h =
      let later : ℕ → List (List Turn) = λ k. filter (comes_after p) (each k) in
      let count : n + 1 - length p ≡ suc (n - length p) = omega (arith, h) in
      filter-flat_map (comes_after p) each (up_to n)
      ∙ ap (flat_map later) (range-split (length p) (n + 1) (omega (arith, h)) ∙ ap (λ m. range_with_len 0 (length p) ++ range_with_len (length p) m) count)
      ∙ flat_map-append later (range_with_len 0 (length p)) (range_with_len (length p) (suc (n - length p)))
      ∙ ap₂ (λ (a b : List (List Turn)). a ++ b) (levels-shorter 0 (length p) (omega arith))
      (ap₂ (λ (a b : List (List Turn)). a ++ b) level-same (levels-longer (length p + 1) (n - length p) (omega arith)))

  pub no-levels : (n : ℕ) → n < length p → filter (comes_after p) (flat_map each (up_to n)) ≡ []
  no-levels n h =
      filter-flat_map (comes_after p) each (up_to n) ∙ levels-shorter 0 (n + 1) (omega (arith, h))

module _ (step : Step) (x : List GoalCoordinates) (p : List Turn) where
  abbrev at_length : ℕ → Part
  at_length = deepening (positions step) (distance_at step) x

  later_at-paths : filter (is_later p) (reaching (positions step) x (length p)) ≡ (later_at step x [] p).paths
  unfolding later_at beyond_at
  later_at-paths =
      ap (λ (q : Part). filter (is_later p) q.paths) (sym (below_at-start step x (length p)))
      ∙ later-paths (positions step) (distance_at step) p x []

  pub later_at-looks : (later_at step x [] p).looks ≤ looks (positions step) (distance_at step) x (length p)
  unfolding later_at beyond_at
  later_at-looks =
      omega (arith, ap (λ (q : Part). q.looks) (below_at-start step x (length p)), later-looks (positions step) (distance_at step) p x [])

  -- all that is done is what the filter leaves of all sequences
  pub all_after-paths : (n : ℕ) → filter (comes_after p) (flat_map (reaching (positions step) x) (up_to n)) ≡ (all_after step x n p).paths
  all_after-paths n = elim (leb_tells (length p) n) [
    | inl w ↦ rw w.0 (levels (positions step) x p n w.1 ∙ ap (λ (a : List (List Turn)). a ++ flat_map (reaching (positions step) x) (range_with_len (length p + 1) (n - length p))) later_at-paths)
    | inr w ↦ rw w.0 (no-levels (positions step) x p n w.1)
  ]

  -- the looks up to a length
  pub after_below-looks : (d : ℕ) → length p + 1 ≤ d → (after_below step x p d).looks ≤ sum_by (looks (positions step) (distance_at step) x) (range_with_len 0 d)
  after_below-looks d h =
      let each = looks (positions step) (distance_at step) x in
      let count : d - length p ≡ suc (d - (length p + 1)) = omega (arith, h) in
      let rest = range_with_len (length p + 1) (d - (length p + 1)) in
      let split = ap (sum_by each) (range-split (length p) d (omega (arith, h)) ∙ ap (λ m. range_with_len 0 (length p) ++ range_with_len (length p) m) count) in
      omega (arith, split, sum_by-append each (range_with_len 0 (length p)) (length p ∷ rest), sum_by-cons each (length p) rest, later_at-looks)

  pub all_after-looks : (n : ℕ) → (all_after step x n p).looks ≤ sum_by (looks (positions step) (distance_at step) x) (up_to n)
  all_after-looks n = elim (leb_tells (length p) n) [
    | inl w ↦ (let count : n + 1 - (length p + 1) ≡ n - length p = omega (arith, w.1) in rw w.0 (subst (λ m. (later_at step x [] p).looks + sum_by (looks (positions step) (distance_at step) x) (range_with_len (length p + 1) m) ≤ sum_by (looks (positions step) (distance_at step) x) (up_to n)) count (after_below-looks (n + 1) (omega (arith, w.1)))))
    | inr w ↦ rw w.0 (omega arith)
  ]
