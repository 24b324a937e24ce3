-- Which look of a search is the one at a solution: what the tree of a deepening does in order, by the looks at sequences that
-- aren't later.
use Rattle.niss_search.proofs.Words.{◌≡◌, arith, length, ◌+◌, ◌<◌, ℕ, ap, ◌∙◌, sym, ◌≤◌, [], List, refl, true, false, ◌-◌, ◌∷◌, Bool, Turn}
use Rattle.niss_search.proofs.Words.{suc, zero, ◌++◌, flat_map, filter, subst, None, nat_le, le-leb, leb, leb-true, cond, sum_by, sum_by-cons}
use Rattle.niss_search.proofs.Words.{Part, for_each, then_part, only_looks, only_paths, Space, beyond, may_follow, last_turn, Contains, IsTrue}
use Rattle.niss_search.proofs.Words.{All, All-cons, All-nil, All-map, All-weaker, All-head, All-tail, All-contains, canonical_extensions, append-nil, append_assoc}
use Rattle.niss_search.proofs.Words.{turn_place, is_later, eq-eqb, length-append, range_with_len, not, ◌&&◌, is_looked_at, get_or, up_to, add-one, all_canonical}
use Rattle.niss_search.proofs.Words.{looks, deepening, look_number, is_looked_at_before, reaching, count_by, ap₂}
use Rattle.niss_search.proofs.ListLemmas.{Contains-first, Contains-later, sum_by-none, sum_by-one, sum_by-flat_map, sum_by-map, sum_by-swap, sum_by-shift, sum_by-range_more}
use Rattle.niss_search.proofs.Words.{below}
use Rattle.niss_search.proofs.DepthFirst.{below-all, looked, here, here-push, far, looked-push, done_is, deepening_is}
use Rattle.niss_search.proofs.AfterLemmas.{BeginsWith, all-begin}
use Rattle.niss_search.proofs.LookLemmas.{All-flat_map}
use Rattle.niss_search.proofs.OrderLemmas.{comes_before, later-differs, pairs-first, pairs-rest}
use Rattle.niss_search.proofs.DescentParts.{Events}
use Rattle.niss_search.proofs.Events.{HoldsAlong, HoldsAlong-append, HoldsAlong-weaker, looks_in, paths_in, paths_in-append, in_order-beyond, IsNumbered}
use Rattle.std.specs.Prelude.{AllPairs}
use Rattle.std.proofs.lemmas.List.Kept.{AllPairs-filter}
use Rattle.std.proofs.lemmas.Bool.{ltb-true}

sum_by-each : {X : Type 0} (P : X → Type 0) (f g : X → ℕ) (xs : List X) → ((x : X) → P x → f x ≡ g x) → All P xs → sum_by f xs ≡ sum_by g xs
sum_by-each P f g [] same h = refl
sum_by-each P f g (x ∷ xs) same h =
    omega (arith, sum_by-cons f x xs, sum_by-cons g x xs, same x (All-head P x xs h), sum_by-each P f g xs same (All-tail P x xs h))

-- what begins with a sequence isn't before it
never-later_front : (p r : List Turn) → is_later (p ++ r) p ≡ false
unfolding is_later
never-later_front [] [] = refl
never-later_front [] (t ∷ r) = refl
never-later_front (t ∷ p) r = rw (eq-eqb (turn_place t) (turn_place t) refl) (never-later_front p r)

one_turn : (p : List Turn) (t : Turn) (q : List Turn) → BeginsWith (p ++ t ∷ []) q → (r : List Turn) × (q ≡ p ++ t ∷ r)
one_turn p t q h = (h.0, h.1 ∙ append_assoc p (t ∷ []) h.0)

-- of two that part behind p, by the turns there
parts-later : (p : List Turn) (t u : Turn) (a b : List Turn) → turn_place t < turn_place u → BeginsWith (p ++ t ∷ []) a → BeginsWith (p ++ u ∷ []) b
    → (is_later a b ≡ true) × (is_later b a ≡ false)
parts-later p t u a b before at_a at_b =
    let x = one_turn p t a at_a in
    let y = one_turn p u b at_b in
    let differs = later-differs p t u x.0 y.0 before in
    (ap₂ is_later x.1 y.1 ∙ differs.0, ap₂ is_later y.1 x.1 ∙ differs.1)

module _ (turns : List Turn) where
  abbrev followers : List Turn → List Turn
  followers p = filter (may_follow (last_turn p)) turns

  below-begins : (k : ℕ) (p : List Turn) → All (BeginsWith p) (below turns p k)
  below-begins zero p = All-cons (BeginsWith p) p [] ([], sym (append-nil p)) (All-nil (BeginsWith p))
  below-begins (suc k) p =
      All-flat_map (BeginsWith p) (BeginsWith p) (λ q. below turns q k) (canonical_extensions turns p)
      (λ q h. All-weaker (BeginsWith q) (BeginsWith p) (λ r i. (h.0 ++ i.0, i.1 ∙ ap (λ (l : List Turn). l ++ i.0) h.1 ∙ append_assoc p h.0 i.0)) (below turns q k) (below-begins k q))
      (All-map (BeginsWith p) (λ t. p ++ t ∷ []) (followers p) (λ i d l. (get_or (followers p) i d ∷ [], refl)))

  -- what a weight of sequences is in sum of those with k turns more than p, of those with fewer than k, and of those with 1 to k
  module _ (weight : List Turn → ℕ) where
    abbrev weight_in : ℕ → List Turn → ℕ
    weight_in j p = sum_by weight (below turns p j)

    abbrev weight_to : ℕ → List Turn → ℕ
    weight_to k p = sum_by (λ j. weight_in j p) (range_with_len 0 k)

    abbrev weight_under : ℕ → List Turn → ℕ
    weight_under k p = sum_by (λ j. weight_in (suc j) p) (range_with_len 0 k)

    weight-turns : (j : ℕ) (p : List Turn) → weight_in (suc j) p ≡ sum_by (λ t. weight_in j (p ++ t ∷ [])) (followers p)
    weight-turns j p =
        sum_by-flat_map weight (λ q. below turns q j) (canonical_extensions turns p)
        ∙ sum_by-map (weight_in j) (λ t. p ++ t ∷ []) (followers p)

    under-turns : (k : ℕ) (p : List Turn) → weight_under k p ≡ sum_by (λ t. weight_to k (p ++ t ∷ [])) (followers p)
    under-turns k p =
        (λ i. sum_by (λ j. weight-turns j p i) (range_with_len 0 k))
        ∙ sym (sum_by-swap (λ t j. weight_in j (p ++ t ∷ [])) (followers p) (range_with_len 0 k))

    to-under : (k : ℕ) (p : List Turn) → weight_to (suc k) p ≡ weight p + weight_under k p
    to-under k p =
        let W : ℕ → ℕ = λ j. weight_in j p in
        omega (arith, sum_by-one weight p, sum_by-cons W 0 (range_with_len (0 + 1) k), sum_by-shift W 0 k)

  -- a weight that is the same of all that begin with p
  to-same : (f g : List Turn → ℕ) (k : ℕ) (p : List Turn) → ((q : List Turn) → BeginsWith p q → f q ≡ g q) → weight_to f k p ≡ weight_to g k p
  to-same f g k p same =
      λ i. sum_by (λ j. sum_by-each (BeginsWith p) f g (below turns p j) same (below-begins j p) i) (range_with_len 0 k)

  to-none : (f : List Turn → ℕ) (k : ℕ) (p : List Turn) → ((q : List Turn) → BeginsWith p q → f q ≡ 0) → weight_to f k p ≡ 0
  to-none f k p none =
      to-same f (λ q. 0) k p none
      ∙ sum_by-none (λ j. sum_by (λ (q : List Turn). 0) (below turns p j)) (range_with_len 0 k) (λ j m. sum_by-none (λ q. 0) (below turns p j) (λ q l. refl))

module _ {turns : List Turn} {S : Type 0} (space : Space turns S) (look : S → ℕ) (start : S) where
  -- 1 for a sequence that is looked at in the deepening to length d and isn't later than s
  abbrev weight : ℕ → (s q : List Turn) → ℕ
  weight d s q = cond (is_looked_at space look start d q && not (is_later s q)) 1 0

  weight-front : (d : ℕ) (s q : List Turn) → is_later s q ≡ false → weight d s q ≡ looked space look start d q
  weight-front d s q h = ap (λ (v : Bool). cond {A = ℕ} (is_looked_at space look start d q && not v) 1 0) h ∙ by_test (is_looked_at space look start d q) where
    by_test : (b : Bool) → cond {A = ℕ} (b && true) 1 0 ≡ cond b 1 0
    by_test true = refl
    by_test false = refl

  weight-later : (d : ℕ) (s q : List Turn) → is_later s q ≡ true → weight d s q ≡ 0
  weight-later d s q h = ap (λ (v : Bool). cond {A = ℕ} (is_looked_at space look start d q && not v) 1 0) h ∙ by_test (is_looked_at space look start d q) where
    by_test : (b : Bool) → cond {A = ℕ} (b && false) 1 0 ≡ 0
    by_test true = refl
    by_test false = refl

  module _ (at_goal : (x : S) → leb (look x) 0 ≡ space.reached x) (by_turn : (x : S) (t : Turn) → Contains turns t → look x ≤ 1 + look (space.after x t))
      (order : AllPairs (λ t u. IsTrue (comes_before t u)) turns) where
    -- A path below p, and its number.
    pub record IsBelow (d k : ℕ) (p : List Turn) (m : ℕ) (s : List Turn) (n : ℕ) : Type 0 where
      pub begins : BeginsWith p s
      pub long : length s ≡ d
      pub at : n ≡ m + weight_under turns (weight d s) k p

    -- the same behind one of some turns
    record IsBehind (d k : ℕ) (p : List Turn) (us : List Turn) (m : ℕ) (s : List Turn) (n : ℕ) : Type 0 where
      turn : Turn
      within : Contains us turn
      begins : BeginsWith (p ++ turn ∷ []) s
      long : length s ≡ d
      at : n ≡ m + sum_by (λ t. weight_to turns (weight d s) (suc k) (p ++ t ∷ [])) us

    abbrev turn_events : ℕ → List Turn → Turn → Events
    turn_events k p u = None ∷ (beyond space look (space.after (here space look start p) u) (p ++ u ∷ []) k).events

    module _ (d k : ℕ) (p : List Turn) (deep : d ≡ length p + suc k) (near : nat_le (far space look start p) (d - length p) ≡ true)
        (each : (u : Turn) (m : ℕ) → HoldsAlong (IsBelow d k (p ++ u ∷ []) m) (beyond space look (here space look start (p ++ u ∷ [])) (p ++ u ∷ []) k).events m) where
      below-turn : (u : Turn) → beyond space look (space.after (here space look start p) u) (p ++ u ∷ []) k ≡ beyond space look (here space look start (p ++ u ∷ [])) (p ++ u ∷ []) k
      below-turn u = ap (λ (y : S). beyond space look y (p ++ u ∷ []) k) (sym (here-push space look start p u))

      turn-looked : (u : Turn) → looked space look start d (p ++ u ∷ []) ≡ 1
      turn-looked u = looked-push space look start d p u true near

      -- all looks from one turn on
      turn-looks : (u : Turn) → looks_in (turn_events k p u) ≡ weight_to turns (looked space look start d) (suc k) (p ++ u ∷ [])
      turn-looks u =
          let q = p ++ u ∷ [] in
          let whole = done_is space look start at_goal by_turn d k q (omega (arith, deep, length-append p (u ∷ []))) in
          let same = ap (λ (part : Part). looks_in part.events) (below-turn u) in
          let in_order = (in_order-beyond space look k (here space look start q) q).looks in
          let counted : (beyond space look (here space look start q) q k).looks ≡ weight_under turns (looked space look start d) k q = whole.1 in
          omega (arith, same, in_order, counted, to-under turns (looked space look start d) k q, turn-looked u)

      -- what a turn adds to those behind it
      one_block : (u : Turn) (us : List Turn) → AllPairs (λ t u. IsTrue (comes_before t u)) (u ∷ us) → (m : ℕ)
          → HoldsAlong (IsBehind d k p us (m + looks_in (turn_events k p u))) (flat_map (turn_events k p) us) (m + looks_in (turn_events k p u))
          → HoldsAlong (IsBehind d k p (u ∷ us) m) (flat_map (turn_events k p) (u ∷ us)) m
      one_block u us sorted m behind = HoldsAlong-append (IsBehind d k p (u ∷ us) m) (turn_events k p u) (flat_map (turn_events k p) us) m (m + looks_in (turn_events k p u)) refl first rest where
        q : List Turn
        q = p ++ u ∷ []

        before : (t : Turn) → Contains us t → turn_place u < turn_place t
        before t l =
            ltb-true (turn_place u) (turn_place t)
            (All-contains (λ v. IsTrue (comes_before u v)) us t (pairs-first (λ a b. IsTrue (comes_before a b)) u us sorted) l)

        here-first : (s : List Turn) (n : ℕ) → IsBelow d k q (suc m) s n → IsBehind d k p (u ∷ us) m s n
        here-first s n h =
            let f : Turn → ℕ = λ t. weight_to turns (weight d s) (suc k) (p ++ t ∷ []) in
            let mine : weight d s q ≡ 1 = weight-front d s q (ap (λ (l : List Turn). is_later l q) h.begins.1 ∙ never-later_front q h.begins.0) ∙ turn-looked u in
            let none : sum_by f us ≡ 0 = sum_by-none f us (λ t l.
            to-none turns (weight d s) (suc k) (p ++ t ∷ []) (λ r g. weight-later d s r (parts-later p u t s r (before t l) h.begins g).0)) in
            record {
              turn = u;
              within = Contains-first u us;
              begins = h.begins;
              long = h.long;
              at = omega (arith, h.at, mine, none, to-under turns (weight d s) k q, sum_by-cons f u us);
            }

        first : HoldsAlong (IsBehind d k p (u ∷ us) m) (turn_events k p u) m
        first =
            HoldsAlong-weaker (IsBelow d k q (suc m)) (IsBehind d k p (u ∷ us) m) here-first (beyond space look (space.after (here space look start p) u) q k).events (suc m)
            (subst (λ (part : Part). HoldsAlong (IsBelow d k q (suc m)) part.events (suc m)) (sym (below-turn u)) (each u (suc m)))

        here-rest : (s : List Turn) (n : ℕ) → IsBehind d k p us (m + looks_in (turn_events k p u)) s n → IsBehind d k p (u ∷ us) m s n
        here-rest s n h =
            let f : Turn → ℕ = λ t. weight_to turns (weight d s) (suc k) (p ++ t ∷ []) in
            let all : f u ≡ weight_to turns (looked space look start d) (suc k) q =
            to-same turns (weight d s) (looked space look start d) (suc k) q (λ r g. weight-front d s r (parts-later p u h.turn r s (before h.turn h.within) g h.begins).1) in
            record {
              turn = h.turn;
              within = Contains-later u us h.turn h.within;
              begins = h.begins;
              long = h.long;
              at = omega (arith, h.at, all, turn-looks u, sum_by-cons f u us);
            }

        rest : HoldsAlong (IsBehind d k p (u ∷ us) m) (flat_map (turn_events k p) us) (m + looks_in (turn_events k p u))
        rest =
            HoldsAlong-weaker (IsBehind d k p us (m + looks_in (turn_events k p u))) (IsBehind d k p (u ∷ us) m) here-rest (flat_map (turn_events k p) us) (m + looks_in (turn_events k p u)) behind

      blocks : (us : List Turn) → AllPairs (λ t u. IsTrue (comes_before t u)) us → (m : ℕ) → HoldsAlong (IsBehind d k p us m) (flat_map (turn_events k p) us) m
      blocks [] sorted m = tt
      blocks (u ∷ us) sorted m =
          one_block u us sorted m (blocks us (pairs-rest (λ a b. IsTrue (comes_before a b)) u us sorted) (m + looks_in (turn_events k p u)))

      all-blocks : (m : ℕ) → HoldsAlong (IsBelow d (suc k) p m) (flat_map (turn_events k p) (followers turns p)) m
      all-blocks m =
          HoldsAlong-weaker (IsBehind d k p (followers turns p) m) (IsBelow d (suc k) p m)
          (λ s n h. record {
            begins = all-begin space look p h.turn s h.begins;
            long = h.long;
            at = omega (arith, h.at, under-turns turns (weight d s) (suc k) p);
          })
          (flat_map (turn_events k p) (followers turns p)) m
          (blocks (followers turns p) (AllPairs-filter (λ t u. IsTrue (comes_before t u)) (may_follow (last_turn p)) turns order) m)

    numbered : (d k : ℕ) (p : List Turn) → d ≡ length p + k → (m : ℕ) → HoldsAlong (IsBelow d k p m) (beyond space look (here space look start p) p k).events m
    unfolding beyond
    numbered d zero p e m = by_test (nat_le (far space look start p) 0) where
      by_test : (b : Bool) → HoldsAlong (IsBelow d zero p m) (only_paths (cond b (p ∷ []) [])).events m
      by_test true = (record { begins = ([], sym (append-nil p)); long = omega (arith, e); at = omega arith }, tt)
      by_test false = tt
    numbered d (suc k) p e m =
        by_test (leb (far space look start p) (suc k)) refl (λ t n. numbered d k (p ++ t ∷ []) (omega (arith, e, length-append p (t ∷ []))) n) where
          by_test : (b : Bool) → leb (far space look start p) (suc k) ≡ b
              → ((u : Turn) (n : ℕ) → HoldsAlong (IsBelow d k (p ++ u ∷ []) n) (beyond space look (here space look start (p ++ u ∷ [])) (p ++ u ∷ []) k).events n)
              → HoldsAlong (IsBelow d (suc k) p m)
              (cond b (for_each (λ t. then_part (only_looks 1) (beyond space look (space.after (here space look start p) t) (p ++ t ∷ []) k)) (followers turns p)) (only_looks 0)).events m
          by_test true f each =
              all-blocks d k p e (le-leb (far space look start p) (d - length p) (omega (arith, e, leb-true (far space look start p) (suc k) f))) each m
          by_test false f each = tt

    -- the looks of its own deepening up to the one at s
    abbrev own_looks : List Turn → ℕ
    own_looks s = sum_by (λ k. count_by (is_looked_at_before space look start s) (all_canonical turns k)) (up_to (length s))

    own-is : (s : List Turn) (d : ℕ) → length s ≡ d → own_looks s ≡ 1 + weight_under turns (weight d s) d []
    own-is s d long = subst (λ (e : ℕ). own_looks s ≡ 1 + weight_under turns (weight e s) e []) long (omega (arith, all, to-under turns (weight (length s) s) (length s) [], first)) where
      all : own_looks s ≡ weight_to turns (weight (length s) s) (suc (length s)) []
      all =
          (λ i. sum_by (λ k. sum_by (weight (length s) s) (sym (below-all turns k) i)) (up_to (length s)))
          ∙ ap (λ n. sum_by (λ k. weight_in turns (weight (length s) s) k []) (range_with_len 0 n)) (add-one (length s))

      first : weight (length s) s [] ≡ 1
      first = weight-front (length s) s [] (never-later_front [] s)

    number-is : (s : List Turn) → look_number space look start s ≡ sum_by (looks space look start) (range_with_len 0 (length s)) + own_looks s
    unfolding look_number
    number-is s = refl

    deepening-looks : (d : ℕ) → looks_in (deepening space look start d).events ≡ looks space look start d
    deepening-looks d =
        omega (arith, (in_order-beyond space look d start []).looks, ap (λ (q : Part). q.looks) (deepening_is space look start at_goal by_turn d))

    deepening-paths : (d : ℕ) → paths_in (deepening space look start d).events ≡ reaching space start d
    deepening-paths d =
        (in_order-beyond space look d start []).paths ∙ ap (λ (q : Part). q.paths) (deepening_is space look start at_goal by_turn d)

    abbrev events_of : List ℕ → Events
    events_of ds = flat_map (λ d. (deepening space look start d).events) ds

    pub all-paths : (ds : List ℕ) → paths_in (events_of ds) ≡ flat_map (reaching space start) ds
    all-paths [] = refl
    all-paths (d ∷ ds) =
        paths_in-append (deepening space look start d).events (events_of ds)
        ∙ ap₂ (λ (a b : List (List Turn)). a ++ b) (deepening-paths d) (all-paths ds)

    -- the solutions of each length from one on, behind the shorter deepenings
    pub lengths-numbered : (m n a base : ℕ) → base ≡ m + sum_by (looks space look start) (range_with_len 0 a)
        → HoldsAlong (IsNumbered (look_number space look start) m) (events_of (range_with_len a n)) base
    lengths-numbered m zero a base e = tt
    lengths-numbered m (suc n) a base e =
        HoldsAlong-append (IsNumbered (look_number space look start) m) (deepening space look start a).events (events_of (range_with_len (a + 1) n)) base (base + looks space look start a)
        (omega (arith, deepening-looks a))
        (HoldsAlong-weaker (IsBelow a a [] (suc base)) (IsNumbered (look_number space look start) m) mine (beyond space look start [] a).events (suc base)
        (numbered a a [] (omega arith) (suc base)))
        (lengths-numbered m n (a + 1) (base + looks space look start a) (omega (arith, e, sum_by-range_more (looks space look start) a))) where
          mine : (s : List Turn) (n : ℕ) → IsBelow a a [] (suc base) s n → IsNumbered (look_number space look start) m s n
          mine s n h =
              let shorter : sum_by (looks space look start) (range_with_len 0 (length s)) ≡ sum_by (looks space look start) (range_with_len 0 a) =
              ap (λ (k : ℕ). sum_by (looks space look start) (range_with_len 0 k)) h.long in
              omega (arith, h.at, e, number-is s, own-is s a h.long, shorter)
