-- The search over both sides part by part: how a sink goes through pairs, what is done for heads, and that all of it is the pairs
-- of a length, by their looks.
use Rattle.niss_search.proofs.Words.{◌≡◌, arith, ◌+◌, ◌<◌, ◌≤◌, ◌-◌, ℕ, suc, zero, ap, ◌∙◌, sym, refl, subst, Bool, true, false, ◌&&◌, ◌||◌, cond, nat_le}
use Rattle.niss_search.proofs.Words.{List, [], ◌∷◌, ◌++◌, length, map, filter, flat_map, sum_by, take, drop, get_or, length-append, append-nil}
use Rattle.niss_search.proofs.Words.{flat_map-append, sum_by-append, sum_by-cons, range_with_len, up_to, take-append-drop, drop_more, all_canonical, below}
use Rattle.niss_search.proofs.Words.{Turn, Step, Place, Follower, turns_of, after_all, reached, reaching, may_follow, last_turn}
use Rattle.niss_search.proofs.Words.{Path, Option, Some, None, last_length, least_of, option_map_or, last_turn-push, IsFollower, ◌==◌}
unfoldable use Rattle.niss_search.proofs.Words.{looks, distance}
use Rattle.std.proofs.lemmas.Bool.{eqb-true}
use Rattle.niss_moves.proofs.CallerLemmas.{and_left, and_right}
unfoldable use Rattle.niss_cube.specs.Steps.{is_idle}
use Rattle.std.specs.Prelude.{IfSome, IfNone}
use Rattle.std.proofs.lemmas.List.Folds.{flat_map-map}
use Rattle.niss_search.proofs.ListLemmas.{filter-flat_map, flat_map-flat_map, sum_by-flat_map, sum_by-map, sum_by-one, before-last}
use Rattle.niss_search.proofs.ByLength.{from_least-all}
use Rattle.niss_search.proofs.DepthFirst.{below-all}
use Rattle.niss_search.proofs.DescentParts.{WentThrough-append, EndedIn-after, EndedIn-before}
use Rattle.niss_search.proofs.InverseLemmas.{apart}
use Rattle.niss_search.proofs.Words.{Result, Ok, Err}
use Rattle.niss_search.specs.BothSides.{Pair, reaches, ends_idle, pairs_of_lengths, splits, HandedOut}
unfoldable use Rattle.niss_search.specs.BothSides.{pairs_with, looks_with, least_pair_length, pair_solutions, pair_looks}
use Rattle.niss_search.specs.BothSides.{looks_of_lengths, first_pairs, leaves_out, skips}
use Rattle.niss_search.proofs.IdleHeads.{idle_head, left_head}
use Rattle.niss_cube.specs.StepLaws.{IdleTurnsLeaveSteps}
use Rattle.niss_search.specs.Budgets.{is_cut_in}
use Rattle.niss_search.specs.declared.budget.Stopped.{Stopped}
use Rattle.niss_search.specs.BothWalk.{HasSearched, once_looked, part_of_length, part_of_search}
use Rattle.niss_search.specs.BothWalk.{PairPart, parts, kept, is_kept, ends_here, after_head, part_of_lengths, on_side, on_other, join}
unfoldable use Rattle.niss_search.specs.BothWalk.{after_heads}
use Rattle.niss_search.specs.declared.searching.both.Ends.{Ends}
use Rattle.niss_search.specs.declared.searching.both.Ends.TheVariants.{Any, NotCounter}
use Rattle.niss_search.specs.declared.searching.both.Sides.{Sides}
use Rattle.niss_search.specs.declared.searching.both.splitting.Side.{Side}
use Rattle.niss_search.specs.declared.searching.both.splitting.Side.TheVariants.{Normal, Inverse}

-- One part after another.
module _ {K : Type 0} (took refused : K → Pair → K → Type 0) (bound : ℕ) where
  -- What is done of a part: the meter is within the bound, and no more was counted than looked at.
  pub record HasDone (part : PairPart) (m n : ℕ) (s t : K) (c : ℕ) : Type 0 where
    pub handed : HandedOut took refused part.pairs part.looks m n s t c
    pub counted : m + c ≤ n
    pub within : n ≤ bound

  pub done-none : (m : ℕ) (s : K) → m ≤ bound → HasDone (record { pairs = []; looks = 0 }) m m s s 0
  done-none m s within = record { handed = record { taken = refl; counted = refl; looked = omega arith }; counted = omega arith; within = within }

  module _ (step : Step) {F T : Type 0} (count : T → ℕ) where
    abbrev Searched : PairPart → (m n : ℕ) (s t : K) → Result T (Stopped F) → Type 0
    Searched part m n s t said = HasSearched took refused bound step count part 0 m n s t said

    pub done-all : (p q : PairPart) → p ≡ q → {m n : ℕ} {s t : K} (v : T) → HasDone q m n s t (count v) → Searched p m n s t (Ok v)
    done-all p q e {m} {n} {s} {t} v h =
        subst (λ (r : PairPart). Searched r m n s t (Ok v)) (sym e) (record { handed = h.handed; counted = omega (arith, h.counted); within = h.within; spent = tt })

    pub searched-same : (p q : PairPart) → p ≡ q → {m n : ℕ} {s t : K} (said : Result T (Stopped F)) → Searched q m n s t said → Searched p m n s t said
    searched-same p q e {m} {n} {s} {t} said h = subst (λ (r : PairPart). Searched r m n s t said) (sym e) h

    -- what is done once a first look was made, with that
    pub look_first : (part : PairPart) {m n o : ℕ} {s t : K} (said : Result T (Stopped F)) → 0 < part.looks → n ≡ m + 1
        → HasSearched took refused bound step count (once_looked part) 1 n o s t said → Searched part m o s t said
    look_first part (Ok v) some tick h = record {
      handed = record { taken = h.handed.taken; counted = h.handed.counted; looked = omega (arith, h.handed.looked, some, tick) };
      counted = omega (arith, h.counted, tick);
      within = h.within;
      spent = tt;
    }
    look_first part (Err stop) some tick h = record {
      handed = record {
        taken = h.handed.taken;
        over = λ cut. omega (arith, h.handed.over cut, some, tick);
        rises = omega (arith, h.handed.rises, tick);
        looked = omega (arith, h.handed.looked, some, tick);
      };
      counted = tt;
      within = h.within;
      spent = h.spent;
    }

  module _ {X : Type 0} (part : X → PairPart) (xs : List X) (x : X) where
    parts-push : parts part (xs ++ x ∷ []) ≡ record { pairs = (parts part xs).pairs ++ (part x).pairs; looks = (parts part xs).looks + (part x).looks }
    parts-push = λ i. record {
      pairs = (flat_map-append (λ y. (part y).pairs) xs (x ∷ []) ∙ ap (λ ps. (parts part xs).pairs ++ ps) (append-nil (part x).pairs)) i;
      looks = (sum_by-append (λ y. (part y).looks) xs (x ∷ []) ∙ ap (λ k. (parts part xs).looks + k) (sum_by-one (λ y. (part y).looks) x)) i;
    }

    parts-split : (ys : List X) → parts part (xs ++ x ∷ ys)
        ≡ record { pairs = (parts part xs).pairs ++ ((part x).pairs ++ (parts part ys).pairs); looks = (parts part xs).looks + ((part x).looks + (parts part ys).looks) }
    parts-split ys = λ i. record {
      pairs = flat_map-append (λ y. (part y).pairs) xs (x ∷ ys) i;
      looks = (sum_by-append (λ y. (part y).looks) xs (x ∷ ys) ∙ ap (λ k. (parts part xs).looks + k) (sum_by-cons (λ y. (part y).looks) x ys)) i;
    }

    module _ {m n o c : ℕ} {s t u : K} (done : HasDone (parts part xs) m n s t c) (step : Step) {F : Type 0} where
      pub parts_more : (d : ℕ) → HasSearched {F = F} took refused bound step (λ (k : ℕ). k) (part x) 0 n o t u (Ok d) → HasDone (parts part (xs ++ x ∷ [])) m o s u (c + d)
      parts_more d h = subst (λ (r : PairPart). HasDone r m o s u (c + d)) (sym parts-push) record {
        handed = record {
          taken = WentThrough-append took refused s t u (parts part xs).pairs (part x).pairs done.handed.taken h.handed.taken;
          counted = omega (arith, done.handed.counted, h.handed.counted, length-append (parts part xs).pairs (part x).pairs);
          looked = omega (arith, done.handed.looked, h.handed.looked);
        };
        counted = omega (arith, done.counted, h.counted);
        within = h.within;
      }

      pub parts_stop : {T : Type 0} (count : T → ℕ) (ys : List X) (stop : Stopped F) → HasSearched took refused bound step (λ (k : ℕ). k) (part x) 0 n o t u (Err stop)
          → HasSearched took refused bound step count (parts part (xs ++ x ∷ ys)) 0 m o s u (Err stop)
      parts_stop count ys stop h = searched-same step count _ _ (parts-split ys) (Err stop) record {
        handed = record {
          taken = EndedIn-after took refused (is_cut_in stop) s t u (parts part xs).pairs ((part x).pairs ++ (parts part ys).pairs) done.handed.taken (EndedIn-before took refused (is_cut_in stop) t u (part x).pairs (parts part ys).pairs h.handed.taken);
          over = λ is. omega (arith, done.handed.looked, h.handed.over is);
          rises = omega (arith, done.handed.looked, h.handed.rises);
          looked = omega (arith, done.handed.looked, h.handed.looked);
        };
        counted = tt;
        within = h.within;
        spent = h.spent;
      }

-- a list to an element, and from there on
pub list_split : {X : Type 0} (xs : List X) (i : ℕ) (d : X) → i < length xs → xs ≡ take i xs ++ get_or xs i d ∷ drop (i + 1) xs
list_split xs i d l = sym (take-append-drop i xs) ∙ ap (λ ys. take i xs ++ ys) (drop_more xs i d l)

-- a range to a number, and from there on
pub range_cut : (a i n : ℕ) → i < n → range_with_len a n ≡ range_with_len a i ++ (a + i) ∷ range_with_len (a + i + 1) (n - i - 1)
range_cut a zero zero l = absurd (omega (arith, l))
range_cut a zero (suc n) l =
    let e : a + zero ≡ a = omega arith in
    let k : suc n - zero - 1 ≡ n = omega arith in
    rw (e, k) refl
range_cut a (suc i) zero l = absurd (omega (arith, l))
range_cut a (suc i) (suc n) l =
    let e : a + 1 + i ≡ a + suc i = omega arith in
    let k : n - i - 1 ≡ suc n - suc i - 1 = omega arith in
    ap (λ (ks : List ℕ). a ∷ ks) (range_cut (a + 1) i n (omega (arith, l)) ∙ (λ j. range_with_len (a + 1) i ++ e j ∷ range_with_len (e j + 1) (k j)))

pub range_push : (a i : ℕ) → range_with_len a (i + 1) ≡ range_with_len a i ++ (a + i) ∷ []
range_push a i =
    let k : i + 1 - i - 1 ≡ 0 = omega arith in
    range_cut a i (i + 1) (omega arith) ∙ ap (λ n. range_with_len a i ++ (a + i) ∷ range_with_len (a + i + 1) n) k

-- a path after a turn was pushed and popped
pub popped : (old pushed now : Path) (t : Turn) (r : Option Turn) → pushed ≡ record { limit = old.limit; turns = old.turns ++ t ∷ [] } → now.limit ≡ pushed.limit
    → IfSome r (λ u. pushed.turns ≡ now.turns ++ u ∷ []) → IfNone r ((pushed.turns ≡ []) × (now.turns ≡ [])) → now ≡ old
popped old pushed now t (Some u) e same some none =
    let turns : now.turns ≡ old.turns = before-last old.turns now.turns t u (sym (ap (λ (p : Path). p.turns) e) ∙ some) in
    let limit : now.limit ≡ old.limit = same ∙ ap (λ (p : Path). p.limit) e in
    λ i. record { limit = limit i; turns = turns i }
popped old pushed now t None e same some none =
    absurd (omega (arith, ap length (sym (ap (λ (p : Path). p.turns) e) ∙ none.0), length-append old.turns (t ∷ [])))

-- Is the last turn of a head idle?
idle-by : (step : Step) (head : List Turn) (f : Follower) → IsFollower step f → ends_idle step (head ++ f.turn ∷ []) ≡ f.is_idle
idle-by step head f is = ap (λ last. option_map_or (is_idle step) last false) (last_turn-push head f.turn) ∙ sym is.2

-- is it left out by it?
left-by : (ends : Ends) (head : List Turn) (t : Turn) → leaves_out ends (head ++ t ∷ []) ≡ skips ends t
left-by Any head t = refl
left-by NotCounter head t = ap (λ last. option_map_or (skips NotCounter) last false) (last_turn-push head t)

ends-by : (ends : Ends) (step : Step) (head : List Turn) (f : Follower) → IsFollower step f
    → ends_here ends step (head ++ f.turn ∷ []) ≡ (skips ends f.turn || f.is_idle)
ends-by ends step head f is = λ i. left-by ends head f.turn i || idle-by step head f is i

-- no turn is never the end
pub no_end : (ends : Ends) (step : Step) → ends_here ends step [] ≡ false
no_end Any step = refl
no_end NotCounter step = refl

pub live_end : (ends : Ends) (step : Step) (head : List Turn) (f : Follower) (left : ℕ) (r : Bool) → IsFollower step f
    → r ≡ (left == 0 && (skips ends f.turn || f.is_idle)) → r ≡ false → left ≡ 0 → ends_here ends step (head ++ f.turn ∷ []) ≡ false
live_end ends step head f left r is test fails none =
    let P : ℕ → Type 0 = λ n. (n == 0 && (skips ends f.turn || f.is_idle)) ≡ false in
    ends-by ends step head f is ∙ subst P none (sym test ∙ fails)

-- What is done for heads: at one alone, and for those with one turn more by that turn.
module _ (ends : Ends) (step : Step) (e : Place → Place) (side : Side) (tail : ℕ) where
  abbrev at : List Turn → PairPart
  at = after_head ends step e side tail

  abbrev pub next_heads : List Turn → ℕ → Follower → PairPart
  next_heads head left f = after_heads ends step e side tail (head ++ f.turn ∷ []) left

  pub heads-end : (head : List Turn) → after_heads ends step e side tail head 0 ≡ after_head ends step e side tail head
  unfolding after_heads
  heads-end head = λ i. record { pairs = append-nil (at head).pairs i; looks = sum_by-one (λ h. (at h).looks) head i }

  -- nothing is done after a head that ends in an idle turn, or is left out
  pub idle_end : (head : List Turn) (f : Follower) (left : ℕ) (r : Bool) → IsFollower step f → r ≡ (left == 0 && (skips ends f.turn || f.is_idle))
      → r ≡ true → after_heads ends step e side tail (head ++ f.turn ∷ []) left ≡ record { pairs = []; looks = 0 }
  idle_end head f left r is test passes =
      let long = head ++ f.turn ∷ [] in
      let by : Bool = skips ends f.turn || f.is_idle in
      let both : (left == 0 && by) ≡ true = sym test ∙ passes in
      let none : left ≡ 0 = eqb-true left 0 (and_left (left == 0) by both) in
      let idle : ends_here ends step long ≡ true = ends-by ends step head f is ∙ and_right (left == 0) by both in
      let here = after_all (on_side side step) e long in
      ap (after_heads ends step e side tail long) none ∙ heads-end long
      ∙ (λ i. record {
        pairs = cond (idle i) [] (kept ends step e (map (join side long) (reaching (on_other side step) here tail)));
        looks = cond (idle i) 0 (looks (on_other side step) (distance (on_other side step)) here tail);
      })

  pub heads-next : (head : List Turn) (left : ℕ) (fs : List Follower) → map (λ f. f.turn) fs ≡ filter (may_follow (last_turn head)) (turns_of step)
      → after_heads ends step e side tail head (suc left) ≡ parts (next_heads head left) fs
  unfolding after_heads
  heads-next head left fs listed = λ i. record { pairs = listed_pairs i; looks = listed_looks i } where
    turns : List Turn
    turns = filter (may_follow (last_turn head)) (turns_of step)

    push : Turn → List Turn
    push t = head ++ t ∷ []

    pairs_at : List Turn → List Pair
    pairs_at h = flat_map (λ q. (at q).pairs) (below (turns_of step) h left)

    looks_at : List Turn → ℕ
    looks_at h = sum_by (λ q. (at q).looks) (below (turns_of step) h left)

    listed_pairs : flat_map (λ q. (at q).pairs) (flat_map (λ q. below (turns_of step) q left) (map push turns)) ≡ flat_map (λ f. pairs_at (push f.turn)) fs
    listed_pairs =
        flat_map-flat_map (λ q. (at q).pairs) (λ q. below (turns_of step) q left) (map push turns)
        ∙ flat_map-map pairs_at push turns
        ∙ ap (flat_map (λ t. pairs_at (push t))) (sym listed)
        ∙ flat_map-map (λ t. pairs_at (push t)) (λ (f : Follower). f.turn) fs

    listed_looks : sum_by (λ q. (at q).looks) (flat_map (λ q. below (turns_of step) q left) (map push turns)) ≡ sum_by (λ f. looks_at (push f.turn)) fs
    listed_looks =
        sum_by-flat_map (λ q. (at q).looks) (λ q. below (turns_of step) q left) (map push turns)
        ∙ sum_by-map looks_at push turns
        ∙ ap (sum_by (λ t. looks_at (push t))) (sym listed)
        ∙ sum_by-map (λ t. looks_at (push t)) (λ (f : Follower). f.turn) fs

-- of a list by two tests, one after another
filter_twice : {X Y : Type 0} (r : X → Bool) (q k : Y → Bool) (g : X → Y) (xs : List X) → ((x : X) → r x ≡ q (g x)) → filter k (map g (filter r xs)) ≡ filter (λ y. q y && k y) (map g xs)
filter_twice r q k g [] same = refl
filter_twice {X} {Y} r q k g (x ∷ xs) same = by_test (r x) (q (g x)) (same x) (filter_twice r q k g xs same) where
  by_test : (a b : Bool) → a ≡ b → filter k (map g (filter r xs)) ≡ filter (λ y. q y && k y) (map g xs)
      → filter k (map g (cond a (x ∷ filter r xs) (filter r xs))) ≡ cond (b && k (g x)) (g x ∷ filter (λ y. q y && k y) (map g xs)) (filter (λ y. q y && k y) (map g xs))
  by_test true true e rest = ap (λ ys. cond (k (g x)) (g x ∷ ys) ys) rest
  by_test false false e rest = rest
  by_test true false e rest = absurd (cc e)
  by_test false true e rest = absurd (cc e)

-- The pairs of a length are those that the heads give.
module _ (ends : Ends) (step : Step) (e : Place → Place) where
  abbrev first : Pair → Bool
  first p = reaches step e p && is_kept ends step e p

  abbrev all : ℕ → List (List Turn)
  all k = all_canonical (turns_of step) k

  reach_alike : (side : Side) (head tail : List Turn) → (on_other side step).reached (after_all (on_other side step) (after_all (on_side side step) e head) tail) ≡ reaches step e (join side head tail)
  reach_alike Normal head tail = ap (reached step) (sym (apart step head e tail))
  reach_alike Inverse head tail = refl

  live_head : (side : Side) (k : ℕ) (head : List Turn)
      → kept ends step e (map (join side head) (reaching (on_other side step) (after_all (on_side side step) e head) k)) ≡ filter first (map (join side head) (all k))
  live_head side k head =
      filter_twice (λ t. (on_other side step).reached (after_all (on_other side step) (after_all (on_side side step) e head) t)) (reaches step e) (is_kept ends step e) (join side head) (all k) (reach_alike side head)

  one_head : IdleTurnsLeaveSteps → (side : Side) (k : ℕ) (head : List Turn) → (after_head ends step e side k head).pairs ≡ filter first (map (join side head) (all k))
  one_head law side k head = by_test (leaves_out ends head) (ends_idle step head) refl refl where
    by_test : (a b : Bool) → leaves_out ends head ≡ a → ends_idle step head ≡ b
        → cond (a || b) [] (kept ends step e (map (join side head) (reaching (on_other side step) (after_all (on_side side step) e head) k))) ≡ filter first (map (join side head) (all k))
    by_test true b out is = sym (left_head ends step e side head (all k) out)
    by_test false true out is = sym (idle_head law ends step e side head (all k) is)
    by_test false false out is = live_head side k head

  abbrev start : Side → (tail head : ℕ) → PairPart
  start side tail head = after_heads ends step e side tail [] head

  start-pairs : IdleTurnsLeaveSteps → (side : Side) (tail head : ℕ) → (start side tail head).pairs ≡ filter first (flat_map (λ h. map (join side h) (all tail)) (all head))
  unfolding after_heads
  start-pairs law side tail head =
      ap (flat_map (λ h. (after_head ends step e side tail h).pairs)) (below-all (turns_of step) head)
      ∙ (λ i. flat_map (λ h. one_head law side tail h i) (all head))
      ∙ sym (filter-flat_map first (λ h. map (join side h) (all tail)) (all head))

  start-looks : (side : Side) (tail head : ℕ) → (start side tail head).looks ≡ sum_by (λ h. (after_head ends step e side tail h).looks) (all head)
  unfolding after_heads
  start-looks side tail head = ap (sum_by (λ h. (after_head ends step e side tail h).looks)) (below-all (turns_of step) head)

  lengths-pairs : IdleTurnsLeaveSteps → (i j : ℕ) → (part_of_lengths ends step e i j).pairs ≡ filter first (pairs_of_lengths (turns_of step) i j)
  lengths-pairs law i j = by_test (nat_le i j) refl where
    by_test : (b : Bool) → nat_le i j ≡ b → (part_of_lengths ends step e i j).pairs ≡ filter first (pairs_of_lengths (turns_of step) i j)
    by_test true is = rw is (start-pairs law Normal j i)
    by_test false is = rw is (start-pairs law Inverse i j)

  lengths-looks : (i j : ℕ) → (part_of_lengths ends step e i j).looks ≡ looks_of_lengths step e ends i j
  lengths-looks i j = by_test (nat_le i j) refl where
    by_test : (b : Bool) → nat_le i j ≡ b → (part_of_lengths ends step e i j).looks ≡ looks_of_lengths step e ends i j
    by_test true is = rw is (start-looks Normal j i)
    by_test false is = rw is (start-looks Inverse i j)

  -- what is done for so many of the turns of a length on the normal side
  abbrev pub part_of_split : ℕ → ℕ → PairPart
  part_of_split n i = part_of_lengths ends step e i (n - i)

  pub length-parts : IdleTurnsLeaveSteps → (sides : Sides) (n : ℕ) → part_of_length ends step e sides n ≡ parts (part_of_split n) (splits sides n)
  unfolding pairs_with looks_with
  length-parts law sides n = λ i. record {
    pairs = (filter-flat_map first (λ k. pairs_of_lengths (turns_of step) k (n - k)) (splits sides n) ∙ sym (λ j. flat_map (λ k. lengths-pairs law k (n - k) j) (splits sides n))) i;
    looks = sym (λ j. sum_by (λ k. lengths-looks k (n - k) j) (splits sides n)) i;
  }

-- and up to the last length
module _ (step : Step) (e : Place → Place) where
  pub whole-parts : (sides : Sides) (n slack : ℕ) → part_of_search step e sides n slack ≡ parts (part_of_length Any step e sides) (up_to (last_length (least_of (first_pairs step e sides) n) n slack))
  unfolding pair_solutions pair_looks least_pair_length
  whole-parts sides n slack = λ i. record { pairs = from_least-all (first_pairs step e sides) n slack i; looks = pair_looks step e sides n slack }

  pub least-is_of : (sides : Sides) (n : ℕ) → least_pair_length step e sides n ≡ least_of (first_pairs step e sides) n
  unfolding least_pair_length
  least-is_of sides n = refl
