-- The sequences that come after one, turn by turn and length by length, and what a search for them says of a cube.
use Rattle.niss_search.proofs.Words.{◌≡◌, arith, length, ◌+◌, ◌<◌, ℕ, ap, ◌∙◌, sym, ◌≤◌, [], List, refl, true, false, ◌-◌, ◌∷◌, Bool, Turn}
use Rattle.niss_search.proofs.Words.{cond, suc, range_with_len, ◌++◌, flat_map, filter, drop, take, get_or, append_assoc, append-nil}
use Rattle.niss_search.proofs.Words.{may_follow, last_turn, turn_place, no_turn, length-drop, ◌==◌, nat_lt, eqb_tells}
use Rattle.niss_search.proofs.Words.{eq-eqb, ne_eqb, lt-ltb, inl, inr}
use Rattle.niss_search.proofs.Words.{Part, only_looks, then_part, for_each, later, later_at, below_at, beyond_at, by_place}
use Rattle.niss_search.proofs.Words.{later_turn_at, all_after, comes_after, looks, deepening, positions}
use Rattle.niss_search.proofs.Words.{distance_at, Step, GoalCoordinates, turns_of, up_to}
use Rattle.niss_search.proofs.Words.{sum_by, position_after, le-leb, lt-leb}
use Rattle.niss_search.proofs.Words.{add-zero, take_all, take-append-drop, ◌*◌, ◌^◌}
use Rattle.std.proofs.lemmas.List.{take_more}
use Rattle.niss_search.proofs.ListLemmas.{range_with_len-append}
use Rattle.niss_search.proofs.LookLemmas.{reaching-same, looks-same, distance-cube}
use Rattle.niss_search.proofs.Words.{GoesThrough, StopsIn, progress_at, Ok, Err, Path, Place, at_limit, Result, IfOk, OnOk, IfErr, WentThrough}
use Rattle.niss_search.proofs.Words.{EndedIn, EndsAt, Delivers, PositionsFollowCubes, HasPosition, sequences_after, deepening_looks_of, distance_of, cubes}
use Rattle.niss_search.proofs.DescentParts.{for_each-cons, for_each-append, Descends-then, StopsIn-before, BeginsByLook}
use Rattle.niss_search.proofs.Bounds.{looks-sum-small, turns_of-length}
use Rattle.niss_search.proofs.AfterLemmas.{passed, after_below, later_turn, all_after-paths, all_after-looks, after_below-looks}

-- Parts one after another.
part-assoc : (a b c : Part) → then_part (then_part a b) c ≡ then_part a (then_part b c)
part-assoc a b c =
    let same : a.looks + b.looks + c.looks ≡ a.looks + (b.looks + c.looks) = omega arith in
    λ i. record { paths = append_assoc a.paths b.paths c.paths i; looks = same i; events = append_assoc a.events b.events c.events i }

part-none : (a : Part) → then_part a (only_looks 0) ≡ a
part-none a = λ i. record { paths = append-nil a.paths i; looks = add-zero a.looks i; events = append-nil a.events i }

none-part : (a : Part) → then_part (only_looks 0) a ≡ a
none-part a =
    let same : 0 + a.looks ≡ a.looks = omega arith in
    λ i. record { paths = a.paths; looks = same i; events = a.events }

module _ {X : Type 0} (part : X → Part) where
  for_each-one : (x : X) → for_each part (x ∷ []) ≡ part x
  for_each-one x = for_each-cons part x [] ∙ part-none (part x)

  for_each-filter : (test : X → Bool) (xs : List X) → for_each part (filter test xs) ≡ for_each (λ x. cond (test x) (part x) (only_looks 0)) xs
  for_each-filter test [] = refl
  for_each-filter test (x ∷ xs) =
      by_test (test x) (for_each-filter test xs) ∙ sym (for_each-cons (λ y. cond (test y) (part y) (only_looks 0)) x xs) where
        by_test : (b : Bool) → for_each part (filter test xs) ≡ for_each (λ y. cond (test y) (part y) (only_looks 0)) xs
            → for_each part (cond b (x ∷ filter test xs) (filter test xs))
            ≡ then_part (cond b (part x) (only_looks 0)) (for_each (λ y. cond (test y) (part y) (only_looks 0)) xs)
        by_test true h = for_each-cons part x (filter test xs) ∙ ap (then_part (part x)) h
        by_test false h = h ∙ sym (none-part (for_each (λ y. cond (test y) (part y) (only_looks 0)) xs))

-- What is done of the later ones, turn by turn.
module _ (step : Step) (x : List GoalCoordinates) (p : List Turn) where
  pub later_at-none : (ts : List Turn) → length ts ≡ 0 → later_at step x p ts ≡ only_looks 0
  unfolding later later_at
  later_at-none [] h = refl
  later_at-none (t ∷ ts) h = absurd (omega (arith, h))

  pub later_at-some : (ts : List Turn) → 0 < length ts → 1 ≤ (later_at step x p ts).looks
  unfolding later later_at
  later_at-some [] h = absurd (omega (arith, h))
  later_at-some (t ∷ ts) h = omega arith

  pub later_at-begins : (ts : List Turn) → 0 < length ts → BeginsByLook (later_at step x p ts).events
  unfolding later later_at
  later_at-begins [] h = absurd (omega (arith, h))
  later_at-begins (t ∷ ts) h = tt

  pub later_at-far : (ts : List Turn) → 0 < length ts → length ts < distance_at step x → later_at step x p ts ≡ only_looks 1
  unfolding later later_at
  later_at-far [] h far = absurd (omega (arith, h))
  later_at-far (t ∷ ts) h far = rw (lt-leb (distance_at step x) (suc (length ts)) far) refl

  pub later_at-near : (ts : List Turn) → 0 < length ts → distance_at step x ≤ length ts → later_at step x p ts ≡ passed step x p ts (length (turns_of step))
  unfolding later later_at beyond_at
  later_at-near [] h near = absurd (omega (arith, h))
  later_at-near (t ∷ ts) h near =
      let rest : length ts ≡ length (t ∷ ts) - 1 = omega arith in
      let whole : take (length (turns_of step)) (turns_of step) ≡ turns_of step = take_all (length (turns_of step)) (turns_of step) (omega arith) in
      rw (le-leb (distance_at step x) (suc (length ts)) near, whole)
      (ap (then_part (only_looks 1))
      (for_each-filter (later_turn (positions step) (distance_at step) x p t ts) (may_follow (last_turn p)) (turns_of step)
      ∙ (λ i. for_each (λ u. cond (may_follow (last_turn p) u)
      (by_place t u (later_at step (position_after x u) (p ++ u ∷ []) ts) (below_at step (position_after x u) (p ++ u ∷ []) (rest i)))
      (only_looks 0)) (turns_of step))))

  module _ (ts : List Turn) (i : ℕ) (d : Turn) (inside : i < length (turns_of step)) where
    abbrev turn_part : Turn → Part
    turn_part = later_turn_at step x p ts

    abbrev this : Turn
    this = get_or (turns_of step) i d

    pub passed-more : passed step x p ts (i + 1) ≡ then_part (passed step x p ts i) (turn_part this)
    passed-more =
        ap (λ us. then_part (only_looks 1) (for_each turn_part us)) (take_more (turns_of step) i d inside)
        ∙ ap (then_part (only_looks 1)) (for_each-append turn_part (take i (turns_of step)) (this ∷ []) ∙ ap (then_part (for_each turn_part (take i (turns_of step)))) (for_each-one turn_part this))
        ∙ sym (part-assoc (only_looks 1) (for_each turn_part (take i (turns_of step))) (turn_part this))

    pub later_at-split : 0 < length ts → distance_at step x ≤ length ts
        → later_at step x p ts ≡ then_part (then_part (passed step x p ts i) (turn_part this)) (for_each turn_part (drop (i + 1) (turns_of step)))
    later_at-split some near =
        let all = turns_of step in
        let whole : take (length all) all ≡ take (i + 1) all ++ drop (i + 1) all = take_all (length all) all (omega arith) ∙ sym (take-append-drop (i + 1) all) in
        later_at-near ts some near
        ∙ ap (λ us. then_part (only_looks 1) (for_each turn_part us)) whole
        ∙ ap (then_part (only_looks 1)) (for_each-append turn_part (take (i + 1) all) (drop (i + 1) all))
        ∙ sym (part-assoc (only_looks 1) (for_each turn_part (take (i + 1) all)) (for_each turn_part (drop (i + 1) all)))
        ∙ ap (λ q. then_part q (for_each turn_part (drop (i + 1) all))) passed-more

    pub passed-room : 0 < length ts → distance_at step x ≤ length ts
        → (passed step x p ts i).looks + (turn_part this).looks ≤ (later_at step x p ts).looks
    passed-room some near = omega (arith, ap (λ (q : Part). q.looks) (later_at-split some near))

-- What is done of the later ones, length by length.
-- behind a turn that isn't before the other: what is due at this one, or after it
by_place-later : (first place : ℕ) (same later : Part) → first ≤ place → cond (first == place) same (cond (nat_lt first place) later (only_looks 0)) ≡ cond (place == first) same later
by_place-later first place same later h = elim (eqb_tells first place) [
  | inl e ↦ rw (e.0, eq-eqb place first (sym e.1)) refl
  | inr e ↦ rw (e.0, ne_eqb place first (λ q. e.1 (sym q)), lt-ltb first place (omega (arith, e.1))) refl
]

pub later_turn-goes_on : (step : Step) (x : List GoalCoordinates) (p ts rest : List Turn) (u : Turn) (place first : ℕ) → place ≡ turn_place u → first ≡ turn_place (get_or ts 0 no_turn) → may_follow (last_turn p) u ≡ true → first ≤ place → rest ≡ drop 1 ts
    → later_turn_at step x p ts u ≡ cond (place == first) (later_at step (position_after x u) (p ++ u ∷ []) rest) (below_at step (position_after x u) (p ++ u ∷ []) (length rest))
later_turn-goes_on step x p ts rest u place first at_place at_first follows least behind =
    let size : length rest ≡ length ts - 1 = omega (arith, ap length behind, length-drop 1 ts) in
    let same = λ (qs : List Turn). later_at step (position_after x u) (p ++ u ∷ []) qs in
    let later = λ (k : ℕ). below_at step (position_after x u) (p ++ u ∷ []) k in
    let due = by_place-later first place (same rest) (later (length rest)) least in
    rw follows (rw (← at_place, ← at_first, ← behind, ← size) due)

module _ (step : Step) (x : List GoalCoordinates) (ts : List Turn) where
  abbrev one_length : ℕ → Part
  one_length = deepening (positions step) (distance_at step) x

  -- the looks are few
  pub after_below-small : (d : ℕ) → length ts + 1 ≤ d → d ≤ 21 → (after_below step x ts d).looks ≤ 21 * (21 * 18 ^ 20)
  after_below-small d h l =
      omega (arith, after_below-looks step x ts d h, looks-sum-small (positions step) (distance_at step) x d (turns_of-length step) l)

  pub later_at-small : length ts ≤ 20 → (later_at step x [] ts).looks ≤ 21 * (21 * 18 ^ 20)
  later_at-small h = omega (arith, after_below-small (length ts + 1) (omega arith) (omega (arith, h)))

  -- one length more
  pub after_below-more : (d : ℕ) → length ts + 1 ≤ d → after_below step x ts (d + 1) ≡ then_part (after_below step x ts d) (one_length d)
  after_below-more d h =
      let k = length ts + 1 in
      let count : d + 1 - k ≡ d - k + 1 = omega (arith, h) in
      let last : k + (d - k) ≡ d = omega (arith, h) in
      ap (λ m. then_part (later_at step x [] ts) (for_each one_length (range_with_len k m))) count
      ∙ ap (λ ks. then_part (later_at step x [] ts) (for_each one_length ks)) (range_with_len-append k (d - k) 1 ∙ ap (λ j. range_with_len k (d - k) ++ j ∷ []) last)
      ∙ ap (then_part (later_at step x [] ts)) (for_each-append one_length (range_with_len k (d - k)) (d ∷ []) ∙ ap (then_part (for_each one_length (range_with_len k (d - k)))) (for_each-one one_length d))
      ∙ sym (part-assoc (later_at step x [] ts) (for_each one_length (range_with_len k (d - k))) (one_length d))

  -- up to the last
  pub all_after-is : (n : ℕ) → length ts ≤ n → all_after step x n ts ≡ after_below step x ts (n + 1)
  all_after-is n h =
      let count : n - length ts ≡ n + 1 - (length ts + 1) = omega (arith, h) in
      rw (le-leb (length ts) n h) (ap (λ m. then_part (later_at step x [] ts) (for_each one_length (range_with_len (length ts + 1) m))) count)

  pub all_after-split : (n d : ℕ) → length ts + 1 ≤ d → d ≤ n
      → all_after step x n ts ≡ then_part (then_part (after_below step x ts d) (one_length d)) (for_each one_length (range_with_len (d + 1) (n - d)))
  all_after-split n d h l =
      let k = length ts + 1 in
      let count : n - length ts ≡ d + 1 - k + (n - d) = omega (arith, h, l) in
      let next : k + (d + 1 - k) ≡ d + 1 = omega (arith, h) in
      rw (le-leb (length ts) n (omega (arith, h, l)))
      (ap (λ m. then_part (later_at step x [] ts) (for_each one_length (range_with_len k m))) count
      ∙ ap (λ ks. then_part (later_at step x [] ts) (for_each one_length ks)) (range_with_len-append k (d + 1 - k) (n - d) ∙ ap (λ j. range_with_len k (d + 1 - k) ++ range_with_len j (n - d)) next)
      ∙ ap (then_part (later_at step x [] ts)) (for_each-append one_length (range_with_len k (d + 1 - k)) (range_with_len (d + 1) (n - d)))
      ∙ sym (part-assoc (later_at step x [] ts) (for_each one_length (range_with_len k (d + 1 - k))) (for_each one_length (range_with_len (d + 1) (n - d))))
      ∙ ap (λ q. then_part q (for_each one_length (range_with_len (d + 1) (n - d)))) (after_below-more d h))

  pub all_after-start : (n : ℕ) → length ts ≤ n
      → all_after step x n ts ≡ then_part (later_at step x [] ts) (for_each one_length (range_with_len (length ts + 1) (n - length ts)))
  all_after-start n h = rw (le-leb (length ts) n h) refl

  pub all_after-none : (n : ℕ) → n < length ts → all_after step x n ts ≡ only_looks 0
  all_after-none n h = rw (lt-leb (length ts) n h) refl

-- The later ones of each length below d were handed out.
module _
    (step : Step) (x : List GoalCoordinates) (ts : List Turn) (d : ℕ) {K : Type 0} {took refused : K → List Turn → K → Type 0}
    {m0 m1 c : ℕ} {s0 s1 : K} (went : GoesThrough took refused (after_below step x ts d) (progress_at m0 0 s0) (progress_at m1 c s1))
    (from : length ts + 1 ≤ d)
  where
    abbrev next : Part
    next = deepening (positions step) (distance_at step) x d

    -- one length more has room
    pub room_after : m0 ≤ 2 ^ 127 → d ≤ 20 → m1 + next.looks < 2 ^ 128
    room_after few within =
        omega (arith, went.looked, ap (λ (q : Part). q.looks) (after_below-more step x ts d from), after_below-small step x ts (d + 1) (omega (arith, from)) (omega (arith, within)))

    -- and may go on
    pub goes-on_after : {m2 e : ℕ} {s2 : K} → GoesThrough took refused next (progress_at m1 0 s1) (progress_at m2 e s2)
        → GoesThrough took refused (after_below step x ts (d + 1)) (progress_at m0 0 s0) (progress_at m2 (c + e) s2)
    goes-on_after {m2} {e} {s2} h = rw (after_below-more step x ts d from)
        (Descends-then {E = Bool} (λ b. b) 0 (Ok tt) next (progress_at m2 (c + e) s2) went
        record { delivered = h.delivered; counted = omega (arith, h.counted); looked = h.looked; along = h.along })

    -- or stop
    pub stops_after : (n : ℕ) → d ≤ n → {m2 : ℕ} {s2 : K} {cut : Bool} {bound : ℕ} → StopsIn took refused next (progress_at m1 0 s1) (progress_at m2 0 s2) cut bound
        → StopsIn took refused (all_after step x n ts) (progress_at m0 0 s0) (progress_at m2 0 s2) cut bound
    stops_after n within {m2} {s2} {cut} {bound} h =
        rw (all_after-split step x ts n d from within)
        (StopsIn-before (for_each (deepening (positions step) (distance_at step) x) (range_with_len (d + 1) (n - d)))
        (Descends-then (λ b. b) bound (Err cut) next (progress_at m2 0 s2) went
        record { stopped = h.stopped; rises = h.rises; looked = h.looked; over = h.over; ends = h.ends }))

-- those of the same length
pub starts_after : (step : Step) (x : List GoalCoordinates) (ts : List Turn) → after_below step x ts (length ts + 1) ≡ later_at step x [] ts
starts_after step x ts =
    let none : length ts + 1 - (length ts + 1) ≡ 0 = omega arith in
    ap (λ m. then_part (later_at step x [] ts) (for_each (deepening (positions step) (distance_at step) x) (range_with_len (length ts + 1) m))) none
    ∙ part-none (later_at step x [] ts)

-- What a search for the later ones says of a cube, by what it returns.
pub record AfterSearched {K E : Type 0} (took refused : K → Path → K → Type 0) (is_cut : E → Bool) (bound : ℕ) (step : Step) (e : Place → Place) (n : ℕ) (ts : List Turn) (m m1 : ℕ) (s s1 : K) (r : Result ℕ E) : Type 0 where
  pub solutions : IfOk r (λ count. count ≡ length (sequences_after step e n ts))
  pub ok : OnOk r (WentThrough (at_limit took n) s (sequences_after step e n ts) s1)
  pub err : IfErr r (λ stop. EndedIn (at_limit took n) (at_limit refused n) (is_cut stop) s (sequences_after step e n ts) s1)
  pub looks_at_most : m1 ≤ m + deepening_looks_of step e n
  pub over : IfErr r (λ stop. is_cut stop ≡ true → bound < m + deepening_looks_of step e n)

pub after_searched : {K E : Type 0} (took refused : K → Path → K → Type 0) (is_cut : E → Bool) (bound : ℕ) (step : Step) (x : List GoalCoordinates) (n : ℕ) (ts : List Turn) (m m1 : ℕ) (s s1 : K) (r : Result ℕ E)
    → Delivers took refused n (all_after step x n ts) m m1 s s1 is_cut bound (λ count. count) r
    → PositionsFollowCubes → (e : Place → Place) → HasPosition step e x → AfterSearched took refused is_cut bound step e n ts m m1 s s1 r
after_searched {E = E} took refused is_cut bound step x n ts m m1 s s1 r h law e at = by_result r h where
  found : sequences_after step e n ts ≡ (all_after step x n ts).paths
  found = (λ i. filter (comes_after ts) (flat_map (λ k. reaching-same (law.follow step) e x at k i) (up_to n))) ∙ all_after-paths step x ts n

  looked : deepening_looks_of step e n ≡ sum_by (looks (positions step) (distance_at step) x) (up_to n)
  looked = λ i. sum_by (λ d. looks-same (law.follow step) e x at (distance_of step) (distance_at step) (distance-cube law step) d i) (up_to n)

  by_result : (r : Result ℕ E) → Delivers took refused n (all_after step x n ts) m m1 s s1 is_cut bound (λ count. count) r → AfterSearched took refused is_cut bound step e n ts m m1 s s1 r
  by_result (Ok count) h =
      record { solutions = omega (arith, ap length found, h.counted); ok = rw found h.delivered; err = tt; looks_at_most = omega (arith, looked, h.looked, all_after-looks step x ts n); over = tt }
  by_result (Err stop) h =
      record { solutions = tt; ok = tt; err = rw found h.stopped; looks_at_most = omega (arith, looked, h.looked, all_after-looks step x ts n); over = λ t. omega (arith, looked, h.over t, all_after-looks step x ts n) }

-- what went through made all of its looks
pub after_looked : {K E : Type 0} (took refused : K → Path → K → Type 0) (is_cut : E → Bool) (bound : ℕ) (part : Part) (n m m1 : ℕ) (s s1 : K) (r : Result ℕ E)
    → Delivers took refused n part m m1 s s1 is_cut bound (λ count. count) r → OnOk r (m1 ≡ m + part.looks)
after_looked took refused is_cut bound part n m m1 s s1 (Ok count) h = h.looked
after_looked took refused is_cut bound part n m m1 s s1 (Err stop) h = tt

-- one that ended before has gone along its looks and paths up to there
pub after_ended : {K E : Type 0} (took refused : K → Path → K → Type 0) (is_cut : E → Bool) (bound : ℕ) (part : Part) (n m m1 : ℕ) (s s1 : K) (r : Result ℕ E)
    → Delivers took refused n part m m1 s s1 is_cut bound (λ count. count) r
    → IfErr r (λ stop. EndsAt (at_limit took n) (at_limit refused n) (is_cut stop) part.events m s m1 s1)
after_ended took refused is_cut bound part n m m1 s s1 (Ok count) h = tt
after_ended took refused is_cut bound part n m m1 s s1 (Err stop) h = h.ends

-- the looks up to a length are few
pub deepening_looks-small : (step : Step) (e : Place → Place) (n : ℕ) → n ≤ 20 → deepening_looks_of step e n ≤ 21 * (21 * 18 ^ 20)
deepening_looks-small step e n h =
    looks-sum-small (cubes step) (distance_of step) e (n + 1) (turns_of-length step) (omega (arith, h))
