-- The search by lengths: deepenings one after another, and what they are for a cube.
use Rattle.niss_search.proofs.Words.{◌≡◌, arith, length, ◌+◌, ◌<◌, ℕ, ap, ◌∙◌, sym, ◌≤◌, [], List, refl, true, ◌-◌, ◌∷◌, Bool, Turn}
use Rattle.niss_search.proofs.Words.{range_with_len, ◌++◌, flat_map, GoalCoordinates, distance_at, Step, None, positions, Space, Option}
use Rattle.niss_search.proofs.Words.{Some, last_length, looks, reaching, unwrap_or, up_to, all_canonical}
use Rattle.niss_search.proofs.Words.{least_length, solution_lengths, solutions, sum_by, ◌^◌, Place}
use Rattle.niss_search.proofs.Words.{at_limit, min, HasPosition, append-nil, nat_lt, Err, GoesThrough, Ok, Part, for_each}
use Rattle.niss_search.proofs.Words.{PositionsFollowCubes, Result, all_looks, progress_at, OnOk, Path, StopsIn}
use Rattle.niss_search.proofs.Words.{EndedIn, IfErr, WentThrough, near_looks_of, near_solutions_of, option_map_or, Delivers, IfOk, NoSlackIsLeast, suc}
use Rattle.niss_search.proofs.Words.{Contains, All, All-head, All-filter, All-contains_itself, subst, after_all, then_part, deepening}
use Rattle.niss_search.proofs.Words.{all_deepenings, distance_of, find_passes, least_of, Descends}
use Rattle.niss_search.specs.Budgets.{HasSpent}
use Rattle.niss_search.specs.Deepening.{found_by}
use Rattle.std.specs.Prelude.{option_map, slice_get}
use Rattle.niss_search.specs.Laws.{FirstIsLeast, FirstIsLeastIn, NoSlackIsLeastIn}
use Rattle.niss_moves.specs.Canonical.{CanonicalMembers}
use Rattle.niss_search.proofs.Bounds.{looks-sum-small}
use Rattle.niss_search.proofs.ByLength.{is_length, least_below, length-within, least-is, from_least-all}
use Rattle.niss_search.proofs.ByLength.{least-within as least-within_each}
use Rattle.niss_search.proofs.ListLemmas.{range-split, sum_by-range_more, flat_map-range_more}
use Rattle.niss_search.proofs.LookLemmas.{solutions-same, all_looks-same, distance-cube}
use Rattle.niss_search.specs.declared.searching.Outcome.{Outcome}
use Rattle.niss_search.proofs.DescentParts.{Descends-then, StopsIn-before, for_each-append}

-- What is returned of a descent that had counted nothing, by what it did.
module _ {E : Type 0} (is_cut : E → Bool) (bound meter_now count : ℕ) where
  pub found-delivers : {K : Type 0} (took refused : K → Path → K → Type 0) (limit : ℕ) (part : Part) (meter : ℕ) (sink sink_now : K) (said : Result (Unit {0}) E)
      → Descends (at_limit took limit) (at_limit refused limit) part (progress_at meter 0 sink) (progress_at meter_now count sink_now) is_cut bound said
      → Delivers took refused limit part meter meter_now sink sink_now is_cut bound (λ (n : ℕ). n) (found_by count said)
  found-delivers took refused limit part meter sink sink_now (Ok u) made = made
  found-delivers took refused limit part meter sink sink_now (Err stop) made =
      record { stopped = made.stopped; rises = made.rises; looked = made.looked; over = made.over; ends = made.ends }

  pub found-spent : (step : Step) (said : Result (Unit {0}) E) → HasSpent is_cut bound step meter_now said → HasSpent is_cut bound step meter_now (found_by count said)
  found-spent step (Ok u) spent = tt
  found-spent step (Err stop) spent = spent

  pub found-is : (P : ℕ → Type 0) (said : Result (Unit {0}) E) → P count → IfOk (found_by count said) P
  found-is P (Ok u) is = is
  found-is P (Err stop) is = tt

module _ {turns : List Turn} {S : Type 0} (space : Space turns S) (start : S) (n : ℕ) where
  -- the least length is that of the lists of each length
  pub least-of : least_length space start n ≡ least_of (reaching space start) n
  unfolding least_length
  least-of = refl

  least-within : (d : ℕ) → least_length space start n ≡ Some d → d ≤ n
  least-within d e = least-within_each (reaching space start) n d (sym least-of ∙ e)

  -- the solutions are all that reach, up to the last length
  pub solutions-up_to : (slack : ℕ) → solutions space start n slack ≡ flat_map (reaching space start) (up_to (last_length (least_length space start n) n slack))
  unfolding solutions least_length
  solutions-up_to slack = from_least-all (reaching space start) n slack

-- without slack the last length is the least
last-is : (o : Option ℕ) (n : ℕ) → ((d : ℕ) → o ≡ Some d → d ≤ n) → last_length o n 0 ≡ unwrap_or o n
last-is None n h = refl
last-is (Some d) n h = omega (arith, h d refl)

no_slack_in : (S : Type 0) → NoSlackIsLeastIn S
unfolding solutions all_looks
no_slack_in S = record {
  listed = λ turns space start n. listed (reaching space start) n (least_length space start n) (least-within space start n);
  looked = λ turns space look start n. ap (λ k. sum_by (looks space look start) (up_to k)) (last-is (least_length space start n) n (least-within space start n));
} where
  listed : (each : ℕ → List (List Turn)) (n : ℕ) (o : Option ℕ) → ((d : ℕ) → o ≡ Some d → d ≤ n) → flat_map each (solution_lengths o n 0) ≡ option_map_or each o []
  listed each n None h = refl
  listed each n (Some d) h =
      let one : min n (d + 0) + 1 - d ≡ 1 = omega (arith, h d refl) in
      ap (λ k. flat_map each (range_with_len d k)) one ∙ append-nil (each d)

pub no_slack : NoSlackIsLeast
no_slack = (no_slack_in (Place → Place), no_slack_in (List Turn))

-- the first of the sequences that reach at the least length is the first of them all
first_least_in : CanonicalMembers → (S : Type 0) → FirstIsLeastIn S
unfolding solutions least_length
first_least_in members S turns space start n slack = by_least (least_length space start n) refl (least-within space start n) where
  each : ℕ → List (List Turn)
  each = reaching space start

  has_length : (d : ℕ) (p : List Turn) (ps : List (List Turn)) → each d ≡ p ∷ ps → length p ≡ d
  has_length d p ps same =
      let all = all_canonical turns d in
      ((members turns d p).0 (All-head (Contains all) p ps (subst (All (Contains all)) same (All-filter (λ s. space.reached (after_all space start s)) (Contains all) all (All-contains_itself all))))).0

  of_length : (d : ℕ) (found others : List (List Turn)) → each d ≡ found → nat_lt 0 (length found) ≡ true
      → Some d ≡ option_map (length {A = Turn}) (slice_get (found ++ others) 0)
  of_length d [] others same some = absurd (cc some)
  of_length d (p ∷ ps) others same some = ap Some (sym (has_length d p ps same))

  by_least : (o : Option ℕ) → least_length space start n ≡ o → ((d : ℕ) → o ≡ Some d → d ≤ n)
      → o ≡ option_map (length {A = Turn}) (slice_get (flat_map each (solution_lengths o n slack)) 0)
  by_least None same within = refl
  by_least (Some d) same within =
      let count = min n (d + slack) - d in
      let more : min n (d + slack) + 1 - d ≡ suc count = omega (arith, within d refl) in
      of_length d (each d) (flat_map each (range_with_len (d + 1) count)) refl (find_passes (is_length (reaching space start)) (up_to n) d same)
      ∙ ap (λ k. option_map (length {A = Turn}) (slice_get (flat_map each (range_with_len d k)) 0)) (sym more)

pub first_least : CanonicalMembers → FirstIsLeast
first_least members = (first_least_in members (Place → Place), first_least_in members (List Turn))

-- All deepenings are those to each length up to the last.
whole-parts : {turns : List Turn} {S : Type 0} (space : Space turns S) (look : S → ℕ) (start : S) (n slack : ℕ)
    → all_deepenings space look start n slack ≡ for_each (deepening space look start) (up_to (last_length (least_length space start n) n slack))
unfolding all_looks
whole-parts space look start n slack =
    λ i. record { paths = solutions-up_to space start n slack i; looks = all_looks space look start n slack; events = (all_deepenings space look start n slack).events }

-- The deepenings to each length below d were made, in a search for solutions of at most n turns.
module _
    {turns : List Turn} {S : Type 0} (space : Space turns S) (look : S → ℕ) (start : S) (n slack d : ℕ) {K : Type 0}
    {took refused : K → List Turn → K → Type 0} {m0 m1 c : ℕ} {s0 s1 : K}
    (went : GoesThrough took refused (for_each (deepening space look start) (range_with_len 0 d)) (progress_at m0 0 s0) (progress_at m1 c s1))
  where
    abbrev each : ℕ → Part
    each = deepening space look start

    abbrev done : ℕ → Part
    done k = for_each each (range_with_len 0 k)

    done-more : done (d + 1) ≡ then_part (done d) (each d)
    done-more = λ i. record {
      paths = flat_map-range_more (reaching space start) d i;
      looks = sum_by-range_more (looks space look start) d i;
      events = flat_map-range_more (λ k. (each k).events) d i;
    }

    -- one more has room
    pub looks-room : length turns ≤ 18 → m0 ≤ 2 ^ 127 → d ≤ 20 → m1 + (each d).looks < 2 ^ 128
    looks-room few h k =
        omega (arith, went.looked, ap (λ (q : Part). q.looks) done-more, looks-sum-small space look start (d + 1) few (omega arith))

    -- and may go on
    pub goes-on : {m2 e : ℕ} {s2 : K} → GoesThrough took refused (each d) (progress_at m1 0 s1) (progress_at m2 e s2)
        → GoesThrough took refused (done (d + 1)) (progress_at m0 0 s0) (progress_at m2 (c + e) s2)
    goes-on {m2} {e} {s2} h = rw done-more
        (Descends-then {E = Bool} (λ b. b) 0 (Ok tt) (each d) (progress_at m2 (c + e) s2) went
        record { delivered = h.delivered; counted = omega (arith, h.counted); looked = h.looked; along = h.along })

    -- or stop
    pub stops-here : d ≤ last_length (least_below (reaching space start) d) n slack
        → {m2 : ℕ} {s2 : K} {cut : Bool} {bound : ℕ} → StopsIn took refused (each d) (progress_at m1 0 s1) (progress_at m2 0 s2) cut bound
        → StopsIn took refused (all_deepenings space look start n slack) (progress_at m0 0 s0) (progress_at m2 0 s2) cut bound
    stops-here within {m2} {s2} {cut} {bound} h =
        let last = last_length (least_length space start n) n slack in
        let more = range_with_len (d + 1) (last + 1 - (d + 1)) in
        let parts = range-split (d + 1) (last + 1) (omega (arith, ap (λ o. last_length o n slack) (least-of space start n), length-within (reaching space start) n slack d within)) in
        let whole : all_deepenings space look start n slack ≡ then_part (then_part (done d) (each d)) (for_each each more) =
        whole-parts space look start n slack ∙ ap (for_each each) parts ∙ for_each-append each (range_with_len 0 (d + 1)) more ∙ ap (λ q. then_part q (for_each each more)) done-more in
        rw whole
        (StopsIn-before (for_each each more)
        (Descends-then (λ b. b) bound (Err cut) (each d) (progress_at m2 0 s2) went
        record { stopped = h.stopped; rises = h.rises; looked = h.looked; over = h.over; ends = h.ends }))

    -- until the last
    pub all-done : d ≡ last_length (least_below (reaching space start) d) n slack + 1
        → GoesThrough took refused (all_deepenings space look start n slack) (progress_at m0 0 s0) (progress_at m1 c s1)
    all-done end =
        let last : last_length (least_length space start n) n slack + 1 ≡ d = rw (least-of space start n ∙ least-is (reaching space start) n slack d end) (sym end) in
        rw (whole-parts space look start n slack, last) went

-- What a search says of a cube, by what it returns.
pub record Searched {K E : Type 0} (took refused : K → Path → K → Type 0) (is_cut : E → Bool) (bound : ℕ) (step : Step) (e : Place → Place) (n slack m m1 : ℕ) (s s1 : K) (r : Result Outcome E) : Type 0 where
  pub solutions : IfOk r (λ o. o.solutions ≡ length (near_solutions_of step e n slack))
  pub ok : OnOk r (WentThrough (at_limit took n) s (near_solutions_of step e n slack) s1)
  pub err : IfErr r (λ stop. EndedIn (at_limit took n) (at_limit refused n) (is_cut stop) s (near_solutions_of step e n slack) s1)
  pub looks : OnOk r (m1 ≡ m + near_looks_of step e n slack)
  pub looks_at_most : m1 ≤ m + near_looks_of step e n slack
  pub over : IfErr r (λ stop. is_cut stop ≡ true → bound < m + near_looks_of step e n slack)

pub searched : {K E : Type 0} (took refused : K → Path → K → Type 0) (is_cut : E → Bool) (bound : ℕ) (step : Step) (x : List GoalCoordinates) (n slack m m1 : ℕ) (s s1 : K) (r : Result Outcome E)
    → Delivers took refused n (all_deepenings (positions step) (distance_at step) x n slack) m m1 s s1 is_cut bound (λ o. o.solutions) r
    → PositionsFollowCubes → (e : Place → Place) → HasPosition step e x → Searched took refused is_cut bound step e n slack m m1 s s1 r
searched {E = E} took refused is_cut bound step x n slack m m1 s s1 r h law e at = by_result r h where
  found : near_solutions_of step e n slack ≡ solutions (positions step) x n slack
  found = solutions-same (law.follow step) e x at n slack

  looked : near_looks_of step e n slack ≡ all_looks (positions step) (distance_at step) x n slack
  looked = all_looks-same (law.follow step) e x at (distance_of step) (distance_at step) (distance-cube law step) n slack

  by_result : (r : Result Outcome E) → Delivers took refused n (all_deepenings (positions step) (distance_at step) x n slack) m m1 s s1 is_cut bound (λ o. o.solutions) r → Searched took refused is_cut bound step e n slack m m1 s s1 r
  by_result (Ok o) h =
      record { solutions = omega (arith, ap length found, h.counted); ok = rw found h.delivered; err = tt; looks = omega (arith, looked, h.looked); looks_at_most = omega (arith, looked, h.looked); over = tt }
  by_result (Err stop) h =
      record { solutions = tt; ok = tt; err = rw found h.stopped; looks = tt; looks_at_most = omega (arith, looked, h.looked); over = λ t. omega (arith, looked, h.over t) }

-- What passes a bound on the meter passes one on the looks.
pub cut-over : {T E : Type 0} (is_cut : E → Bool) (bound m all looks : ℕ) → (bound < m + all → looks < all) → (r : Result T E)
    → IfErr r (λ stop. is_cut stop ≡ true → bound < m + all) → IfErr r (λ stop. is_cut stop ≡ true → looks < all)
cut-over is_cut bound m all looks passes (Ok o) h = tt
cut-over is_cut bound m all looks passes (Err stop) h = λ t. passes (h t)
