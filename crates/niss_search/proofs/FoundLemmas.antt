-- Which solutions a search has handed out that was cut, of a position and so of every cube that has it.
use Rattle.niss_search.proofs.Words.{◌≡◌, arith, length, ◌+◌, ℕ, ap, ◌∙◌, sym, refl, List, true, ◌-◌, ◌&&◌, Bool, Turn, Step, GoalCoordinates, Place}
use Rattle.niss_search.proofs.Words.{filter, nat_le, not, sum_by, count_by, range_with_len, up_to, length-filter, all_canonical, last_length}
use Rattle.niss_search.proofs.Words.{looks, least_length, solutions, look_number, is_looked_at_before, found_within, found_within_of, look_number_of, near_solutions_of, StoppedAt, false, is_later}
use Rattle.niss_search.proofs.Words.{Delivers, all_deepenings, at_limit, EndsAt, WentThrough, IfErr, OnErr, Result, Ok, Err, Path, PositionsFollowCubes, HasPosition}
use Rattle.niss_search.proofs.Words.{positions, distance_at, distance_of, StepTurnsInOrder, Space, Homomorphism, subst}
use Rattle.niss_search.proofs.DeepeningLemmas.{solutions-up_to}
use Rattle.niss_search.proofs.DescentParts.{Events}
use Rattle.niss_search.proofs.Events.{cut-found, stopped-at, paths_in, HoldsAlong, IsNumbered}
use Rattle.niss_search.proofs.LookLemmas.{looked-same, looks-same, solutions-same, distance-cube, distance_at-goal, distance_at-turn, filter-each, canonical-over, IsOver}
use Rattle.niss_search.proofs.OrderLemmas.{turns-in_order}
use Rattle.niss_search.proofs.TreeOrder.{all-paths, lengths-numbered}
use Rattle.niss_search.specs.declared.searching.Outcome.{Outcome}

module _ {turns : List Turn} {S T : Type 0} {IsOf : S → T → Type 0} {from : Space turns S} {to : Space turns T} (alike : Homomorphism IsOf from to)
    (s : S) (x : T) (h : IsOf s x) (f : S → ℕ) (g : T → ℕ) (same : (s : S) (x : T) → IsOf s x → f s ≡ g x)
  where
    number-same : (p : List Turn) → look_number from f s p ≡ look_number to g x p
    unfolding look_number
    number-same p = λ i.
        sum_by (λ d. looks-same alike s x h f g same d i) (range_with_len 0 (length p))
        + sum_by (λ k. counted k i) (up_to (length p)) where
          counted : (k : ℕ) → count_by (is_looked_at_before from f s p) (all_canonical turns k) ≡ count_by (is_looked_at_before to g x p) (all_canonical turns k)
          counted k =
              sym (length-filter (is_looked_at_before from f s p) (all_canonical turns k))
              ∙ ap length (filter-each (IsOver turns) _ _ (all_canonical turns k) (λ q over. ap (λ b. b && not (is_later p q)) (looked-same alike s x h f g same (length p) q over)) (canonical-over turns k))
              ∙ length-filter (is_looked_at_before to g x p) (all_canonical turns k)

    found-same : (n slack made : ℕ) → found_within from f s n slack made ≡ found_within to g x n slack made
    found-same n slack made =
        λ i. filter (λ p. nat_le (number-same p i) made) (solutions-same alike s x h n slack i)

-- The looks and paths of a search, in order.
module _ (in_order : StepTurnsInOrder) (step : Step) (x : List GoalCoordinates) (n slack : ℕ) where
  abbrev events : Events
  events = (all_deepenings (positions step) (distance_at step) x n slack).events

  abbrev number : List Turn → ℕ
  number = look_number (positions step) (distance_at step) x

  abbrev last : ℕ
  last = last_length (least_length (positions step) x n) n slack

  all-numbered : (m : ℕ) → HoldsAlong (IsNumbered number m) events m
  all-numbered m =
      let none : sum_by (looks (positions step) (distance_at step) x) (range_with_len 0 0) ≡ 0 = refl in
      lengths-numbered (positions step) (distance_at step) x (distance_at-goal step) (distance_at-turn step) (turns-in_order in_order step) m (last + 1) 0 m (omega (arith, none))

  all-solutions : paths_in events ≡ solutions (positions step) x n slack
  all-solutions =
      all-paths (positions step) (distance_at step) x (distance_at-goal step) (distance_at-turn step) (turns-in_order in_order step) (up_to last)
      ∙ sym (solutions-up_to (positions step) x n slack)

  module _ {K : Type 0} (took refused : K → List Turn → K → Type 0) (m m1 made : ℕ) (s s1 : K) (is : m1 ≡ m + made) where
    left : m1 - m ≡ made
    left = omega (arith, is)

    found-at : EndsAt took refused true events m s m1 s1 → WentThrough took s (found_within (positions step) (distance_at step) x n slack made) s1
    found-at ends =
        subst (λ (ps : List (List Turn)). WentThrough took s (filter (λ p. nat_le (number p) made) ps) s1) all-solutions
        (subst (λ (k : ℕ). WentThrough took s (filter (λ p. nat_le (number p) k) (paths_in events)) s1) left
        (cut-found number m took refused events m s m1 s1 (omega arith) (all-numbered m) ends))

    stopped-here : EndsAt took refused false events m s m1 s1 → StoppedAt took refused number s (solutions (positions step) x n slack) s1 made
    stopped-here ends =
        subst (λ (ps : List (List Turn)). StoppedAt took refused number s ps s1 made) all-solutions
        (subst (λ (k : ℕ). StoppedAt took refused number s (paths_in events) s1 k) left
        (stopped-at number m took refused events m s m1 s1 (all-numbered m) ends))

-- What a search says of a cube that ended before it was done, by the looks that it made.
module _ (in_order : StepTurnsInOrder) {K E : Type 0} (took refused : K → Path → K → Type 0) (is_cut : E → Bool) (bound : ℕ) (step : Step) (x : List GoalCoordinates) (n slack m m1 : ℕ) (s s1 : K) (law : PositionsFollowCubes)
    (e : Place → Place) (at : HasPosition step e x) (made : ℕ) (is : m1 ≡ m + made)
  where
    pub cut_found : (r : Result Outcome E) → Delivers took refused n (all_deepenings (positions step) (distance_at step) x n slack) m m1 s s1 is_cut bound (λ o. o.solutions) r
        → IfErr r (λ stop. is_cut stop ≡ true → WentThrough (at_limit took n) s (found_within_of step e n slack made) s1)
    cut_found (Ok o) h = tt
    cut_found (Err stop) h = λ cut.
        let same = found-same (law.follow step) e x at (distance_of step) (distance_at step) (distance-cube law step) n slack made in
        let ends = subst (λ (b : Bool). EndsAt (at_limit took n) (at_limit refused n) b (events in_order step x n slack) m s m1 s1) cut h.ends in
        subst (λ (ps : List (List Turn)). WentThrough (at_limit took n) s ps s1) (sym same)
        (found-at in_order step x n slack (at_limit took n) (at_limit refused n) m m1 made s s1 is ends)

    pub stopped_found : (r : Result Outcome E) → Delivers took refused n (all_deepenings (positions step) (distance_at step) x n slack) m m1 s s1 is_cut bound (λ o. o.solutions) r
        → IfErr r (λ stop. is_cut stop ≡ false → StoppedAt (at_limit took n) (at_limit refused n) (look_number_of step e) s (near_solutions_of step e n slack) s1 made)
    stopped_found (Ok o) h = tt
    stopped_found (Err stop) h = λ whole.
        let ends = subst (λ (b : Bool). EndsAt (at_limit took n) (at_limit refused n) b (events in_order step x n slack) m s m1 s1) whole h.ends in
        let r = stopped-here in_order step x n slack (at_limit took n) (at_limit refused n) m m1 made s s1 is ends in
        record {
          front = r.front;
          path = r.path;
          rest = r.rest;
          between = r.between;
          listed = solutions-same (law.follow step) e x at n slack ∙ r.listed;
          went = r.went;
          stopped = r.stopped;
          at = r.at ∙ sym (number-same (law.follow step) e x at (distance_of step) (distance_at step) (distance-cube law step) r.path);
        }

-- without a bound
pub refused_found : {T E : Type 0} (P : Type 0) (r : Result T E) → IfErr r (λ stop. false ≡ false → P) → OnErr r P
refused_found P (Ok o) h = tt
refused_found P (Err stop) h = h refl
