-- From what a search did to a count of its solutions to what is answered of it.
use Rattle.std.proofs.Common.{◌≡◌, inl, inr, ℕ, suc, ◌+◌, ◌<◌, ◌≤◌, min, true, false, None, Ok, Err, List, [], ◌∷◌}
use Rattle.std.proofs.Common.{take, length, refl, sym, ap, ◌∙◌, subst, arith}
use Rattle.std.specs.Prelude.{is_err, OnOk, IfErr}
use Rattle.std.proofs.lemmas.List.{length-take-le}
use Rattle.niss_moves.specs.Places.{Place}
use Rattle.niss_search.specs.Budgets.{is_cut_in, HasSpent}
use Rattle.niss_search.specs.LookNumbers.{found_within_of, look_number_of}
use Rattle.niss_search.specs.Delivery.{WentThrough, StoppedAt, StoppedIn, WentInto, EndedIn}
use Rattle.niss_search.specs.Laws.{FirstIsLeast}
use Rattle.niss_search.specs.declared.budget.Stopped.TheVariants as ending
use Rattle.niss_shell.specs.Names.{Turn, Step}
use Rattle.niss_embed.specs.LineSearch.{CountState, count_state, Counts, CountsNoMore, CountsCube, capped, is_cut, all_found, looks_for_all}
use Rattle.niss_embed.specs.declared.line.search.CountedSolutions.{CountedSolutions}
use Rattle.niss_embed.specs.declared.line.search.Wanted.{Wanted}
use Rattle.niss_embed.proofs.SolveLemmas.{at_front, finds_all, finds_some, finds_cut, told_of, Found, at_most_min, min_is_left, min_is_right}
use Rattle.niss_embed.proofs.WrittenLemmas.{first_of, first_of-more}

abbrev pub tally_of : CountedSolutions → CountState
tally_of c = count_state c.solutions c.most c.first

abbrev pub CountsPath : CountedSolutions → List Turn → CountedSolutions → Type 0
CountsPath old turns new = Counts turns (tally_of old) (tally_of new)

abbrev pub RefusesMore : CountedSolutions → List Turn → CountedSolutions → Type 0
RefusesMore old turns new = CountsNoMore turns (tally_of old) (tally_of new)

-- Some solutions were counted one after another.
record Tallied (ps : List (List Turn)) (old new : CountState) : Type 0 where
  counted : new.solutions ≡ old.solutions + length ps
  same_most : new.most ≡ old.most
  first : new.first ≡ first_of old.first ps

tallied_none : (a : CountState) → Tallied [] a a
tallied_none a = record { counted = omega arith; same_most = refl; first = refl }

tallied_more : (p : List Turn) (ps : List (List Turn)) (a m b : CountState) → Counts p a m → Tallied ps m b → Tallied (p ∷ ps) a b
tallied_more p ps a m b t w = record {
  counted = omega (arith, w.counted, t.counted);
  same_most = w.same_most ∙ t.same_most;
  first = w.first ∙ ap (λ o. first_of o ps) t.first ∙ first_of-more a.first p ps;
}

went : (ps : List (List Turn)) (a b : CountedSolutions) → WentThrough CountsPath a ps b → Tallied ps (tally_of a) (tally_of b)
went [] a b h = subst (λ k. Tallied [] (tally_of a) (tally_of k)) h (tallied_none (tally_of a))
went (p ∷ ps) a b h = tallied_more p ps (tally_of a) (tally_of h.0) (tally_of b) h.1.0 (went ps h.0 b h.1.1)

-- Some of the first were counted, and the next one wasn't, since there are as many as there may be.
pub record Filled (ps : List (List Turn)) (old new : CountState) : Type 0 where
  pub count : ℕ
  pub within : count < length ps
  pub counted : new.solutions ≡ old.solutions + count
  pub full : new.solutions ≡ new.most
  pub same_most : new.most ≡ old.most
  pub first : new.first ≡ first_of old.first ps

pub stop : (ps : List (List Turn)) (a b : CountedSolutions) → StoppedIn CountsPath RefusesMore a ps b → Filled ps (tally_of a) (tally_of b)
stop [] a b h = absurd h
stop (p ∷ ps) a b (inl h) = record {
  count = 0;
  within = omega arith;
  counted = omega (arith, h.same_count);
  full = h.same_count ∙ h.full ∙ sym h.same_most;
  same_most = h.same_most;
  first = h.first;
}
stop (p ∷ ps) a b (inr h) =
    let s = stop ps h.0 b h.1.1 in
    let t = h.1.0 in record {
      count = suc s.count;
      within = omega (arith, s.within);
      counted = omega (arith, s.counted, t.counted);
      full = s.full;
      same_most = s.same_most ∙ t.same_most;
      first = s.first ∙ ap (λ o. first_of o ps) t.first ∙ first_of-more a.first p ps;
    }

-- Some of the first were counted, and no other came.
record Begun (ps : List (List Turn)) (old new : CountState) : Type 0 where
  count : ℕ
  within : count ≤ length ps
  took : Tallied (take count ps) old new

into : (ps : List (List Turn)) (a b : CountedSolutions) → WentInto CountsPath a ps b → Begun ps (tally_of a) (tally_of b)
into [] a b h = record { count = 0; within = omega arith; took = subst (λ k. Tallied [] (tally_of a) (tally_of k)) h (tallied_none (tally_of a)) }
into (p ∷ ps) a b (inl h) = record { count = 0; within = omega arith; took = subst (λ k. Tallied [] (tally_of a) (tally_of k)) h (tallied_none (tally_of a)) }
into (p ∷ ps) a b (inr h) =
    let r = into ps h.0 b h.1.1 in
    record { count = suc r.count; within = omega (arith, r.within); took = tallied_more p (take r.count ps) (tally_of a) (tally_of h.0) (tally_of b) h.1.0 r.took }

-- a search from a cube, by what it did to the count
module _ (step : Step) (w : Wanted) (e : Place → Place) (a b : CountedSolutions) (r : Found)
    (ok : OnOk r (WentThrough CountsPath a (all_found step w e) b))
    (err : IfErr r (λ stop. EndedIn CountsPath RefusesMore (is_cut_in stop) a (all_found step w e) b))
    (begins : tally_of a ≡ count_state 0 w.most None) (least : FirstIsLeast) (looks : ℕ)
    (looked : OnOk r (looks ≡ looks_for_all step w e)) (at_most : looks ≤ looks_for_all step w e) (within : capped looks ≤ w.most_nodes)
    (cut : IfErr r (λ stop. is_cut_in stop ≡ true → w.most_nodes < looks_for_all step w e))
    (spent : HasSpent is_cut_in w.most_nodes step (capped looks) r)
    (found : IfErr r (λ stop. is_cut_in stop ≡ true → WentThrough CountsPath a (found_within_of step e w.limit w.slack looks) b))
    (few : IfErr r (λ stop. is_cut_in stop ≡ true → capped looks ≡ looks))
    (stopped : IfErr r (λ stop. is_cut_in stop ≡ false → StoppedAt CountsPath RefusesMore (look_number_of step e) a (all_found step w e) b looks)) where
  pub counts : CountsCube step w e (told_of (is_cut r) false (is_err r) b.first 0 b.solutions (capped looks))
  counts = by_result r ok err looked cut spent found few stopped where
    all : List (List Turn)
    all = all_found step w e

    by_result : (r : Found) → OnOk r (WentThrough CountsPath a all b) → IfErr r (λ stop. EndedIn CountsPath RefusesMore (is_cut_in stop) a all b)
        → OnOk r (looks ≡ looks_for_all step w e) → IfErr r (λ stop. is_cut_in stop ≡ true → w.most_nodes < looks_for_all step w e)
        → HasSpent is_cut_in w.most_nodes step (capped looks) r
        → IfErr r (λ stop. is_cut_in stop ≡ true → WentThrough CountsPath a (found_within_of step e w.limit w.slack looks) b)
        → IfErr r (λ stop. is_cut_in stop ≡ true → capped looks ≡ looks)
        → IfErr r (λ stop. is_cut_in stop ≡ false → StoppedAt CountsPath RefusesMore (look_number_of step e) a all b looks)
        → CountsCube step w e (told_of (is_cut r) false (is_err r) b.first 0 b.solutions (capped looks))
    by_result (Ok o) h k looked cut spent found few stopped =
        let t : Tallied all (count_state 0 w.most None) (tally_of b) = subst (λ s. Tallied all s (tally_of b)) begins (went all a b h) in
        let count : b.solutions ≡ length all = omega (arith, t.counted) in
        let whole : b.solutions ≡ min w.most (length all) = count ∙ min_is_right w.most (length all) (omega (arith, count, b.few, t.same_most)) in
        record {
          finds = finds_all step w e least b.first 0 b.solutions looks at_most within false refl count t.first looked;
          no_text = refl;
          counted = λ n. (refl, whole);
          some_counted = omega (arith, whole);
        }
    by_result (Err (ending.Refused x)) h k looked cut spent found few stopped =
        let s : Filled all (count_state 0 w.most None) (tally_of b) = subst (λ s. Filled all s (tally_of b)) begins (stop all a b k) in
        let full : b.solutions ≡ w.most = s.full ∙ s.same_most in
        let at = stopped refl in
        let came : Tallied at.front (count_state 0 w.most None) (tally_of at.between) = subst (λ s. Tallied at.front s (tally_of at.between)) begins (went at.front a at.between at.went) in
        let number = at_front (look_number_of step e) all at.front at.rest at.path at.listed b.solutions (omega (arith, at.stopped.same_count, came.counted)) in
        let part : b.solutions ≡ min w.most (length all) = full ∙ min_is_left w.most (length all) (omega (arith, full, s.counted, s.within)) in
        record {
          finds = finds_some step w e least b.first 0 b.solutions looks at_most within false (omega (arith, s.counted, s.within)) s.first (at.at ∙ number);
          no_text = refl;
          counted = λ n. (refl, part);
          some_counted = omega (arith, part);
        }
    by_result (Err ending.Cut) h k looked cut spent found few stopped =
        let t : Begun all (count_state 0 w.most None) (tally_of b) = subst (λ s. Begun all s (tally_of b)) begins (into all a b k) in
        let taken : length (take t.count all) ≡ t.count = length-take-le t.count all t.within in
        let reached : List (List Turn) = found_within_of step e w.limit w.slack looks in
        let all_reached : Tallied reached (count_state 0 w.most None) (tally_of b) = subst (λ s. Tallied reached s (tally_of b)) begins (went reached a b (found refl)) in
        record {
          finds = finds_cut step w e least b.first 0 b.solutions looks at_most within false t.count (omega (arith, taken, t.took.counted)) t.took.first (cut refl) (spent refl) (omega (arith, all_reached.counted)) (few refl);
          no_text = refl;
          counted = λ n. absurd (n refl);
          some_counted = at_most_min b.solutions w.most (length all) (omega (arith, b.few, t.took.same_most)) (omega (arith, taken, t.took.counted, t.within));
        }
