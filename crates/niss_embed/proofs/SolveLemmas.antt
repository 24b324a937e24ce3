-- From what a search did to its lines in memory to what it answers.
use Rattle.std.proofs.Common.{◌≡◌, ◌⊎◌, inl, inr, ℕ, zero, suc, ◌+◌, ◌<◌, ◌≤◌, min, Bool, true, false, cond, Option, None, Result, Ok, Err, List, [], ◌∷◌, ◌++◌}
use Rattle.std.proofs.Common.{take, drop, length, length-append, refl, sym, ap, ◌∙◌, subst, arith, unwrap_or}
use Rattle.std.specs.Prelude.{◌*◌, get_or, nat_lt, flat_map, is_err, option_map, slice_get, OnOk}
use Rattle.std.proofs.Common.{◌-◌}
use Rattle.std.proofs.lemmas.List.{take_all, length-drop, length-take-le, get_or_at}
use Rattle.std.proofs.lemmas.Grind.{common_steps}
use Rattle.niss_moves.specs.Places.{Place}
use Rattle.niss_search.specs.Delivery.{WentThrough, StoppedAt, EndedIn}
use Rattle.niss_cube.specs.Steps.{turns_of}
use Rattle.niss_search.specs.Budgets.{is_cut_in, HasSpent}
use Rattle.niss_search.specs.declared.budget.Stopped.{Stopped as Ending}
use Rattle.niss_search.specs.declared.budget.Stopped.TheVariants as ending
use Rattle.niss_search.specs.Laws.{FirstIsLeast}
use Rattle.niss_search.specs.Cubes.{least_length_of, cubes}
use Rattle.niss_search.specs.LookNumbers.{found_within_of, look_number_of}
use Rattle.niss_search.specs.declared.searching.Outcome.{Outcome}
use Rattle.niss_shell.specs.Names.{Turn, Step}
use Rattle.niss_shell.specs.Output.{solution_line}
use Rattle.niss_embed.specs.declared.line.search.SolutionLines.{SolutionLines}
use Rattle.niss_embed.specs.declared.line.search.Refused.{Refused}
use Rattle.niss_embed.specs.declared.line.search.Wanted.{Wanted}
use Rattle.niss_embed.specs.declared.line.search_answer.SearchAnswer.{SearchAnswer}
use Rattle.niss_embed.specs.Memory.{memory, Puts}
use Rattle.niss_embed.specs.LineSearch.{LinesState, lines_state, most_of_line, Hands, Ended, SolvesCube, FindsOf, first_lines, capped, is_cut}
use Rattle.niss_embed.specs.LineSearch.{all_found, looks_for_all}
use Rattle.std.specs.Prelude.{IfErr}
use Rattle.niss_embed.proofs.TargetLemmas.{puts_whole, no_front, all_left}
use Rattle.niss_embed.proofs.WrittenLemmas.{Took, Stopped, Into, state_of, TakesPath, RefusesPath, went, stop, into, first_of}

-- The lines before a search and after it.
pub record Lines : Type 0 where
  pub before : List ℕ
  pub after : List ℕ
  pub reference : ℕ
  pub reference_now : ℕ
  pub written : ℕ
  pub solutions : ℕ
  pub most : ℕ
  pub most_now : ℕ
  pub first : Option ℕ
  pub too_small : Bool
  pub within : written ≤ length after
  pub few : solutions ≤ most_now

abbrev pub begun : Lines → LinesState
begun l = lines_state l.before l.reference 0 0 l.most None false

abbrev pub ended : Lines → LinesState
ended l = lines_state l.after l.reference_now l.written l.solutions l.most_now l.first l.too_small

-- what is answered of a search, by how many solutions came, the first one, and how it ended
abbrev pub status_for : (cut too_small : Bool) → ℕ
status_for cut too_small = cond cut 5 (cond too_small 4 0)

abbrev pub told_of : (cut too_small more : Bool) → (first : Option ℕ) → (written solutions nodes : ℕ) → SearchAnswer
told_of cut too_small more first written solutions nodes = record {
  status = status_for cut too_small;
  fault = 0;
  least = unwrap_or first 0;
  more = more;
  column = 0;
  length = written;
  solutions = solutions;
  nodes = nodes;
}

abbrev pub solve_answer : Lines → (cut more : Bool) → (nodes : ℕ) → SearchAnswer
solve_answer l cut more nodes = told_of cut l.too_small more l.first l.written l.solutions nodes

less_min : (k a b : ℕ) → k < a → k < b → k < min a b
less_min k a b h l = grind (arith, common_steps, h, l)

pub at_most_min : (k a b : ℕ) → k ≤ a → k ≤ b → k ≤ min a b
at_most_min k a b h l = grind (arith, common_steps, h, l)

pub min_is_left : (a b : ℕ) → a ≤ b → a ≡ min a b
min_is_left a b h = grind (arith, common_steps, h)

pub min_is_right : (a b : ℕ) → b ≤ a → b ≡ min a b
min_is_right a b h = grind (arith, common_steps, h)

pub is_less : (a b : ℕ) → a < b → true ≡ nat_lt a b
is_less a b h = grind (arith, common_steps)

pub is_not_less : (a b : ℕ) → b ≤ a → false ≡ nat_lt a b
is_not_less a b h = grind (arith, common_steps)

pub no_cut : (b : Bool) → cond {A = ℕ} b 4 0 ≡ 5 → ⊥
no_cut true h = absurd (omega arith)
no_cut false h = absurd (omega arith)

module _ (l : Lines) where
  -- what was written stands at the beginning of the memory
  puts : (ps : List (List Turn)) → (text : List ℕ) → take l.written l.after ≡ take 0 l.before ++ text
      → drop l.written l.after ≡ drop (length text) (drop 0 l.before) → length text ≤ length (drop 0 l.before)
      → Puts text (memory l.before l.after) l.written false
  puts ps text held free fits =
      puts_whole l.before l.after text l.written (held ∙ ap (λ v. v ++ text) (no_front l.before))
      (free ∙ ap (λ v. drop (length text) v) (all_left l.before)) (omega (arith, fits, ap (length {A = ℕ}) (all_left l.before))) l.within

  pub hands_all : (all : List (List Turn)) (nodes : ℕ) → Took all (begun l) (ended l)
      → Hands all l.most (memory l.before l.after) (solve_answer l false false nodes)
  hands_all all nodes w =
      let count : l.solutions ≡ length all = omega (arith, w.counted) in
      let whole : take l.solutions all ≡ all = take_all l.solutions all (omega (arith, count)) in
      let done : status_for false l.too_small ≡ 0 = ap (λ b. cond b 4 0) w.same_room in
      record {
        text = subst (λ (q : List (List Turn)). Puts (flat_map solution_line q) (memory l.before l.after) l.written false) (sym whole)
            (puts all (flat_map solution_line all) w.held w.free w.fits);
        room = λ enough full. let wrong : 0 ≡ 4 = sym done ∙ full in absurd (omega arith);
        ended = inl (done, count ∙ min_is_right l.most (length all) (omega (arith, count, l.few, w.same_most)));
      }

  pub hands_some : (all : List (List Turn)) (nodes : ℕ) → Stopped all (begun l) (ended l)
      → Hands all l.most (memory l.before l.after) (solve_answer l false true nodes)
  hands_some all nodes s =
      let taken : length (take s.count all) ≡ s.count = length-take-le s.count all (omega (arith, s.within)) in
      let count : s.count ≡ l.solutions = omega (arith, taken, s.took.counted, s.refused.same_count) in
      let text = first_lines s.count all in
      record {
        text = subst (λ n. Puts (first_lines n all) (memory l.before l.after) l.written false) count
            (puts (take s.count all) text (s.refused.held ∙ s.took.held) (s.refused.free ∙ s.took.free) s.took.fits);
        room = λ enough full. let wrong : 0 ≡ 4 = sym (enough_room taken enough s.refused.why) ∙ full in absurd (omega arith);
        ended = why count s.refused.why;
      }
    where
      enough_room : length (take s.count all) ≡ s.count → l.most * most_of_line ≤ length l.before
          → ((s.between.solutions ≡ s.between.most) × (l.too_small ≡ s.between.too_small))
          ⊎ ((s.between.solutions < s.between.most) × (length s.between.free < length (solution_line s.next)) × (l.too_small ≡ true))
          → cond {A = ℕ} l.too_small 4 0 ≡ 0
      enough_room taken enough (inl h) = ap (λ b. cond b 4 0) (h.1 ∙ s.took.same_room)
      enough_room taken enough (inr h) =
          let free : length s.between.free ≡ length (drop 0 l.before) - length (first_lines s.count all) =
          ap (length {A = ℕ}) s.took.free ∙ length-drop (length (first_lines s.count all)) (drop 0 l.before) in
          let room : length (drop 0 l.before) ≡ length l.before = ap (length {A = ℕ}) (all_left l.before) in
          absurd (omega (arith, free, room, enough, taken, h.0, h.1, s.took.short, s.refused.short, s.took.counted, s.took.same_most))

      why : s.count ≡ l.solutions
          → ((s.between.solutions ≡ s.between.most) × (l.too_small ≡ s.between.too_small))
          ⊎ ((s.between.solutions < s.between.most) × (length s.between.free < length (solution_line s.next)) × (l.too_small ≡ true))
          → Ended all l.most (length l.before) (solve_answer l false true nodes)
      why count (inl h) =
          let full : l.solutions ≡ l.most = omega (arith, h.0, s.refused.same_count, s.took.same_most) in
          inl (
            ap (λ b. cond b 4 0) (h.1 ∙ s.took.same_room),
            full ∙ min_is_left l.most (length all) (omega (arith, full, count, s.within)),
          )
      why count (inr h) =
          let next : suc s.count ≡ l.solutions + 1 = omega (arith, count) in
          let long : length (first_lines (suc s.count) all) ≡ length (first_lines s.count all) + length (solution_line s.next) =
          ap (length {A = ℕ}) s.line ∙ length-append (first_lines s.count all) (solution_line s.next) in
          let free : length s.between.free ≡ length (drop 0 l.before) - length (first_lines s.count all) =
          ap (length {A = ℕ}) s.took.free ∙ length-drop (length (first_lines s.count all)) (drop 0 l.before) in
          let room : length (drop 0 l.before) ≡ length l.before = ap (length {A = ℕ}) (all_left l.before) in
          inr (inl (
            ap (λ b. cond b 4 0) h.2,
            less_min l.solutions l.most (length all) (omega (arith, h.0, s.refused.same_count, s.took.same_most)) (omega (arith, count, s.within)),
            subst (λ n. length l.before < length (first_lines n all)) next (omega (arith, long, free, room, h.1, s.took.fits)),
          ))

  pub hands_cut : (all : List (List Turn)) (nodes : ℕ) → Into all (begun l) (ended l)
      → Hands all l.most (memory l.before l.after) (solve_answer l true true nodes)
  hands_cut all nodes w =
      let taken : length (take w.count all) ≡ w.count = length-take-le w.count all w.within in
      let count : w.count ≡ l.solutions = omega (arith, taken, w.took.counted) in
      record {
        text = subst (λ n. Puts (first_lines n all) (memory l.before l.after) l.written false) count
            (puts (take w.count all) (first_lines w.count all) w.took.held w.took.free w.took.fits);
        room = λ enough full. absurd (omega arith);
        ended = inr (inr (refl, at_most_min l.solutions l.most (length all) (omega (arith, l.few, w.took.same_most)) (omega (arith, count, w.within))));
      }

-- the number of the one that stands after so many
pub at_front : (number : List Turn → ℕ) (all front rest : List (List Turn)) (p : List Turn) → all ≡ front ++ p ∷ rest → (k : ℕ) → k ≡ length front
    → number p ≡ number (get_or all k [])
at_front number all front rest p listed k is =
    ap number (sym (ap (λ (ps : List (List Turn)). get_or ps k []) listed ∙ get_or_at front p rest [] k (sym is)))

-- the least length is that of the first solution that came
pub first_is : (ps : List (List Turn)) → first_of None ps ≡ option_map (length {A = Turn}) (slice_get ps 0)
first_is [] = refl
first_is (p ∷ ps) = refl

first_front : (n : ℕ) (ps : List (List Turn)) → 0 < n → first_of None (take n ps) ≡ first_of None ps
first_front zero ps h = absurd (omega arith)
first_front (suc n) [] h = refl
first_front (suc n) (p ∷ ps) h = refl

first_none : (n : ℕ) (ps : List (List Turn)) → n ≡ 0 → first_of None (take n ps) ≡ None
first_none n ps h = ap (λ m. first_of None (take m ps)) h ∙ nothing ps
  where
    nothing : (ps : List (List Turn)) → first_of None (take 0 ps) ≡ None
    nothing [] = refl
    nothing (p ∷ ps) = refl

pub capped_le : (a b : ℕ) → a ≤ b → capped a ≤ capped b
capped_le a b h = grind (arith, common_steps, h)

-- what a search tells of what it found, by how many solutions came and how it ended
module _ (step : Step) (w : Wanted) (e : Place → Place) (least : FirstIsLeast) (first : Option ℕ) (written solutions looks : ℕ)
    (at_most : looks ≤ looks_for_all step w e) (within : capped looks ≤ w.most_nodes) where
  abbrev all : List (List Turn)
  all = all_found step w e

  least_is : first ≡ first_of None all → unwrap_or first 0 ≡ unwrap_or (least_length_of step e w.limit) 0
  least_is h = ap (λ o. unwrap_or o 0) (h ∙ first_is all ∙ sym (least.0 _ (cubes step) e w.limit w.slack))

  -- the number of the look at the first solution that was left
  abbrev pub left_number : ℕ
  left_number = look_number_of step e (get_or (all_found step w e) solutions [])

  pub finds_all : (too_small : Bool) → too_small ≡ false → solutions ≡ length all → first ≡ first_of None all → looks ≡ looks_for_all step w e
      → FindsOf step w e (told_of false too_small false first written solutions (capped looks))
  finds_all too_small works count f looked = record {
    more = λ n. is_not_less solutions (length all) (omega (arith, count));
    maybe_more = λ c. absurd (no_cut too_small c);
    least = λ n. least_is f;
    least_of_some = λ s. least_is f;
    least_of_none = λ c n. absurd (no_cut too_small c);
    looked = λ done. ap capped looked;
    stopped = λ n m. absurd (cc m);
    looks_at_most = capped_le looks (looks_for_all step w e) at_most;
    within = within;
    cut = λ c. absurd (no_cut too_small c);
    spent = λ c. absurd (no_cut too_small c);
    found = λ c. absurd (no_cut too_small c);
    no_fault = refl;
    no_column = refl;
  }

  pub finds_some : (too_small : Bool) → solutions < length all → first ≡ first_of None all → looks ≡ left_number
      → FindsOf step w e (told_of false too_small true first written solutions (capped looks))
  finds_some too_small count f number = record {
    more = λ n. is_less solutions (length all) count;
    maybe_more = λ c. refl;
    least = λ n. least_is f;
    least_of_some = λ s. least_is f;
    least_of_none = λ c n. absurd (no_cut too_small c);
    looked = λ done. absurd (cc done);
    stopped = λ n m. ap capped number;
    looks_at_most = capped_le looks (looks_for_all step w e) at_most;
    within = within;
    cut = λ c. absurd (no_cut too_small c);
    spent = λ c. absurd (no_cut too_small c);
    found = λ c. absurd (no_cut too_small c);
    no_fault = refl;
    no_column = refl;
  }

  pub finds_cut : (too_small : Bool) → (count : ℕ) → solutions ≡ count → first ≡ first_of None (take count all) → w.most_nodes < looks_for_all step w e
      → w.most_nodes < capped looks + length (turns_of step) → solutions ≡ length (found_within_of step e w.limit w.slack looks) → capped looks ≡ looks
      → FindsOf step w e (told_of true too_small true first written solutions (capped looks))
  finds_cut too_small count is f cut spent found few = record {
    more = λ n. absurd (n refl);
    maybe_more = λ c. refl;
    least = λ n. absurd (n refl);
    least_of_some = λ s. least_is (f ∙ first_front count all (omega (arith, s, is)));
    least_of_none = λ c n. ap (λ o. unwrap_or o 0) (f ∙ first_none count all (omega (arith, n, is)));
    looked = λ done. absurd (cc done);
    stopped = λ n m. absurd (n refl);
    looks_at_most = capped_le looks (looks_for_all step w e) at_most;
    within = within;
    cut = λ c. cut;
    spent = λ c. spent;
    found = λ c. found ∙ ap (λ n. length (found_within_of step e w.limit w.slack n)) (sym few);
    no_fault = refl;
    no_column = refl;
  }

abbrev pub Found : Type 0
Found = Result Outcome (Ending Refused)

-- a search from a cube, by what it did to its lines
module _ (step : Step) (w : Wanted) (e : Place → Place) (a b : SolutionLines) (r : Found)
    (ok : OnOk r (WentThrough TakesPath a (all_found step w e) b))
    (err : IfErr r (λ stop. EndedIn TakesPath RefusesPath (is_cut_in stop) a (all_found step w e) b)) where
  pub same_memory : b.bytes.ghost_name ≡ a.bytes.ghost_name
  same_memory = by_result r ok err where
    by_result : (r : Found) → OnOk r (WentThrough TakesPath a (all_found step w e) b)
        → IfErr r (λ stop. EndedIn TakesPath RefusesPath (is_cut_in stop) a (all_found step w e) b) → b.bytes.ghost_name ≡ a.bytes.ghost_name
    by_result (Ok o) h k = (went (all_found step w e) a b h).same_reference
    by_result (Err (ending.Refused x)) h k =
        let s = stop (all_found step w e) a b k in
        s.refused.same_reference ∙ s.took.same_reference
    by_result (Err ending.Cut) h k = (into (all_found step w e) a b k).took.same_reference

  pub solves : (l : Lines) (looks : ℕ) → l.most ≡ w.most → state_of a ≡ begun l → state_of b ≡ ended l → FirstIsLeast
      → OnOk r (looks ≡ looks_for_all step w e) → looks ≤ looks_for_all step w e → capped looks ≤ w.most_nodes
      → IfErr r (λ stop. is_cut_in stop ≡ true → w.most_nodes < looks_for_all step w e)
      → HasSpent is_cut_in w.most_nodes step (capped looks) r
      → IfErr r (λ stop. is_cut_in stop ≡ true → WentThrough TakesPath a (found_within_of step e w.limit w.slack looks) b)
      → IfErr r (λ stop. is_cut_in stop ≡ true → capped looks ≡ looks)
      → IfErr r (λ stop. is_cut_in stop ≡ false → StoppedAt TakesPath RefusesPath (look_number_of step e) a (all_found step w e) b looks)
      → SolvesCube step w e (memory l.before l.after) (solve_answer l (is_cut r) (is_err r) (capped looks))
  solves l looks most p q least looked at_most within cut spent found few stopped = by_result r ok err looked cut spent found few stopped where
    all : List (List Turn)
    all = all_found step w e

    by_result : (r : Found) → OnOk r (WentThrough TakesPath a all b) → IfErr r (λ stop. EndedIn TakesPath RefusesPath (is_cut_in stop) a all b)
        → OnOk r (looks ≡ looks_for_all step w e) → IfErr r (λ stop. is_cut_in stop ≡ true → w.most_nodes < looks_for_all step w e)
        → HasSpent is_cut_in w.most_nodes step (capped looks) r
        → IfErr r (λ stop. is_cut_in stop ≡ true → WentThrough TakesPath a (found_within_of step e w.limit w.slack looks) b)
        → IfErr r (λ stop. is_cut_in stop ≡ true → capped looks ≡ looks)
        → IfErr r (λ stop. is_cut_in stop ≡ false → StoppedAt TakesPath RefusesPath (look_number_of step e) a all b looks)
        → SolvesCube step w e (memory l.before l.after) (solve_answer l (is_cut r) (is_err r) (capped looks))
    by_result (Ok o) h k looked cut spent found few stopped =
        let t : Took all (begun l) (ended l) = subst (λ s. Took all s (ended l)) p (subst (λ s. Took all (state_of a) s) q (went all a b h)) in
        record {
          hands = subst (λ m. Hands all m (memory l.before l.after) (solve_answer l false false (capped looks))) most (hands_all l all (capped looks) t);
          finds = finds_all step w e least l.first l.written l.solutions looks at_most within l.too_small t.same_room (omega (arith, t.counted)) t.first looked;
        }
    by_result (Err (ending.Refused x)) h k looked cut spent found few stopped =
        let s : Stopped all (begun l) (ended l) = subst (λ s. Stopped all s (ended l)) p (subst (λ s. Stopped all (state_of a) s) q (stop all a b k)) in
        let taken : length (take s.count all) ≡ s.count = length-take-le s.count all (omega (arith, s.within)) in
        let at = stopped refl in
        let came : Took at.front (begun l) (state_of at.between) = subst (λ s. Took at.front s (state_of at.between)) p (went at.front a at.between at.went) in
        let same : l.solutions ≡ at.between.solutions = ap (λ (s : LinesState). s.solutions) (sym q) ∙ at.stopped.same_count in
        let number = at_front (look_number_of step e) all at.front at.rest at.path at.listed l.solutions (omega (arith, same, came.counted)) in
        record {
          hands = subst (λ m. Hands all m (memory l.before l.after) (solve_answer l false true (capped looks))) most (hands_some l all (capped looks) s);
          finds = finds_some step w e least l.first l.written l.solutions looks at_most within l.too_small
              (omega (arith, taken, s.took.counted, s.refused.same_count, s.within)) s.first (at.at ∙ number);
        }
    by_result (Err ending.Cut) h k looked cut spent found few stopped =
        let t : Into all (begun l) (ended l) = subst (λ s. Into all s (ended l)) p (subst (λ s. Into all (state_of a) s) q (into all a b k)) in
        let taken : length (take t.count all) ≡ t.count = length-take-le t.count all t.within in
        let reached : List (List Turn) = found_within_of step e w.limit w.slack looks in
        let all_reached : Took reached (begun l) (ended l) = subst (λ s. Took reached s (ended l)) p (subst (λ s. Took reached (state_of a) s) q (went reached a b (found refl))) in
        record {
          hands = subst (λ m. Hands all m (memory l.before l.after) (solve_answer l true true (capped looks))) most (hands_cut l all (capped looks) t);
          finds = finds_cut step w e least l.first l.written l.solutions looks at_most within l.too_small t.count
              (omega (arith, taken, t.took.counted)) t.took.first (cut refl) (spent refl) (omega (arith, all_reached.counted)) (few refl);
        }
