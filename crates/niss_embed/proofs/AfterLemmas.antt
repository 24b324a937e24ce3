-- From what a search after a sequence did to its lines in memory to what it answers.
use Rattle.std.proofs.Common.{◌≡◌, ◌⊎◌, inl, inr, ℕ, ◌+◌, ◌<◌, ◌≤◌, Bool, true, false, Option, None, Result, Ok, Err, List, [], ◌∷◌, map}
use Rattle.std.proofs.Common.{take, length, refl, sym, ap, ◌∙◌, subst, arith, unwrap_or}
use Rattle.std.proofs.Common.{get_or}
use Rattle.std.specs.Prelude.{filter}
use Rattle.std.proofs.lemmas.Grind.{common_steps}
use Rattle.std.proofs.lemmas.List.{length-take-le, length-map, get_or_default, get_or-map}
use Rattle.niss_search.specs.Names.{no_turn}
use Rattle.std.specs.Prelude.{is_err, OnOk, IfErr}
use Rattle.niss_moves.specs.Line.{Moves}
use Rattle.niss_moves.specs.Places.{Place}
use Rattle.niss_moves.specs.declared.token.Token.{Token}
use Rattle.niss_moves.specs.declared.token.Token.TheVariants as token
use Rattle.niss_search.specs.Budgets.{is_cut_in, HasSpent}
use Rattle.niss_search.specs.Cubes.{least_length_of, near_solutions_of, cubes}
use Rattle.niss_search.specs.Delivery.{WentThrough, StoppedIn, EndedIn}
use Rattle.niss_search.specs.Laws.{FirstIsLeast, SolutionsAreSequences}
use Rattle.niss_search.specs.After.{comes_after, sequences_after, deepening_looks_of}
use Rattle.niss_search.specs.Solutions.{last_length}
use Rattle.niss_search.specs.declared.budget.Stopped.{Stopped as Ending}
use Rattle.niss_search.specs.declared.budget.Stopped.TheVariants as ending
use Rattle.niss_shell.specs.Names.{Turn, Step}
use Rattle.niss_moves.specs.Reader.{read_line}
use Rattle.niss_moves.specs.declared.fault.ReadFault.{ReadFault}
use Rattle.niss_shell.specs.Output.{start_cube}
use Rattle.niss_shell.specs.Words.{most_bytes, most_limit}
use Rattle.niss_embed.specs.Memory.{Memory, memory}
use Rattle.niss_embed.specs.LineSearch.{LinesState, Hands, Only, unsolved, capped, is_cut, looks_for_all}
use Rattle.niss_search.specs.Deepening.{Part, EndsAt, looks_before, all_after}
use Rattle.niss_search.specs.Positions.{position_of}
use Rattle.niss_embed.specs.SolveAfter.{found_after, looks_for_after, looks_to_shortest, searched_after}
use Rattle.niss_embed.specs.SolveAfter.{SolvesCubeAfter, SolvesAtAfter, SolvesAfter, Spells, line_of_turns}
use Rattle.niss_embed.specs.declared.line.search.CountedSolutions.{CountedSolutions}
use Rattle.niss_embed.specs.declared.line.search.Refused.{Refused}
use Rattle.niss_embed.specs.declared.line.search.SolutionLines.{SolutionLines}
use Rattle.niss_lines.specs.declared.answer.Status.TheVariants as status
use Rattle.niss_embed.specs.declared.line.search.Wanted.{Wanted}
use Rattle.niss_embed.specs.declared.line.search_answer.SearchAnswer.{SearchAnswer}
use Rattle.niss_embed.proofs.RestLemmas.{stopped_by, cut_by}
use Rattle.niss_embed.proofs.CountLemmas.{CountsPath, RefusesMore, stop as stop_counting}
use Rattle.niss_embed.proofs.SolveLemmas.{Lines, begun, ended, told_of, solve_answer}
use Rattle.niss_embed.proofs.WrittenLemmas.{Took, Stopped, Into, TakesPath, RefusesPath, state_of}
use Rattle.niss_embed.proofs.SolveLemmas.{hands_all, hands_some, hands_cut, first_is, no_cut, is_less, is_not_less, capped_le}
use Rattle.niss_embed.proofs.WrittenLemmas.{went, stop, into, first_of}

-- the first solution, which was refused, tells the least length
pub least_is_first : FirstIsLeast → (step : Step) (e : Place → Place) (n : ℕ) (a b : CountedSolutions) → a.first ≡ None
    → StoppedIn CountsPath RefusesMore a (near_solutions_of step e n 0) b → b.first ≡ least_length_of step e n
least_is_first least step e n a b none h =
    let all = near_solutions_of step e n 0 in
    (stop_counting all a b h).first ∙ ap (λ o. first_of o all) none ∙ first_is all ∙ sym (least.0 _ (cubes step) e n 0)

abbrev pub Handed : Type 0
Handed = Result ℕ (Ending Refused)

module _ (step : Step) (w : Wanted) (p : List Turn) (e : Place → Place) where
  abbrev all : List (List Turn)
  all = found_after step w p e

  abbrev rest : Part
  rest = searched_after step w p e

  abbrev to_shortest : ℕ
  to_shortest = looks_to_shortest step e w.limit

  -- a search from a cube, by what it did to its lines
  module _ (a b : SolutionLines) (r : Handed)
      (ok : OnOk r (WentThrough TakesPath a all b))
      (err : IfErr r (λ stop. EndedIn TakesPath RefusesPath (is_cut_in stop) a all b)) where
    pub same_memory_after : b.bytes.ghost_name ≡ a.bytes.ghost_name
    same_memory_after = by_result r ok err where
      by_result : (r : Handed) → OnOk r (WentThrough TakesPath a all b)
          → IfErr r (λ stop. EndedIn TakesPath RefusesPath (is_cut_in stop) a all b) → b.bytes.ghost_name ≡ a.bytes.ghost_name
      by_result (Ok o) h k = (went all a b h).same_reference
      by_result (Err (ending.Refused x)) h k =
          let s = stop all a b k in
          s.refused.same_reference ∙ s.took.same_reference
      by_result (Err ending.Cut) h k = (into all a b k).took.same_reference

    pub solves_cube_after : (l : Lines) (least : Option ℕ) (looks : ℕ) → l.most ≡ w.most → state_of a ≡ begun l → state_of b ≡ ended l
        → least ≡ least_length_of step e w.limit → looks ≤ looks_for_after step w e → capped looks ≤ w.most_nodes
        → IfErr r (λ stop. is_cut_in stop ≡ true → w.most_nodes < looks_for_after step w e)
        → HasSpent is_cut_in w.most_nodes step (capped looks) r
        → capped looks ≡ looks → OnOk r (looks ≡ to_shortest + rest.looks)
        → IfErr r (λ stop. EndsAt TakesPath RefusesPath (is_cut_in stop) rest.events to_shortest a looks b)
        → SolvesCubeAfter step w p e (memory l.before l.after) (told_of (is_cut r) l.too_small (is_err r) least l.written l.solutions (capped looks))
    solves_cube_after l least looks most begins ends least_is at_most within cut spent whole looked reached = by_result r ok err cut spent looked reached where
      known : unwrap_or least 0 ≡ unwrap_or (least_length_of step e w.limit) 0
      known = ap (λ o. unwrap_or o 0) least_is

      none : a.solutions ≡ 0
      none = ap (λ (s : LinesState). s.solutions) begins

      came : b.solutions ≡ l.solutions
      came = ap (λ (s : LinesState). s.solutions) ends

      few : capped looks ≤ capped (looks_for_after step w e)
      few = capped_le looks (looks_for_after step w e) at_most

      by_result : (r : Handed) → OnOk r (WentThrough TakesPath a all b) → IfErr r (λ stop. EndedIn TakesPath RefusesPath (is_cut_in stop) a all b)
          → IfErr r (λ stop. is_cut_in stop ≡ true → w.most_nodes < looks_for_after step w e)
          → HasSpent is_cut_in w.most_nodes step (capped looks) r
          → OnOk r (looks ≡ to_shortest + rest.looks)
          → IfErr r (λ stop. EndsAt TakesPath RefusesPath (is_cut_in stop) rest.events to_shortest a looks b)
          → SolvesCubeAfter step w p e (memory l.before l.after) (told_of (is_cut r) l.too_small (is_err r) least l.written l.solutions (capped looks))
      by_result (Ok o) h k cut spent looked reached =
          let t : Took all (begun l) (ended l) = subst (λ s. Took all s (ended l)) begins (subst (λ s. Took all (state_of a) s) ends (went all a b h)) in
          let hands = subst (λ m. Hands all m (memory l.before l.after) (solve_answer l false false (capped looks))) most (hands_all l all (capped looks) t) in
          record {
            hands = record { text = hands.text; room = hands.room; ended = hands.ended };
            finds = record {
              more = λ n. is_not_less l.solutions (length all) (omega (arith, t.counted));
              maybe_more = λ c. absurd (no_cut l.too_small c);
              least = inl known;
              looked = λ m. ap capped looked;
              stopped = λ n m. absurd (let both : false ≡ true = m in cc);
              found = λ c. absurd (no_cut l.too_small c);
              looks_at_most = few;
              within = within;
              cut = λ c. absurd (no_cut l.too_small c);
              spent = λ c. absurd (no_cut l.too_small c);
              no_fault = refl;
              no_column = refl;
            };
          }
      by_result (Err (ending.Refused x)) h k cut spent looked reached =
          let s : Stopped all (begun l) (ended l) = subst (λ s. Stopped all s (ended l)) begins (subst (λ s. Stopped all (state_of a) s) ends (stop all a b k)) in
          let taken : length (take s.count all) ≡ s.count = length-take-le s.count all (omega (arith, s.within)) in
          let hands = subst (λ m. Hands all m (memory l.before l.after) (solve_answer l false true (capped looks))) most (hands_some l all (capped looks) s) in
          record {
            hands = record { text = hands.text; room = hands.room; ended = hands.ended };
            finds = record {
              more = λ n. is_less l.solutions (length all) (omega (arith, taken, s.took.counted, s.refused.same_count, s.within));
              maybe_more = λ c. absurd (no_cut l.too_small c);
              least = inl known;
              looked = λ m. absurd (let both : true ≡ false = m in cc);
              stopped = λ n m.
                  let by = stopped_by rest.events to_shortest a looks b reached in
                  let count : by.count ≡ l.solutions = omega (arith, by.came, none, came) in
                  ap capped (by.looks ∙ ap (λ (k : ℕ). to_shortest + looks_before rest.events k) count);
              found = λ c. absurd (no_cut l.too_small c);
              looks_at_most = few;
              within = within;
              cut = λ c. absurd (no_cut l.too_small c);
              spent = λ c. absurd (no_cut l.too_small c);
              no_fault = refl;
              no_column = refl;
            };
          }
      by_result (Err ending.Cut) h k cut spent looked reached =
          let t : Into all (begun l) (ended l) = subst (λ s. Into all s (ended l)) begins (subst (λ s. Into all (state_of a) s) ends (into all a b k)) in
          let hands = subst (λ m. Hands all m (memory l.before l.after) (solve_answer l true true (capped looks))) most (hands_cut l all (capped looks) t) in
          record {
            hands = record { text = hands.text; room = hands.room; ended = hands.ended };
            finds = record {
              more = λ n. absurd (n refl);
              maybe_more = λ c. refl;
              least = inl known;
              looked = λ m. absurd (let both : true ≡ false = m in cc);
              stopped = λ n. absurd (n refl);
              found = λ c.
                  let by = cut_by rest.events to_shortest a looks b reached in
                  inr (by.made, whole ∙ by.looks, omega (arith, by.came, none, came));
              looks_at_most = few;
              within = within;
              cut = λ c. cut refl;
              spent = λ c. spent refl;
              no_fault = refl;
              no_column = refl;
            };
          }

-- A line of turns has one list of them.
abbrev face_turn : Turn → Token → Turn
face_turn d (token.Face t) = t
face_turn d _ = d

pub one_list : (a b : List Turn) → line_of_turns a ≡ line_of_turns b → a ≡ b
one_list a b h = back a ∙ ap (λ (m : Moves). map (face_turn no_turn) m.normal) h ∙ sym (back b) where
  back : (ts : List Turn) → ts ≡ map (face_turn no_turn) (map token.Face ts)
  back [] = refl
  back (t ∷ ts) = ap (λ (l : List Turn). t ∷ l) (back ts)

-- a move that is no turn of a face stands in no such line
pub another_move : (line : Moves) (i : ℕ) (d : Token) → i < length line.normal → ((t : Turn) → get_or line.normal i d ≡ token.Face t → ⊥)
    → (turns : List Turn) → line ≡ line_of_turns turns → ⊥
another_move line i d inside other turns h =
    let same : line.normal ≡ map token.Face turns = ap (λ (m : Moves). m.normal) h in
    let within : i < length turns = omega (arith, inside, ap (length {A = Token}) same, length-map turns token.Face) in
    other (get_or turns i no_turn)
    (ap (λ (ms : List Token). get_or ms i d) same
    ∙ get_or_default (map token.Face turns) i d (token.Face no_turn) (omega (arith, within, length-map turns token.Face))
    ∙ get_or-map token.Face turns i no_turn (token.Face no_turn) within)

-- The solutions after a sequence, up to the last length of the list, and the looks for them.
module _ (law : SolutionsAreSequences) (step : Step) (w : Wanted) (p : List Turn) (e : Place → Place) (least : Option ℕ) (last : ℕ)
    (least_is : least ≡ least_length_of step e w.limit) (last_is : last ≡ last_length least w.limit w.slack) where
  last_known : last ≡ last_length (least_length_of step e w.limit) w.limit w.slack
  last_known = last_is ∙ ap (λ l. last_length l w.limit w.slack) least_is

  pub after_is : sequences_after step e last p ≡ found_after step w p e
  after_is = ap (λ l. sequences_after step e l p) last_known ∙ sym (ap (filter (comes_after p)) (law.listed step e w.limit w.slack))

  pub search_is : (x : _) → position_of step e ≡ x → all_after step x last p ≡ searched_after step w p e
  search_is x here = ap (λ l. all_after step x l p) last_known ∙ sym (ap (λ y. all_after step y (last_length (least_length_of step e w.limit) w.limit w.slack) p) here)

  pub looks_are : deepening_looks_of step e last ≡ looks_for_all step w e
  looks_are = ap (deepening_looks_of step e) last_known ∙ sym (law.looked step e w.limit w.slack)

-- Bytes spell one list of turns.
abbrev moves_or : Moves → Result Moves ReadFault → Moves
moves_or d (Ok line) = line
moves_or d (Err fault) = d

one_spelling : (bytes : List ℕ) (p q : List Turn) → Spells bytes p → Spells bytes q → p ≡ q
one_spelling bytes p q h k = one_list p q (ap (moves_or (line_of_turns p)) (sym h.1 ∙ k.1))

module _ (step : Step) (w : Wanted) (line after : List ℕ) (out : Memory) (told : SearchAnswer) (p : List Turn) (spells : Spells after p)
    (limit : w.limit ≤ most_limit) (slack : w.slack ≤ most_limit) where
  not_beyond : (most_limit < w.limit) ⊎ (most_limit < w.slack) → ⊥
  not_beyond (inl h) = absurd (omega (arith, h, limit))
  not_beyond (inr h) = absurd (omega (arith, h, slack))

  -- what a search tells of the line
  pub after_solves : length line ≤ most_bytes → SolvesAtAfter (start_cube step (read_line line)) step w p out told → SolvesAfter step w line after out told
  after_solves short solved = record {
    beyond = λ b. absurd (not_beyond b);
    no_turns = λ none. absurd (none p spells);
    too_long = λ q s l k long. absurd (omega (arith, short, long));
    solves = λ q s l k m. subst (λ r. SolvesAtAfter (start_cube step (read_line line)) step w r out told) (one_spelling after p q spells s) solved;
  }

  pub after_too_long : most_bytes < length line → Only (unsolved status.Stopped 0 0) out told → SolvesAfter step w line after out told
  after_too_long long only = record {
    beyond = λ b. absurd (not_beyond b);
    no_turns = λ none. absurd (none p spells);
    too_long = λ q s l k m. only;
    solves = λ q s l k short. absurd (omega (arith, short, long));
  }

-- What passes the bound of one search passes that of both.
pub over_both : (r : Handed) (left all most whole : ℕ) → (left < all → most < whole) → IfErr r (λ stop. is_cut_in stop ≡ true → left < all)
    → IfErr r (λ stop. is_cut_in stop ≡ true → most < whole)
over_both (Ok count) left all most whole passes h = tt
over_both (Err stop) left all most whole passes h = λ t. passes (h t)

-- A number of 64 bits is told whole.
pub capped_whole : (looks most : ℕ) → looks ≤ most → most ≤ 18446744073709551615 → capped looks ≡ looks
capped_whole looks most within few = grind (arith, common_steps, within, few)

-- What a search has spent is told whole if it is a number of 64 bits.
pub capped_spent : {T E : Type 0} (is_cut : E → Bool) (r : Result T E) (step : Step) (most looks : ℕ) → looks ≤ most → most ≤ 18446744073709551615
    → HasSpent is_cut most step looks r → HasSpent is_cut most step (capped looks) r
capped_spent is_cut (Ok value) step most looks within few h = tt
capped_spent is_cut (Err stop) step most looks within few h = λ cut. grind (arith, common_steps, h cut)
