-- One more line in the group of its attempt.
use Rattle.std.proofs.Common.{◌≡◌, ℕ, ◌+◌, ◌-◌, ◌<◌, ◌≤◌, ◌⊎◌, inl, inr, ◌&&◌, nat_le, Bool, true, false, if◌then◌else◌, Option, List, [], ◌∷◌, ◌++◌, length, take, set, get_or, refl, sym, subst, ap, ◌∙◌, length-append, arith}
use Rattle.std.proofs.lemmas.Bool.{cases_lt, false≢true}
use Rattle.std.proofs.lemmas.List.{get_or_append_left, get_or_at, take_more_set}
use Rattle.std.proofs.lemmas.List.Elements.{All-push}
use Rattle.niss_text.specs.Groups.{BeginsGroup, FollowsInGroup, EndsGroup, StaysBehind, IsInFront, IsSolved, AreBelow, IsFresh, Goes, is_that}
use Rattle.niss_text.proofs.LineLemmas.{one_more}
use Rattle.niss_text.proofs.GroupedLines.{IsBefore, IsLast, SoFar, KindAt}
use Rattle.niss_text.specs.declared.groups.Group.{Group}
use Rattle.niss_text.specs.declared.line.Line.{Line}
use Rattle.niss_text.specs.declared.text_line.TextLine.{TextLine}

-- a line and the one before it, if it is of the same attempt
follow_last : (number : ℕ) (g r : Group) (seen : Line) (scramble_end at : ℕ) (before line : TextLine) → IsBefore number g scramble_end at before →
    (before.attempt ≡ number → IsLast number g before) → (before.attempt < number → r.number ≡ 0) → (at < scramble_end → r ≡ g) →
    (scramble_end ≤ at → Goes g r seen) → KindAt line.kind seen scramble_end at → line.attempt ≡ number → line.group ≡ r.number →
    (seen.is_solution ≡ true → line.says_solution ≡ 1) → FollowsInGroup before line
follow_last number g r seen scramble_end at before line known last fresh early later kind own group says = record {
  same = λ is. by_place (last (sym is ∙ own)) (cases_lt at scramble_end);
  other = λ differs. group ∙ fresh (by_attempt (cases_lt before.attempt number) differs);
}
  where
    by_attempt : (before.attempt < number) ⊎ (number ≤ before.attempt) → (line.attempt ≡ before.attempt → ⊥) → before.attempt < number
    by_attempt (inl lt) differs = lt
    by_attempt (inr le) differs = absurd (differs (let same : line.attempt ≡ before.attempt = omega (arith, own, le, known.low) in same))

    goes_on : IsLast number g before → r.number ≡ g.number → (line.group ≡ before.group) ⊎ ((line.group ≡ before.group + 1) × BeginsGroup before line)
    goes_on is same = inl (group ∙ same ∙ sym is.own)

    why : IsLast number g before → (g.is_ended ≡ true) ⊎ (((g.has_moves ≡ true) × (seen.is_solution ≡ true)) ⊎ ((g.is_line ≡ true) × (seen.is_moves ≡ true))) →
        scramble_end ≤ at → seen.is_blank ≡ false → 3 ≤ line.kind → BeginsGroup before line
    why is (inl ended) low filled after = record { after = after; behind = inl (is.ended ended); since = inl (is.ended ended) }
    why is (inr (inl told)) low filled after = record { after = after; behind = is.begun (inr (inl told.0)); since = inr (inl (says told.1)) }
    why is (inr (inr moved)) low filled after = record { after = after; behind = is.begun (inr (inr moved.0)); since = inr (inr (kind.steps low filled moved.1)) }

    by_next : IsLast number g before → scramble_end ≤ at → seen.is_blank ≡ false →
        ((r.number ≡ g.number) × ((g.is_ended ≡ false) × (g.has_moves ≡ true → r.has_moves ≡ true)))
        ⊎ ((r.number ≡ g.number + 1) × ((g.is_ended ≡ true) ⊎ (((g.has_moves ≡ true) × (seen.is_solution ≡ true)) ⊎ ((g.is_line ≡ true) × (seen.is_moves ≡ true))))) →
        (line.group ≡ before.group) ⊎ ((line.group ≡ before.group + 1) × BeginsGroup before line)
    by_next is low filled (inl on) = goes_on is on.0
    by_next is low filled (inr next) = inr (group ∙ next.0 ∙ ap (λ n. n + 1) (sym is.own), why is next.1 low filled (after (kind.later low)))
      where
        after : (line.kind ≡ 0) ⊎ (3 ≤ line.kind) → 3 ≤ line.kind
        after (inl none) = absurd (false≢true (sym filled ∙ kind.filled low none))
        after (inr le) = le

    by_blank : IsLast number g before → scramble_end ≤ at → (b : Bool) → seen.is_blank ≡ b →
        (line.group ≡ before.group) ⊎ ((line.group ≡ before.group + 1) × BeginsGroup before line)
    by_blank is low true blank = goes_on is ((later low).blank blank).0
    by_blank is low false filled = by_next is low filled ((later low).next filled)

    by_place : IsLast number g before → (at < scramble_end) ⊎ (scramble_end ≤ at) →
        (line.group ≡ before.group) ⊎ ((line.group ≡ before.group + 1) × BeginsGroup before line)
    by_place is (inl lt) = goes_on is (ap (λ (v : Group). v.number) (early lt))
    by_place is (inr le) = by_blank is le seen.is_blank refl

-- the group after a line has a number that is no lower
pub group_grows : (g r : Group) (seen : Line) (scramble_end at : ℕ) → (at < scramble_end → r ≡ g) → (scramble_end ≤ at → Goes g r seen) →
    ((r.number ≡ g.number) × (g.has_moves ≡ true → r.has_moves ≡ true)) ⊎ (r.number ≡ g.number + 1)
group_grows g r seen scramble_end at early later = by_place (cases_lt at scramble_end)
  where
    by_next : Goes g r seen → (b : Bool) → seen.is_blank ≡ b → ((r.number ≡ g.number) × (g.has_moves ≡ true → r.has_moves ≡ true)) ⊎ (r.number ≡ g.number + 1)
    by_next goes true blank = inl ((goes.blank blank).0, λ has. (goes.blank blank).1.0 ∙ has)
    by_next goes false filled = elim (goes.next filled) [ inl on ↦ inl (on.0, on.1.1) | inr next ↦ inr next.0 ]

    by_place : (at < scramble_end) ⊎ (scramble_end ≤ at) → ((r.number ≡ g.number) × (g.has_moves ≡ true → r.has_moves ≡ true)) ⊎ (r.number ≡ g.number + 1)
    by_place (inl lt) = inl (ap (λ (v : Group). v.number) (early lt), λ has. ap (λ (v : Group). v.has_moves) (early lt) ∙ has)
    by_place (inr le) = by_next (later le) seen.is_blank refl

-- what is known of earlier lines is so after one more
before_stays : (number : ℕ) (g r : Group) (scramble_end at more : ℕ) (line : TextLine) → at ≤ more →
    ((r.number ≡ g.number) × (g.has_moves ≡ true → r.has_moves ≡ true)) ⊎ (r.number ≡ g.number + 1) →
    IsBefore number g scramble_end at line → IsBefore number r scramble_end more line
before_stays number g r scramble_end at more line further (inl on) is = record {
  low = is.low;
  among = λ same. omega (arith, is.among same, on.0);
  moves = λ same step group. on.1 (is.moves same step (group ∙ on.0));
  after = λ same after. omega (arith, is.after same after, further);
}
before_stays number g r scramble_end at more line further (inr next) is = record {
  low = is.low;
  among = λ same. omega (arith, is.among same, next);
  moves = λ same step group. absurd (omega (arith, is.among same, next, group));
  after = λ same after. omega (arith, is.after same after, further);
}

-- the line itself is the last one then
pub last_is : (number : ℕ) (g r : Group) (seen : Line) (scramble_end at : ℕ) (line : TextLine) → (at ≤ scramble_end → IsFresh g) →
    (at < scramble_end → r ≡ g) → (scramble_end ≤ at → Goes g r seen) → KindAt line.kind seen scramble_end at → line.attempt ≡ number → line.group ≡ r.number →
    IsLast number r line
last_is number g r seen scramble_end at line fresh early later kind own group = by_place (cases_lt at scramble_end)
  where
    by_fresh : IsFresh g → r ≡ g → IsLast number r line
    by_fresh is same = record {
      attempt = own;
      own = group;
      ended = λ ended. absurd (false≢true (sym is.is_ended ∙ sym (ap (λ (v : Group). v.is_ended) same) ∙ ended));
      begun = λ some. elim some [
        | inl ended ↦ absurd (false≢true (sym is.is_ended ∙ sym (ap (λ (v : Group). v.is_ended) same) ∙ ended))
        | inr rest ↦ elim rest [
          | inl moves ↦ absurd (false≢true (sym is.has_moves ∙ sym (ap (λ (v : Group). v.has_moves) same) ∙ moves))
          | inr line_is ↦ absurd (false≢true (sym is.is_line ∙ sym (ap (λ (v : Group). v.is_line) same) ∙ line_is))
        ]
      ];
      blank = λ none moves. absurd (false≢true (sym is.has_moves ∙ sym (ap (λ (v : Group). v.has_moves) same) ∙ moves));
    }

    by_blank : scramble_end ≤ at → Goes g r seen → (b : Bool) → seen.is_blank ≡ b → IsLast number r line
    by_blank low goes true blank = record {
      attempt = own;
      own = group;
      ended = λ ended. kind.unfilled blank;
      begun = λ some. inl (kind.unfilled blank);
      blank = λ none moves. (goes.blank blank).1.1 (sym (goes.blank blank).1.0 ∙ moves);
    }
    by_blank low goes false filled = record {
      attempt = own;
      own = group;
      ended = λ ended. absurd (false≢true (sym (goes.filled filled).0 ∙ ended));
      begun = λ some. kind.later low;
      blank = λ none moves. absurd (false≢true (sym filled ∙ kind.filled low none));
    }

    by_place : (at < scramble_end) ⊎ (scramble_end ≤ at) → IsLast number r line
    by_place (inl lt) = by_fresh (fresh (omega (arith, lt))) (early lt)
    by_place (inr le) = by_blank le (later le) seen.is_blank refl

-- the first line of an attempt has its first group
fresh_stays : (g r : Group) (seen : Line) (scramble_end at : ℕ) → IsFresh g → (at < scramble_end → r ≡ g) → (scramble_end ≤ at → Goes g r seen) → r.number ≡ 0
fresh_stays g r seen scramble_end at is early later = by_place (cases_lt at scramble_end)
  where
    never : (g.is_ended ≡ true) ⊎ (((g.has_moves ≡ true) × (seen.is_solution ≡ true)) ⊎ ((g.is_line ≡ true) × (seen.is_moves ≡ true))) → ⊥
    never (inl ended) = false≢true (sym is.is_ended ∙ ended)
    never (inr (inl told)) = false≢true (sym is.has_moves ∙ told.0)
    never (inr (inr moved)) = false≢true (sym is.is_line ∙ moved.0)

    by_blank : Goes g r seen → (b : Bool) → seen.is_blank ≡ b → r.number ≡ 0
    by_blank goes true blank = (goes.blank blank).0 ∙ is.number
    by_blank goes false filled = elim (goes.next filled) [ inl on ↦ on.0 ∙ is.number | inr next ↦ absurd (never next.1) ]

    by_place : (at < scramble_end) ⊎ (scramble_end ≤ at) → r.number ≡ 0
    by_place (inl lt) = ap (λ (v : Group). v.number) (early lt) ∙ is.number
    by_place (inr le) = by_blank (later le) seen.is_blank refl

-- One more line of an attempt, which begins at a place of it.
pub so_far_next : (lines : List TextLine) (line : TextLine) (number : ℕ) (own : Option ℕ) (g r : Group) (seen : Line) (scramble_end at more : ℕ) →
    SoFar lines number own g scramble_end at → (at ≤ scramble_end → IsFresh g) → (at ≡ 0 → AreBelow number lines) → (0 < at → 0 < length lines) →
    (0 < at → (none : TextLine) → IsLast number g (get_or lines (length lines - 1) none)) → (at < scramble_end → r ≡ g) → (scramble_end ≤ at → Goes g r seen) →
    KindAt line.kind seen scramble_end at → line.attempt ≡ number → line.group ≡ r.number → (seen.is_solution ≡ true → line.says_solution ≡ 1) → at < more →
    ◌≡◌ {A = ℕ} line.is_solution (if nat_le 3 line.kind && is_that own r.number then 1 else 0) → SoFar (lines ++ line ∷ []) number own r scramble_end more
so_far_next lines line number own g r seen scramble_end at more far fresh top some last early later kind attempt group says further solved = record {
  grouped = record {
    first = λ none lt. by_first none (cases_lt 0 n);
    next = λ k none lt. by_next k none (omega (arith, lt, long)) (cases_lt (k + 1) n);
    ends = λ j k none low lt. by_end j k none low (omega (arith, lt, long)) (cases_lt (k + 1) n);
    behind = λ j k none low lt. by_behind j k none low (omega (arith, lt, long)) (cases_lt k n);
    front = All-push IsInFront lines line far.grouped.front in_front;
    solution = far.grouped.solution;
    solved = All-push (IsSolved far.grouped.solution) lines line far.grouped.solved is_solved;
  };
  solved_by = far.solved_by;
  each = All-push (IsBefore number r scramble_end more) lines line
      (λ k none lt. before_stays number g r scramble_end at more (get_or lines k none) (omega (arith, further)) grows (far.each k none lt)) own_line;
}
  where
    n : ℕ
    n = length lines

    long : length (lines ++ line ∷ []) ≡ n + 1
    long = length-append lines (line ∷ [])

    old : (k : ℕ) (none : TextLine) → k < n → get_or (lines ++ line ∷ []) k none ≡ get_or lines k none
    old k none lt = get_or_append_left lines (line ∷ []) none k lt

    new : (k : ℕ) (none : TextLine) → k ≡ n → get_or (lines ++ line ∷ []) k none ≡ line
    new k none same = ap (λ m. get_or (lines ++ line ∷ []) m none) same ∙ get_or_at lines line [] none n refl

    grows : ((r.number ≡ g.number) × (g.has_moves ≡ true → r.has_moves ≡ true)) ⊎ (r.number ≡ g.number + 1)
    grows = group_grows g r seen scramble_end at early later

    starts : at ≡ 0 → r.number ≡ 0
    starts zero_at = fresh_stays g r seen scramble_end at (fresh (omega (arith, zero_at))) early later

    is_after : 3 ≤ line.kind → scramble_end ≤ at
    is_after after = by_place (cases_lt at scramble_end)
      where
        by_place : (at < scramble_end) ⊎ (scramble_end ≤ at) → scramble_end ≤ at
        by_place (inl lt) = absurd (omega (arith, after, kind.early lt))
        by_place (inr le) = le

    is_filled : 3 ≤ line.kind → seen.is_blank ≡ false
    is_filled after = by_test seen.is_blank refl
      where
        by_test : (b : Bool) → seen.is_blank ≡ b → seen.is_blank ≡ false
        by_test true is = absurd (omega (arith, after, kind.unfilled is))
        by_test false is = is

    own_line : IsBefore number r scramble_end more line
    own_line = record {
      low = omega (arith, attempt);
      among = λ same. omega (arith, group);
      moves = λ same step group_is.
          let after : 3 ≤ line.kind = omega (arith, step) in
          ((later (is_after after)).filled (is_filled after)).1 (kind.step step);
      after = λ same after. omega (arith, is_after after, further);
    }

    in_front : IsInFront line
    in_front is = by_place (cases_lt at scramble_end)
      where
        never : (line.kind ≡ 1) ⊎ (line.kind ≡ 2) → (line.kind ≡ 0) ⊎ (3 ≤ line.kind) → ⊥
        never (inl one) (inl none) = omega (arith, one, none)
        never (inl one) (inr le) = omega (arith, one, le)
        never (inr two) (inl none) = omega (arith, two, none)
        never (inr two) (inr le) = omega (arith, two, le)

        by_place : (at < scramble_end) ⊎ (scramble_end ≤ at) → line.group ≡ 0
        by_place (inl lt) = group ∙ ap (λ (v : Group). v.number) (early lt) ∙ (fresh (omega (arith, lt))).number
        by_place (inr le) = absurd (never is (kind.later le))

    is_solved : IsSolved far.grouped.solution line
    is_solved =
        let here : own ≡ far.grouped.solution line.attempt = sym far.solved_by ∙ ap far.grouped.solution (sym attempt) in
        subst (λ (s : Option ℕ). ◌≡◌ {A = ℕ} line.is_solution (if nat_le 3 line.kind && is_that s line.group then 1 else 0)) here
        (subst (λ (m : ℕ). ◌≡◌ {A = ℕ} line.is_solution (if nat_le 3 line.kind && is_that own m then 1 else 0)) (sym group) solved)

    by_first : (none : TextLine) → (0 < n) ⊎ (n ≤ 0) → (get_or (lines ++ line ∷ []) 0 none).group ≡ 0
    by_first none (inl lt) = ap (λ (l : TextLine). l.group) (old 0 none lt) ∙ far.grouped.first none lt
    by_first none (inr le) =
        let empty : 0 ≡ n = omega (arith, le) in
        ap (λ (l : TextLine). l.group) (new 0 none empty) ∙ group ∙ starts (by_at (cases_lt 0 at))
      where
        by_at : (0 < at) ⊎ (at ≤ 0) → at ≡ 0
        by_at (inl lt) = absurd (omega (arith, some lt, le))
        by_at (inr none_at) = omega (arith, none_at)

    last_line : (k : ℕ) (none : TextLine) → k + 1 ≡ n → (get_or lines k none).attempt ≡ number → IsLast number g (get_or lines k none)
    last_line k none same own_attempt = by_at (cases_lt 0 at)
      where
        by_at : (0 < at) ⊎ (at ≤ 0) → IsLast number g (get_or lines k none)
        by_at (inl lt) =
            let there : n - 1 ≡ k = omega (arith, same) in
            subst (λ m. IsLast number g (get_or lines m none)) there (last lt none)
        by_at (inr zero_at) = absurd (omega (arith, own_attempt, top (omega (arith, zero_at)) k none (omega (arith, same))))

    other_attempt : (k : ℕ) (none : TextLine) → k + 1 ≡ n → (get_or lines k none).attempt < number → r.number ≡ 0
    other_attempt k none same lower = by_at (cases_lt 0 at)
      where
        by_at : (0 < at) ⊎ (at ≤ 0) → r.number ≡ 0
        by_at (inl lt) =
            let there : n - 1 ≡ k = omega (arith, same) in
            absurd (omega (arith, lower, (subst (λ m. IsLast number g (get_or lines m none)) there (last lt none)).attempt))
        by_at (inr zero_at) = starts (omega (arith, zero_at))

    by_next : (k : ℕ) (none : TextLine) → k + 1 < n + 1 → (k + 1 < n) ⊎ (n ≤ k + 1) →
        FollowsInGroup (get_or (lines ++ line ∷ []) k none) (get_or (lines ++ line ∷ []) (k + 1) none)
    by_next k none low (inl lt) =
        subst (λ (l : TextLine). FollowsInGroup l (get_or (lines ++ line ∷ []) (k + 1) none)) (sym (old k none (omega (arith, lt))))
        (subst (λ (l : TextLine). FollowsInGroup (get_or lines k none) l) (sym (old (k + 1) none lt)) (far.grouped.next k none lt))
    by_next k none low (inr le) =
        let same : k + 1 ≡ n = omega (arith, low, le) in
        subst (λ (l : TextLine). FollowsInGroup l (get_or (lines ++ line ∷ []) (k + 1) none)) (sym (old k none (omega (arith, same))))
        (subst (λ (l : TextLine). FollowsInGroup (get_or lines k none) l) (sym (new (k + 1) none same))
        (follow_last number g r seen scramble_end at (get_or lines k none) line (far.each k none (omega (arith, same))) (last_line k none same)
        (other_attempt k none same) early later kind attempt group says))

    ends_here : (j k : ℕ) (none : TextLine) → j < k → k + 1 ≡ n → EndsGroup (get_or lines j none) (get_or lines k none) line
    ends_here j k none low same step_at blank_at step group_is blank after =
        let is : IsLast number g (get_or lines k none) = last_line k none same (blank_at ∙ attempt) in
        let moves : g.has_moves ≡ true = (far.each j none (omega (arith, low, same))).moves (step_at ∙ attempt) step (group_is ∙ is.own) in
        let ended : g.is_ended ≡ true = is.blank blank moves in
        elim ((later (is_after after)).next (is_filled after)) [
          | inl on ↦ absurd (false≢true (sym on.1.0 ∙ ended))
          | inr next ↦ group ∙ next.0 ∙ ap (λ m. m + 1) (sym is.own)
        ]

    by_end : (j k : ℕ) (none : TextLine) → j < k → k + 1 < n + 1 → (k + 1 < n) ⊎ (n ≤ k + 1) →
        EndsGroup (get_or (lines ++ line ∷ []) j none) (get_or (lines ++ line ∷ []) k none) (get_or (lines ++ line ∷ []) (k + 1) none)
    by_end j k none low high (inl lt) =
        subst (λ (l : TextLine). EndsGroup l (get_or (lines ++ line ∷ []) k none) (get_or (lines ++ line ∷ []) (k + 1) none)) (sym (old j none (omega (arith, low, lt))))
        (subst (λ (l : TextLine). EndsGroup (get_or lines j none) l (get_or (lines ++ line ∷ []) (k + 1) none)) (sym (old k none (omega (arith, lt))))
        (subst (λ (l : TextLine). EndsGroup (get_or lines j none) (get_or lines k none) l) (sym (old (k + 1) none lt)) (far.grouped.ends j k none low lt)))
    by_end j k none low high (inr le) =
        let same : k + 1 ≡ n = omega (arith, high, le) in
        subst (λ (l : TextLine). EndsGroup l (get_or (lines ++ line ∷ []) k none) (get_or (lines ++ line ∷ []) (k + 1) none)) (sym (old j none (omega (arith, low, same))))
        (subst (λ (l : TextLine). EndsGroup (get_or lines j none) l (get_or (lines ++ line ∷ []) (k + 1) none)) (sym (old k none (omega (arith, same))))
        (subst (λ (l : TextLine). EndsGroup (get_or lines j none) (get_or lines k none) l) (sym (new (k + 1) none same)) (ends_here j k none low same)))

    by_behind : (j k : ℕ) (none : TextLine) → j < k → k < n + 1 → (k < n) ⊎ (n ≤ k) →
        StaysBehind (get_or (lines ++ line ∷ []) j none) (get_or (lines ++ line ∷ []) k none)
    by_behind j k none low high (inl lt) =
        subst (λ (l : TextLine). StaysBehind l (get_or (lines ++ line ∷ []) k none)) (sym (old j none (omega (arith, low, lt))))
        (subst (λ (l : TextLine). StaysBehind (get_or lines j none) l) (sym (old k none lt)) (far.grouped.behind j k none low lt))
    by_behind j k none low high (inr le) =
        let same : k ≡ n = omega (arith, high, le) in
        subst (λ (l : TextLine). StaysBehind l (get_or (lines ++ line ∷ []) k none)) (sym (old j none (omega (arith, low, same))))
        (subst (λ (l : TextLine). StaysBehind (get_or lines j none) l) (sym (new k none same))
        (λ own_attempt after.
        let passed : scramble_end < at = (far.each j none (omega (arith, low, same))).after (own_attempt ∙ attempt) after in
        kind.later (omega (arith, passed))))

-- All lines are of this attempt or of earlier ones.
pub below_next : (lines : List TextLine) (number : ℕ) (own : Option ℕ) (g : Group) (scramble_end at : ℕ) → SoFar lines number own g scramble_end at → AreBelow (number + 1) lines
below_next lines number own g scramble_end at far k none lt = (far.each k none lt).low

pub grows_little : (g r : Group) → ((r.number ≡ g.number) × (g.has_moves ≡ true → r.has_moves ≡ true)) ⊎ (r.number ≡ g.number + 1) → r.number ≤ g.number + 1
grows_little g r (inl on) = omega (arith, on.0)
grows_little g r (inr next) = omega (arith, next)

-- The same in memory: one more line, or none if there is no room.
pub so_far_memory : (lines : List TextLine) (count : ℕ) (line : TextLine) (number : ℕ) (own : Option ℕ) (g r : Group) (scramble_end at more : ℕ) → at ≤ more →
    ((r.number ≡ g.number) × (g.has_moves ≡ true → r.has_moves ≡ true)) ⊎ (r.number ≡ g.number + 1) → SoFar (take count lines) number own g scramble_end at →
    (count < length lines → SoFar (take count lines ++ line ∷ []) number own r scramble_end more) → SoFar (take (count + 1) (set lines count line)) number own r scramble_end more
so_far_memory lines count line number own g r scramble_end at more further grows far next =
    one_more (λ ls. SoFar ls number own r scramble_end more) lines count line
    (record {
      grouped = far.grouped;
      solved_by = far.solved_by;
      each = λ k none lt. before_stays number g r scramble_end at more (get_or (take count lines) k none) further grows (far.each k none lt);
    })
    (λ room. subst (λ (ls : List TextLine). SoFar ls number own r scramble_end more) (sym (take_more_set lines count line room)) (next room))
