-- What the steps of an attempt from each one on do to the corners, if some of them stand in brackets.
use Rattle.std.proofs.Common.{◌≡◌, ◌∙◌, ◌≢◌, ℕ, zero, suc, ◌+◌, ◌-◌, ◌<◌, ◌≤◌, ◌⊎◌, ◌==◌, Bool, true, false, not, List, [], ◌∷◌, ◌++◌, length, map, take, drop, add-zero, get_or, set, Result, Ok, Err, refl, sym, ap, subst, arith, inl, inr, append_assoc, append-nil}
use Rattle.std.specs.Prelude.{flat_map, slice_index, slice_range}
use Rattle.std.specs.List.{range_with_len}
use Rattle.std.proofs.lemmas.Bool.{cases_eq, cases_lt}
use Rattle.std.proofs.lemmas.Nat.Bits.{bit_at-zero}
use Rattle.std.proofs.lemmas.List.{get_or-set_same, get_or-set_other}
use Rattle.niss_moves.specs.Effects.{inverse}
use Rattle.niss_moves.specs.Line.{Moves, Spells, joined_moves}
use Rattle.niss_moves.specs.Reader.{read_line}
use Rattle.niss_moves.specs.Solving.{IsRotated}
use Rattle.niss_moves.specs.declared.fault.ReadFault.{ReadFault}
use Rattle.niss_moves.specs.declared.token.Token.{Token}
use Rattle.niss_moves.proofs.CallerLemmas.{inverse-append}
use Rattle.niss_attempts.specs.declared.steps.cube_corners.Corners.{Corners}
use Rattle.niss_attempts.specs.declared.steps.reading.Reading.TheVariants.{AsWritten, WithoutBrackets}
use Rattle.niss_attempts.specs.declared.steps.corners.StepCorners.{StepCorners}
use Rattle.niss_attempts.specs.declared.steps.sets.StepSet.{StepSet}
use Rattle.niss_attempts.specs.DeadSteps.{AreParted, IsDead, IsParted, Rests, StandsNowhere, StaysDead}
use Rattle.niss_attempts.specs.Corners.{Brings, Reads, ReadsSo, Ascends, IsTail, EndsNone, AreSteps, AreTails, has_bracket, home, line_from, no_step}
use Rattle.niss_attempts.specs.Parts.{has, bare_step, number_of_steps, read_byte, step_with, steps_line, in_brackets_if, solves_line}
use Rattle.niss_attempts.proofs.BracketLemmas.{nested_ends_none, more_ends_none, shut_ends_none, shut_in_brackets, spelled_out}
use Rattle.niss_attempts.proofs.DeadLemmas.{dead_before, dead_after, dead_fails, dead_in_brackets, rests_both, rests_brackets, rests_nothing, stays_dead}
use Rattle.niss_attempts.proofs.CornerLemmas.{by_nothing}
use Rattle.niss_attempts.proofs.CornerLines.{BringsBoth, IsRead, HasOneReading, IsTested, spells_both, spells_in_brackets, has_none, line_refused, joined_steps, ascends_between, ascends_to}

-- a step outside brackets before later ones
pub outside_tail : (c : StepCorners) (later inner both bytes more : List ℕ) → BringsBoth later c.inverse.to inner → BringsBoth c.normal.to inner both →
    ReadsSo bytes c → IsTail more later → StaysDead bytes more → IsTail (bytes ++ more) both
outside_tail c later inner both bytes more last first one (inr (inl none)) stays = inr (inl (more_ends_none bytes more (spelled_out bytes one.normal one.bracketed one.spells) none))
outside_tail c later inner both bytes more last first one (inr (inr dead)) stays = inr (inr (stays dead))
outside_tail c later inner both bytes more last first one (inl line) stays = inl (record {
  normal = one.normal ++ line.normal;
  bracketed = one.bracketed ++ line.bracketed;
  spells = spells_both bytes more one.normal one.bracketed line.normal line.bracketed one.spells line.spells;
  brings =
      let undone : inverse (one.bracketed ++ line.bracketed) ≡ inverse line.bracketed ++ inverse one.bracketed = inverse-append one.bracketed line.bracketed in
      let same : one.normal ++ ((line.normal ++ inverse line.bracketed) ++ inverse one.bracketed) ≡
      (one.normal ++ line.normal) ++ (inverse line.bracketed ++ inverse one.bracketed) = simp append_assoc in
      subst (Brings both) (same ∙ ap (λ v. (one.normal ++ line.normal) ++ v) (sym undone))
      (first one.normal ((line.normal ++ inverse line.bracketed) ++ inverse one.bracketed) one.brings
      (last (line.normal ++ inverse line.bracketed) (inverse one.bracketed) line.brings one.inverts));
})

has_some : (p b : Bool) → p ≡ not b → p ≡ false → b ≡ true
has_some p true e f = refl
has_some p false e f = absurd (cc (sym e ∙ f))

bracketed_so : (c : StepCorners) (bytes : List ℕ) → c.plain ≡ true → (one : ReadsSo bytes c) → Spells (40 ∷ bytes ++ 41 ∷ []) [] one.normal
bracketed_so c bytes plain one = spells_in_brackets bytes one.normal one.bracketed one.spells (has_none c.plain (has_bracket bytes) one.is_plain plain)

-- a step in brackets before later ones
pub inside_tail : (c : StepCorners) (later both bytes more : List ℕ) → BringsBoth later c.undone.to both → c.plain ≡ true → ReadsSo bytes c → IsTail more later →
    IsTail ((40 ∷ bytes ++ 41 ∷ []) ++ more) both
inside_tail c later both bytes more last plain one (inr (inl none)) = inr (inl (more_ends_none (40 ∷ bytes ++ 41 ∷ []) more (spelled_out (40 ∷ bytes ++ 41 ∷ []) [] one.normal (bracketed_so c bytes plain one)) none))
inside_tail c later both bytes more last plain one (inr (inr dead)) = inr (inr (dead_after (40 ∷ bytes ++ 41 ∷ []) more (rests_brackets bytes) dead))
inside_tail c later both bytes more last plain one (inl line) = inl (record {
  normal = line.normal;
  bracketed = one.normal ++ line.bracketed;
  spells =
      spells_both (40 ∷ bytes ++ 41 ∷ []) more [] one.normal line.normal line.bracketed
      (bracketed_so c bytes plain one) line.spells;
  brings =
      let undone : inverse (one.normal ++ line.bracketed) ≡ inverse line.bracketed ++ inverse one.normal = inverse-append one.normal line.bracketed in
      let same : (line.normal ++ inverse line.bracketed) ++ inverse one.normal ≡ line.normal ++ (inverse line.bracketed ++ inverse one.normal) =
      simp append_assoc in
      subst (Brings both) (same ∙ ap (λ v. line.normal ++ v) (sym undone)) (last (line.normal ++ inverse line.bracketed) (inverse one.normal) line.brings one.undoes);
})

-- a step with brackets in brackets
pub nested_tail : (c : StepCorners) (both bytes more : List ℕ) → c.plain ≡ false → ReadsSo bytes c → IsTail ((40 ∷ bytes ++ 41 ∷ []) ++ more) both
nested_tail c both bytes more not_plain one =
    inr (inl (nested_ends_none bytes more one.normal one.bracketed one.spells (has_some c.plain (has_bracket bytes) one.is_plain not_plain)))

-- a step that can't be read, in brackets or not
pub dead_tail : (in_brackets : Bool) (both bytes more : List ℕ) → StandsNowhere bytes → IsTail (in_brackets_if in_brackets bytes ++ more) both
dead_tail false both bytes more (inl dead) = inr (inr (dead_before bytes more dead))
dead_tail true both bytes more (inl dead) = inr (inr (dead_in_brackets bytes more dead))
dead_tail false both bytes more (inr shut) = inr (inl (shut_ends_none bytes more shut))
dead_tail true both bytes more (inr shut) = inr (inl (shut_in_brackets bytes more shut))

pub dead_step_tail : (c : StepCorners) (in_brackets : Bool) (both bytes more : List ℕ) → c.is_dead ≡ true → Reads bytes c →
    IsTail (in_brackets_if in_brackets bytes ++ more) both
dead_step_tail c in_brackets both bytes more is (inl one) = absurd (cc (sym is ∙ one.lives))
dead_step_tail c in_brackets both bytes more is (inr none) = dead_tail in_brackets both bytes more none.faulty

-- what is told of a step that can be read
pub living : (c : StepCorners) (bytes : List ℕ) → c.is_dead ≡ false → Reads bytes c → ReadsSo bytes c
living c bytes is (inl one) = one
living c bytes is (inr none) = absurd (cc (sym is ∙ none.is_dead))

-- no bytes
pub tail_of_none : IsTail [] home
tail_of_none = inl (record {
  normal = [];
  bracketed = [];
  spells = record { items = []; bytes_are = refl; normal_are = refl; bracketed_are = refl };
  brings = by_nothing;
})

-- what stands alone
pub one_tail : (bytes to : List ℕ) → IsTail (bytes ++ []) to → IsTail bytes to
one_tail bytes to tail = subst (λ (v : List ℕ). IsTail v to) (append-nil bytes) tail

-- steps between two others
pub tail_between : (before own after to : List ℕ) → IsTail (before ++ (own ++ after)) to → IsTail (before ++ own ++ after) to
tail_between before own after to tail =
    let same : before ++ (own ++ after) ≡ before ++ own ++ after = simp append_assoc in
    subst (λ (v : List ℕ). IsTail v to) same tail

-- the line of four stretches, from its end on
pub tail_of_four : (a b c d to : List ℕ) → IsTail (a ++ (b ++ (c ++ d))) to → IsTail (a ++ b ++ c ++ d) to
tail_of_four a b c d to tail =
    let same : a ++ (b ++ (c ++ d)) ≡ a ++ b ++ c ++ d = simp append_assoc in
    subst (λ (v : List ℕ). IsTail v to) same tail

-- all steps from one on are that one and those after it
line_next : (text bounds : List ℕ) (chosen : StepSet) (step : ℕ) → step < number_of_steps bounds →
    line_from text bounds chosen step ≡ step_with text bounds chosen step ++ line_from text bounds chosen (step + 1)
line_next text bounds chosen step l =
    let one : length bounds - 1 - step ≡ suc (length bounds - 1 - (step + 1)) = omega (arith, l) in
    ap (λ n. flat_map (step_with text bounds chosen) (range_with_len step n)) one

line_end : (text bounds : List ℕ) (chosen : StepSet) (step : ℕ) → number_of_steps bounds ≤ step → line_from text bounds chosen step ≡ []
line_end text bounds chosen step l =
    let none : length bounds - 1 - step ≡ 0 = omega (arith, l) in
    ap (λ n. flat_map (step_with text bounds chosen) (range_with_len step n)) none

-- after the last step there is none
pub tails_begin : (text bounds : List ℕ) (chosen : StepSet) (tails : List Corners) → length bounds - 1 < length tails →
    AreTails text bounds chosen (length bounds - 1) (set tails (length bounds - 1) (record { to = home }))
tails_begin text bounds chosen tails room step none after within =
    let here : length bounds - 1 ≡ step = omega (arith, after, within) in
    let at_home : get_or (set tails (length bounds - 1) (record { to = home })) step none ≡ record { to = home } =
    ap (λ k. get_or (set tails (length bounds - 1) (record { to = home })) k none) (sym here) ∙ get_or-set_same tails (length bounds - 1) (record { to = home }) none room in
    let tail : IsTail (line_from text bounds chosen step) home = subst (λ (bytes : List ℕ). IsTail bytes home) (sym (line_end text bounds chosen step after)) tail_of_none in
    subst (λ (c : Corners). IsTail (line_from text bounds chosen step) c.to) (sym at_home) tail

-- one step more
pub tails_more : (text bounds : List ℕ) (chosen : StepSet) (steps : List StepCorners) (tails : List Corners) (step : ℕ) (none : StepCorners) (nowhere both : Corners)
    (in_brackets : Bool) → AreSteps text bounds steps → AreParted text bounds → step < length steps → step < length tails → in_brackets ≡ has chosen step →
    ((bytes more : List ℕ) → Reads bytes (get_or steps step none) → IsTail more (get_or tails (step + 1) nowhere).to → StaysDead bytes more →
    IsTail (in_brackets_if in_brackets bytes ++ more) both.to) →
    AreTails text bounds chosen (step + 1) tails → AreTails text bounds chosen step (set tails step both)
tails_more text bounds chosen steps tails step none nowhere both in_brackets are parted l room so later tails_are at other from within = by_place (cases_eq at step)
  where
    next_parted : (step + 2 < length bounds) ⊎ (length bounds ≤ step + 2) → IsParted (steps_line text bounds step (step + 1)) (line_from text bounds chosen (step + 1))
    next_parted (inl before) = inl (parted step before AsWritten)
    next_parted (inr last) = inr (line_end text bounds chosen (step + 1) (omega (arith, last)))

    first : IsTail (line_from text bounds chosen step) both.to
    first =
        let own : List ℕ = steps_line text bounds step (step + 1) in
        let rest : List ℕ = line_from text bounds chosen (step + 1) in
        let tail : IsTail (in_brackets_if in_brackets own ++ rest) both.to = later own rest (are.reads step none l) (tails_are (step + 1) nowhere (omega arith) (omega (arith, l, are.number)))
        (stays_dead own rest (next_parted (cases_lt (step + 2) (length bounds)))) in
        subst (λ (bytes : List ℕ). IsTail bytes both.to)
        (ap (λ b. in_brackets_if b own ++ rest) so ∙ sym (line_next text bounds chosen step (omega (arith, l, are.number)))) tail

    by_place : (at ≡ step) ⊎ (at ≢ step) → IsTail (line_from text bounds chosen at) (get_or (set tails step both) at other).to
    by_place (inl here) =
        let is : get_or (set tails step both) at other ≡ both = ap (λ k. get_or (set tails step both) k other) here ∙ get_or-set_same tails step both other room in
        subst (λ (c : Corners). IsTail (line_from text bounds chosen at) c.to) (sym is)
        (subst (λ (k : ℕ). IsTail (line_from text bounds chosen k) both.to) (sym here) first)
    by_place (inr not_here) =
        subst (λ (c : Corners). IsTail (line_from text bounds chosen at) c.to) (sym (get_or-set_other tails step at both other not_here))
        (tails_are at other (grind (arith, not_here, from)) within)

-- As they stand the steps from one on are a line.
pub steps_none : (text bounds : List ℕ) (k : ℕ) → steps_line text bounds k k ≡ []
steps_none text bounds k =
    let none : slice_index bounds k - slice_index bounds k ≡ 0 = omega arith in
    ap (λ n. map (read_byte AsWritten) (take n (drop (slice_index bounds k) text))) none

-- From steps that end before the last one no move goes on.
parted_to : (text bounds : List ℕ) (a n : ℕ) → AreParted text bounds → Ascends bounds → a + n + 1 < length bounds → Rests (steps_line text bounds a (a + n))
parted_to text bounds a zero parted up l = subst Rests (sym (ap (steps_line text bounds a) (add-zero a) ∙ steps_none text bounds a)) rests_nothing
parted_to text bounds a (suc n) parted up l =
    let rest = parted_to text bounds (a + 1) n parted up (omega (arith, l)) in
    let end : a + 1 + n ≡ a + suc n = omega arith in
    let first : slice_index bounds a ≤ slice_index bounds (a + 1) = up a (omega (arith, l)) in
    let next : slice_index bounds (a + 1) ≤ slice_index bounds (a + 1 + n) = ascends_to bounds (a + 1) n up (omega (arith, l)) in
    subst Rests (joined_steps text (slice_index bounds a) (slice_index bounds (a + 1)) (slice_index bounds (a + 1 + n)) first next ∙ ap (steps_line text bounds a) end)
    (rests_both (steps_line text bounds a (a + 1)) (steps_line text bounds (a + 1) (a + 1 + n)) (parted a (omega (arith, l)) AsWritten) rest)

pub rests_between : (text bounds : List ℕ) (a b : ℕ) → AreParted text bounds → Ascends bounds → a ≤ b → b + 1 < length bounds → Rests (steps_line text bounds a b)
rests_between text bounds a b parted up ab l =
    let is : a + (b - a) ≡ b = omega (arith, ab) in
    subst (λ (n : ℕ). Rests (steps_line text bounds a n)) is (parted_to text bounds a (b - a) parted up (omega (arith, is, l)))

-- So steps stand before later ones.
pub steps_parted : (text bounds : List ℕ) (a b : ℕ) → AreParted text bounds → Ascends bounds → a ≤ b → b < length bounds →
    IsParted (steps_line text bounds a b) (steps_line text bounds b (length bounds - 1))
steps_parted text bounds a b parted up ab l = by_order (cases_lt (b + 1) (length bounds))
  where
    by_order : (b + 1 < length bounds) ⊎ (length bounds ≤ b + 1) → IsParted (steps_line text bounds a b) (steps_line text bounds b (length bounds - 1))
    by_order (inl before) = inl (rests_between text bounds a b parted up ab before)
    by_order (inr last) =
        let end : b ≡ length bounds - 1 = omega (arith, l, last) in
        inr (ap (steps_line text bounds b) (sym end) ∙ steps_none text bounds b)

pub steps_stay_dead : (text bounds : List ℕ) (a b c : ℕ) → AreParted text bounds → Ascends bounds → a ≤ b → b ≤ c → c < length bounds →
    StaysDead (steps_line text bounds a b) (steps_line text bounds b c)
steps_stay_dead text bounds a b c parted up ab bc l = by_order (cases_lt (b + 1) (length bounds))
  where
    by_order : (b + 1 < length bounds) ⊎ (length bounds ≤ b + 1) → StaysDead (steps_line text bounds a b) (steps_line text bounds b c)
    by_order (inl before) = stays_dead (steps_line text bounds a b) (steps_line text bounds b c) (inl (rests_between text bounds a b parted up ab before))
    by_order (inr last) =
        let end : c ≡ b = omega (arith, l, last, bc) in
        stays_dead (steps_line text bounds a b) (steps_line text bounds b c) (inr (ap (steps_line text bounds b) end ∙ steps_none text bounds b))

-- the steps before some, of all after them
pub before_parted : (text bounds : List ℕ) (first end : ℕ) → AreParted text bounds → Ascends bounds → first ≤ end → end < length bounds →
    IsParted (steps_line text bounds 0 first) (steps_line text bounds first end ++ steps_line text bounds end (length bounds - 1))
before_parted text bounds first end parted up ordered l =
    let last : ℕ = length bounds - 1 in
    let own : slice_index bounds first ≤ slice_index bounds end = ascends_between bounds first end up ordered l in
    let rest : slice_index bounds end ≤ slice_index bounds last = ascends_between bounds end last up (omega (arith, l)) (omega (arith, l)) in
    subst (IsParted (steps_line text bounds 0 first))
    (sym (joined_steps text (slice_index bounds first) (slice_index bounds end) (slice_index bounds last) own rest))
    (steps_parted text bounds 0 first parted up (omega arith) (omega (arith, ordered, l)))

-- a step without its brackets, of all after it
pub bare_parted : (text bounds : List ℕ) (step : ℕ) → AreParted text bounds → step + 1 < length bounds →
    IsParted (bare_step text bounds step) (steps_line text bounds (step + 1) (length bounds - 1))
bare_parted text bounds step parted l = by_order (cases_lt (step + 2) (length bounds))
  where
    by_order : (step + 2 < length bounds) ⊎ (length bounds ≤ step + 2) → IsParted (bare_step text bounds step) (steps_line text bounds (step + 1) (length bounds - 1))
    by_order (inl before) = inl (parted step before WithoutBrackets)
    by_order (inr last) =
        let end : step + 1 ≡ length bounds - 1 = omega (arith, l, last) in
        inr (ap (steps_line text bounds (step + 1)) (sym end) ∙ steps_none text bounds (step + 1))

-- It has no bytes if it has none as it is written.
none_read : (f g : ℕ → ℕ) (bytes : List ℕ) → map f bytes ≡ [] → map g bytes ≡ []
none_read f g [] e = refl
none_read f g (x ∷ xs) e = absurd (cc e)

pub bare_none : (text bounds : List ℕ) (step : ℕ) → steps_line text bounds step (step + 1) ≡ [] → bare_step text bounds step ≡ []
bare_none text bounds step none =
    none_read (read_byte AsWritten) (read_byte WithoutBrackets) (slice_range text (slice_index bounds step) (slice_index bounds (step + 1))) none

plain_line : (text bounds : List ℕ) (n step : ℕ) → Ascends bounds → step + n < length bounds →
    flat_map (step_with text bounds no_step) (range_with_len step n) ≡ steps_line text bounds step (step + n)
plain_line text bounds zero step up l = sym (ap (steps_line text bounds step) (add-zero step) ∙ steps_none text bounds step)
plain_line text bounds (suc n) step up l =
    let own : step_with text bounds no_step step ≡ steps_line text bounds step (step + 1) =
    ap (λ bit. in_brackets_if (bit == 1) (steps_line text bounds step (step + 1))) (bit_at-zero step) in
    let rest = plain_line text bounds n (step + 1) up (omega (arith, l)) in
    let end : step + 1 + n ≡ step + suc n = omega arith in
    let first : slice_index bounds step ≤ slice_index bounds (step + 1) = up step (omega (arith, l)) in
    let next : slice_index bounds (step + 1) ≤ slice_index bounds (step + 1 + n) = ascends_to bounds (step + 1) n up (omega (arith, l)) in
    (λ i. own i ++ rest i) ∙ joined_steps text (slice_index bounds step) (slice_index bounds (step + 1)) (slice_index bounds (step + 1 + n)) first next
    ∙ ap (steps_line text bounds step) end

pub plain_tail : (text bounds : List ℕ) (tails : List Corners) (step : ℕ) (none : Corners) → Ascends bounds → AreTails text bounds no_step 0 tails →
    step < length bounds → IsTail (steps_line text bounds step (length bounds - 1)) (get_or tails step none).to
plain_tail text bounds tails step none up are l =
    let end : step + (length bounds - 1 - step) ≡ length bounds - 1 = omega (arith, l) in
    let same : line_from text bounds no_step step ≡ steps_line text bounds step (length bounds - 1) =
    plain_line text bounds (length bounds - 1 - step) step up (omega (arith, l, end)) ∙ ap (steps_line text bounds step) end in
    subst (λ (bytes : List ℕ). IsTail bytes (get_or tails step none).to) same (are step none (omega arith) l)

pub not_both : (b : Bool) → b ≡ true → b ≡ false → ⊥
not_both true t f = cc f
not_both false t f = cc t

-- A line that can't be read doesn't solve.
pub ends_refused : IsRead → (scramble : Moves) (bytes : List ℕ) → EndsNone bytes ⊎ IsDead bytes → solves_line (Ok scramble) (read_line bytes) ≡ false
ends_refused is_read scramble bytes ends = by_result (read_line bytes) refl
  where
    faulty : (m : Moves) → read_line bytes ≡ Ok m → EndsNone bytes ⊎ IsDead bytes → ⊥
    faulty m e (inl none) = none [] m.normal m.bracketed refl ((is_read bytes m).0 e).0
    faulty m e (inr dead) = dead_fails bytes m dead e

    by_result : (r : Result Moves ReadFault) → read_line bytes ≡ r → solves_line (Ok scramble) r ≡ false
    by_result (Err f) e = refl
    by_result (Ok m) e = absurd (faulty m e ends)

-- A test that each rotation passes, and these moves don't, refuses their line.
pub tail_refused : IsRead → HasOneReading → IsTested → (scramble : Moves) (bytes to : List ℕ) (passes : Bool) → IsTail bytes to →
    ((s : List Token) → Brings to s → IsRotated (joined_moves scramble ++ s) → passes ≡ true) → passes ≡ false →
    solves_line (Ok scramble) (read_line bytes) ≡ false
tail_refused is_read one tested scramble bytes to passes (inl line) test not_passed =
    line_refused is_read one tested scramble bytes line.normal line.bracketed line.spells
    (λ w. not_both passes (test (line.normal ++ inverse line.bracketed) line.brings w) not_passed)
tail_refused is_read one tested scramble bytes to passes (inr ends) test not_passed = ends_refused is_read scramble bytes ends
