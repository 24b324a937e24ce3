-- What bytes with a blank after them do to the corners, and the steps from one to another; and lines in which some change places.
use Rattle.std.proofs.Common.{◌≡◌, ◌∙◌, ◌⊎◌, ℕ, ◌+◌, ◌-◌, ◌<◌, ◌≤◌, ◌==◌, ◌&&◌, nat_lt, cond, Bool, true, false, not, Result, List, [], ◌∷◌, ◌++◌, length, get_or, refl, sym, ap, subst, arith, inl, inr, append_assoc, append-nil, length-append}
use Rattle.std.specs.Prelude.{◌||◌, slice_index}
use Rattle.std.proofs.Math.Bool.{or-false, or-true}
use Rattle.std.proofs.lemmas.Bool.{cases_eq, cases_lt, eq-eqb, le-ltb, lt-ltb, ne_eqb}
use Rattle.std.proofs.lemmas.List.Folds.{list_any-append}
use Rattle.niss_moves.specs.Line.{Moves, Spells}
use Rattle.niss_moves.specs.Reader.{read_line}
use Rattle.niss_moves.specs.declared.fault.ReadFault.{ReadFault}
use Rattle.niss_moves.specs.declared.token.Token.{Token}
use Rattle.niss_attempts.specs.declared.steps.corners.StepCorners.{StepCorners}
use Rattle.niss_attempts.specs.Corners.{AreSteps, Reads, has_bracket}
use Rattle.niss_attempts.specs.DeadSteps.{AreParted, StandsNowhere, StaysDead}
use Rattle.niss_attempts.specs.MovedStep.{IsMovedAmong, IsMovedAt, line_moved, solves_exchanged, solves_moved, with_blank}
use Rattle.niss_attempts.specs.Parts.{solves_line, steps_line}
use Rattle.niss_attempts.proofs.BracketLemmas.{shut_first}
use Rattle.niss_attempts.proofs.CornerLines.{ascends_between, joined_steps, spells_both}
use Rattle.niss_attempts.proofs.DeadLemmas.{dead_after, dead_before, rests_blank}
use Rattle.niss_attempts.proofs.HoldLemmas.{blank_spelled}
use Rattle.niss_attempts.proofs.TailLemmas.{steps_stay_dead}

-- A blank does nothing.
pub blank_reads : (bytes : List ℕ) (c : StepCorners) → Reads bytes c → Reads (with_blank bytes) c
blank_reads bytes c (inl one) = inl (record {
  normal = one.normal;
  bracketed = one.bracketed;
  spells =
      subst (λ (b : List Token). Spells (with_blank bytes) one.normal b) (append-nil one.bracketed)
      (subst (λ (n : List Token). Spells (with_blank bytes) n (one.bracketed ++ [])) (append-nil one.normal)
      (spells_both bytes (32 ∷ []) one.normal one.bracketed [] [] one.spells blank_spelled));
  brings = one.brings;
  undoes = one.undoes;
  inverts = one.inverts;
  is_plain = one.is_plain ∙ ap not (sym (list_any-append (λ byte. byte == 40) bytes (32 ∷ []) ∙ or-false (has_bracket bytes)));
  lives = one.lives;
})
blank_reads bytes c (inr none) = inr (record { faulty = by_kind none.faulty; not_plain = none.not_plain; is_dead = none.is_dead })
  where
    by_kind : StandsNowhere bytes → StandsNowhere (with_blank bytes)
    by_kind (inl dead) = inl (dead_before bytes (32 ∷ []) dead)
    by_kind (inr shut) = inr (shut_first bytes (32 ∷ []) (inl refl) shut)

-- No move goes on from it.
pub blank_stays : (bytes more : List ℕ) → StaysDead (with_blank bytes) more
blank_stays bytes more dead = dead_after (with_blank bytes) more (rests_blank bytes) dead

-- one step more after some
pub step_more : (text bounds : List ℕ) (steps same : List StepCorners) (first step : ℕ) (before after none : StepCorners) → same ≡ steps → AreSteps text bounds steps →
    AreParted text bounds → first ≤ step → step + 1 < length bounds →
    ((bytes more : List ℕ) → Reads bytes before → Reads more (get_or same step none) → StaysDead bytes more → Reads (bytes ++ more) after) →
    Reads (steps_line text bounds first step) before → Reads (steps_line text bounds first (step + 1)) after
step_more text bounds steps same first step before after none is are parted ordered within both reads =
    let up = are.are_bounds.ascend in
    let one : Reads (steps_line text bounds step (step + 1)) (get_or same step none) =
    subst (λ (xs : List StepCorners). Reads (steps_line text bounds step (step + 1)) (get_or xs step none)) (sym is) (are.reads step none (omega (arith, within, are.number))) in
    subst (λ (bytes : List ℕ). Reads bytes after)
    (joined_steps text (slice_index bounds first) (slice_index bounds step) (slice_index bounds (step + 1)) (ascends_between bounds first step up ordered (omega (arith, within)))
    (up step within))
    (both (steps_line text bounds first step) (steps_line text bounds step (step + 1)) reads one
    (steps_stay_dead text bounds first step (step + 1) parted up ordered (omega arith) within))

-- what one step does, by a list that is that of all
pub step_reads : (text bounds : List ℕ) (steps same : List StepCorners) (step : ℕ) (none : StepCorners) → same ≡ steps → AreSteps text bounds steps →
    step + 1 < length bounds → Reads (steps_line text bounds step (step + 1)) (get_or same step none)
step_reads text bounds steps same step none is are within =
    subst (λ (xs : List StepCorners). Reads (steps_line text bounds step (step + 1)) (get_or xs step none)) (sym is) (are.reads step none (omega (arith, within, are.number)))

-- what the step above another one does
pub above_reads : (text bounds : List ℕ) (steps same : List StepCorners) (step : ℕ) (none : StepCorners) → same ≡ steps → AreSteps text bounds steps →
    step - 1 + 1 ≡ step → step < length bounds → Reads (steps_line text bounds (step - 1) step) (get_or same (step - 1) none)
above_reads text bounds steps same step none is are last within =
    subst (λ (n : ℕ). Reads (steps_line text bounds (step - 1) n) (get_or same (step - 1) none)) last
    (step_reads text bounds steps same (step - 1) none is are (omega (arith, last, within)))

-- one step more before some
pub step_less : (text bounds : List ℕ) (steps same : List StepCorners) (step last : ℕ) (later both none : StepCorners) → same ≡ steps → AreSteps text bounds steps →
    AreParted text bounds → step + 1 ≤ last → last < length bounds →
    ((bytes more : List ℕ) → Reads bytes (get_or same step none) → Reads more later → StaysDead bytes more → Reads (bytes ++ more) both) →
    Reads (steps_line text bounds (step + 1) last) later → Reads (steps_line text bounds step last) both
step_less text bounds steps same step last later both none is are parted ordered within joins reads =
    let up = are.are_bounds.ascend in
    let one = step_reads text bounds steps same step none is are (omega (arith, within, ordered)) in
    subst (λ (bytes : List ℕ). Reads bytes both)
    (joined_steps text (slice_index bounds step) (slice_index bounds (step + 1)) (slice_index bounds last) (up step (omega (arith, within, ordered)))
    (ascends_between bounds (step + 1) last up ordered within))
    (joins (steps_line text bounds step (step + 1)) (steps_line text bounds (step + 1) last) one reads
    (steps_stay_dead text bounds step (step + 1) last parted up (omega arith) ordered within))

-- A step that is moved changes places with those between.
pub moved_up : (scramble : Result Moves ReadFault) (steps bounds : List ℕ) (step place : ℕ) → place < step →
    solves_moved scramble steps bounds step place ≡ solves_exchanged scramble steps bounds (record { first = place; middle = step; last = step + 1 })
moved_up scramble steps bounds step place less =
    let other : (place == step) ≡ false = ne_eqb place step (λ e. omega (arith, e, less)) in
    let next : (place == step + 1) ≡ false = ne_eqb place (step + 1) (λ e. omega (arith, e, less)) in
    let before : nat_lt place step ≡ true = lt-ltb place step less in
    λ i. not (other i || next i) && solves_exchanged scramble steps bounds
    (cond (before i) (record { first = place; middle = step; last = step + 1 }) (record { first = step; middle = step + 1; last = place }))

pub moved_down : (scramble : Result Moves ReadFault) (steps bounds : List ℕ) (step place : ℕ) → step + 1 < place →
    solves_moved scramble steps bounds step place ≡ solves_exchanged scramble steps bounds (record { first = step; middle = step + 1; last = place })
moved_down scramble steps bounds step place less =
    let other : (place == step) ≡ false = ne_eqb place step (λ e. omega (arith, e, less)) in
    let next : (place == step + 1) ≡ false = ne_eqb place (step + 1) (λ e. omega (arith, e, less)) in
    let after : nat_lt place step ≡ false = le-ltb place step (omega (arith, less)) in
    λ i. not (other i || next i) && solves_exchanged scramble steps bounds
    (cond (after i) (record { first = place; middle = step; last = step + 1 }) (record { first = step; middle = step + 1; last = place }))

-- Two neighbours change places if either is moved past the other.
neighbours : (scramble : Result Moves ReadFault) (steps bounds : List ℕ) (step above : ℕ) → above + 1 ≡ step →
    solves_moved scramble steps bounds step above ≡ solves_moved scramble steps bounds above (step + 1)
neighbours scramble steps bounds step above next =
    moved_up scramble steps bounds step above (omega (arith, next))
    ∙ ap (λ n. solves_exchanged scramble steps bounds (record { first = above; middle = n; last = step + 1 })) (sym next)
    ∙ sym (moved_down scramble steps bounds above (step + 1) (omega (arith, next)))

stays_there : (scramble : Result Moves ReadFault) (steps bounds : List ℕ) (step place : ℕ) → (place ≡ step) ⊎ (place ≡ step + 1) →
    solves_moved scramble steps bounds step place ≡ false
stays_there scramble steps bounds step place (inl same) =
    let it : (place == step) ≡ true = eq-eqb place step same in
    λ i. not (it i || (place == step + 1)) && solves_line scramble (read_line (line_moved steps bounds step place))
stays_there scramble steps bounds step place (inr same) =
    let it : (place == step + 1) ≡ true = eq-eqb place (step + 1) same in
    (λ i. not ((place == step) || it i) && solves_line scramble (read_line (line_moved steps bounds step place)))
    ∙ ap (λ b. not b && solves_line scramble (read_line (line_moved steps bounds step place))) (or-true (place == step))

-- A step isn't moved if it isn't further up or down, and the one right above it isn't past it.
pub never_moved : (scramble : Result Moves ReadFault) (steps bounds : List ℕ) (step place : ℕ) →
    (place + 1 < step → solves_moved scramble steps bounds step place ≡ false) →
    ((above : ℕ) → above + 1 ≡ step → solves_moved scramble steps bounds above (step + 1) ≡ false) →
    (step + 1 < place → solves_moved scramble steps bounds step place ≡ false) → solves_moved scramble steps bounds step place ≡ false
never_moved scramble steps bounds step place up asked down = by_order (cases_lt (place + 1) step) (cases_lt (step + 1) place) (cases_eq (place + 1) step) (cases_eq place step)
  where
    by_order : (place + 1 < step) ⊎ (step ≤ place + 1) → (step + 1 < place) ⊎ (place ≤ step + 1) → (place + 1 ≡ step) ⊎ (place + 1 ≡ step → ⊥) →
        (place ≡ step) ⊎ (place ≡ step → ⊥) → solves_moved scramble steps bounds step place ≡ false
    by_order (inl above) b c d = up above
    by_order (inr a) (inl below) c d = down below
    by_order (inr a) (inr b) (inl next) d = neighbours scramble steps bounds step place next ∙ asked place next
    by_order (inr a) (inr b) (inr c) (inl same) = stays_there scramble steps bounds step place (inl same)
    by_order (inr a) (inr b) (inr c) (inr d) =
        let last : place ≡ step + 1 = omega (arith, a, b, c, d) in
        stays_there scramble steps bounds step place (inr last)

-- The same of all places.
pub moved_else : (scramble : Result Moves ReadFault) (steps bounds : List ℕ) (step : ℕ) (down : Bool) →
    IsMovedAmong (λ place. place + 1 < step) scramble steps bounds step false →
    ((above : ℕ) → above + 1 ≡ step → solves_moved scramble steps bounds above (step + 1) ≡ false) →
    IsMovedAmong (λ place. (step + 1 < place) × (place < length bounds)) scramble steps bounds step down → IsMovedAt scramble steps bounds step down
moved_else scramble steps bounds step true up asked is = (is.0, is.1.1, is.2)
moved_else scramble steps bounds step false up asked not =
    λ place within. never_moved scramble steps bounds step place (up place) asked (λ below. not place (below, within))

-- what is known of each place further down, with one place more, and of each further up
pub down_more : (P : ℕ → Type 0) (step above : ℕ) → ((place : ℕ) → step + 1 < place → place ≤ above → P place) → P (above + 1) →
    (place : ℕ) → step + 1 < place → place ≤ above + 1 → P place
down_more P step above none here place low high = by_order (cases_lt above place)
  where
    by_order : (above < place) ⊎ (place ≤ above) → P place
    by_order (inl last) =
        let same : above + 1 ≡ place = omega (arith, last, high) in
        subst P same here
    by_order (inr before) = none place low before

pub up_more : (P : ℕ → Type 0) (step first : ℕ) → ((place : ℕ) → first + 1 ≤ place → place + 1 < step → P place) → P first →
    (place : ℕ) → first ≤ place → place + 1 < step → P place
up_more P step first none here place low high = by_order (cases_lt first place)
  where
    by_order : (first < place) ⊎ (place ≤ first) → P place
    by_order (inl after) = none place (omega (arith, after)) high
    by_order (inr not) =
        let same : first ≡ place = omega (arith, not, low) in
        subst P same here
