-- The lines of each attempt.
use Rattle.std.proofs.Common.{◌≡◌, ◌≢◌, ℕ, zero, suc, ◌+◌, ◌-◌, ◌<◌, ◌≤◌, ◌==◌, Bool, true, false, cond, List, [], ◌∷◌, ◌++◌, length, take, drop, set, slice_range, refl, sym, ap, subst, ◌∙◌, append_assoc, add-zero, arith}
use Rattle.std.specs.List.{list_any}
use Rattle.std.proofs.lemmas.Bool.{eq-eqb, ne_eqb}
use Rattle.std.proofs.lemmas.List.{append-nil, drop-drop, drop-set-lt, length-drop, length-take-le, take_all, take_more_set}
use Rattle.niss_text.specs.Moves.{is_wanted}
use Rattle.niss_text.specs.declared.moves.MovesOf.TheVariants.{Scramble}
use Rattle.niss_text.specs.declared.text_line.TextLine.{TextLine}
use Rattle.niss_attempts.specs.declared.attempts.runs.Run.{Run}
use Rattle.niss_attempts.specs.declared.attempts.checks.AttemptCheck.{AttemptCheck}
use Rattle.niss_attempts.specs.Attempts.{with_line, runs_of, with_scramble, attempts_from}
use Rattle.niss_attempts.specs.Runs.{Alike}
unfoldable use Rattle.niss_attempts.specs.Attempts.{Are}

-- the first lines that belong together begin with the first line
heads : (line : TextLine) (runs : List (List TextLine)) → (more : List TextLine) × (others : List (List TextLine)) × (with_line line runs ≡ (line ∷ more) ∷ others)
heads line [] = ([], [], refl)
heads line ([] ∷ runs) = ([], runs, refl)
heads line ((other ∷ more) ∷ runs) = by (line.attempt == other.attempt)
  where
    by : (b : Bool) → (m : List TextLine) × (o : List (List TextLine))
        × (cond b ((line ∷ other ∷ more) ∷ runs) ((line ∷ []) ∷ (other ∷ more) ∷ runs) ≡ (line ∷ m) ∷ o)
    by true = (other ∷ more, runs, refl)
    by false = ([], (other ∷ more) ∷ runs, refl)

together : (line other : TextLine) (more : List TextLine) (runs : List (List TextLine)) → line.attempt ≡ other.attempt →
    with_line line ((other ∷ more) ∷ runs) ≡ (line ∷ other ∷ more) ∷ runs
together line other more runs same =
    ap (λ b. cond b ((line ∷ other ∷ more) ∷ runs) ((line ∷ []) ∷ (other ∷ more) ∷ runs)) (eq-eqb line.attempt other.attempt same)

apart_from : (line other : TextLine) (more : List TextLine) (runs : List (List TextLine)) → line.attempt ≢ other.attempt →
    with_line line ((other ∷ more) ∷ runs) ≡ (line ∷ []) ∷ (other ∷ more) ∷ runs
apart_from line other more runs differs =
    ap (λ b. cond b ((line ∷ other ∷ more) ∷ runs) ((line ∷ []) ∷ (other ∷ more) ∷ runs)) (ne_eqb line.attempt other.attempt differs)

apart : (line other : TextLine) (runs : List (List TextLine)) → line.attempt ≢ other.attempt →
    with_line line (with_line other runs) ≡ (line ∷ []) ∷ with_line other runs
apart line other runs differs = let h = heads other runs in
    ap (λ v. with_line line v) h.2 ∙ apart_from line other h.0 h.1 differs ∙ ap (λ v. (line ∷ []) ∷ v) (sym h.2)

alike_runs : (line : TextLine) (n : ℕ) (lines : List TextLine) → Alike line.attempt n lines →
    runs_of (line ∷ lines) ≡ (line ∷ take n lines) ∷ runs_of (drop n lines)
alike_runs line zero [] are = refl
alike_runs line zero (other ∷ more) are = apart line other (runs_of more) (λ same. are (sym same))
alike_runs line (suc n) [] are = absurd are
alike_runs line (suc n) (other ∷ more) are =
    ap (λ v. with_line line v) (alike_runs other n more (subst (λ a. Alike a n more) (sym are.0) are.1))
    ∙ together line other (take n more) (runs_of (drop n more)) (sym are.0)

-- lines of one attempt, counted one by one
abbrev pub Counted : ℕ → ℕ → (rest lines : List TextLine) → Type 0
Counted attempt count rest lines = (n : ℕ) → Alike attempt n rest → Alike attempt (count + n) lines

pub alike_stop : (attempt count : ℕ) (rest lines after : List TextLine) (line : TextLine) → rest ≡ line ∷ after → line.attempt ≢ attempt →
    Counted attempt count rest lines → Alike attempt count lines
alike_stop attempt count rest lines after line is differs far =
    subst (λ k. Alike attempt k lines) (add-zero count) (far 0 (subst (λ v. Alike attempt 0 v) (sym is) differs))

pub alike_more : (attempt count : ℕ) (rest lines after : List TextLine) (line : TextLine) → rest ≡ line ∷ after → line.attempt ≡ attempt →
    Counted attempt count rest lines → Counted attempt (count + 1) after lines
alike_more attempt count rest lines after line is same far = λ n are.
    let sum : count + suc n ≡ count + 1 + n = omega arith in
    subst (λ k. Alike attempt k lines) sum (far (suc n) (subst (λ v. Alike attempt (suc n) v) (sym is) (same, are)))

pub alike_all : (attempt count : ℕ) (rest lines : List TextLine) → rest ≡ [] → Counted attempt count rest lines → Alike attempt count lines
alike_all attempt count rest lines none far =
    subst (λ k. Alike attempt k lines) (add-zero count) (far 0 (subst (λ v. Alike attempt 0 v) (sym none) tt))

step : (lines own : List TextLine) (runs : List (List TextLine)) (first end : ℕ) (b : Bool) → runs_of (drop first lines) ≡ own ∷ runs →
    list_any (is_wanted Scramble) own ≡ b → first + length own ≡ end → runs ≡ runs_of (drop end lines) →
    attempts_from first lines ≡ cond b (record { first = first; end = end } ∷ attempts_from end lines) (attempts_from end lines)
step lines own runs first end b are has long rest =
    ap (λ v. with_scramble first v) are
    ∙ ap (λ (t : Bool). cond {A = List Run} t (record { first = first; end = first + length own } ∷ with_scramble (first + length own) runs) (with_scramble (first + length own) runs)) has
    ∙ ap (λ (k : ℕ). cond {A = List Run} b (record { first = first; end = k } ∷ with_scramble k runs) (with_scramble k runs)) long
    ∙ ap (λ (v : List (List TextLine)). cond {A = List Run} b (record { first = first; end = end } ∷ with_scramble end v) (with_scramble end v)) rest

-- the first attempt from a line on, and the others
run_next : (lines others : List TextLine) (line : TextLine) (first n : ℕ) (b : Bool) → drop first lines ≡ line ∷ others → Alike line.attempt n others →
    n ≤ length others → list_any (is_wanted Scramble) (slice_range lines first (first + 1 + n)) ≡ b →
    attempts_from first lines ≡ cond b (record { first = first; end = first + 1 + n } ∷ attempts_from (first + 1 + n) lines) (attempts_from (first + 1 + n) lines)
run_next lines others line first n b is are few has =
    let size : first + 1 + n - first ≡ suc n = omega arith in
    let sum : first + 1 + n ≡ first + suc n = omega arith in
    let own : slice_range lines first (first + 1 + n) ≡ line ∷ take n others = ap (λ k. take k (drop first lines)) size ∙ ap (λ v. take (suc n) v) is in
    let rest : drop (first + 1 + n) lines ≡ drop n others = ap (λ k. drop k lines) sum ∙ sym (drop-drop (suc n) first lines) ∙ ap (λ v. drop (suc n) v) is in
    let long : length (take n others) ≡ n = length-take-le n others few in
    step lines (line ∷ take n others) (runs_of (drop n others)) first (first + 1 + n) b (ap runs_of is ∙ alike_runs line n others are)
    (ap (λ v. list_any (is_wanted Scramble) v) (sym own) ∙ has) (omega (arith, long)) (ap runs_of (sym rest))

-- the lines from one on are all after it
pub lines_from : (lines : List TextLine) (first : ℕ) → take (length lines - first) (drop first lines) ≡ drop first lines
lines_from lines first = let long = length-drop first lines in take_all (length lines - first) (drop first lines) (omega (arith, long))

-- the same of the lines from one on, and where it ends
pub run_from : (lines others : List TextLine) (line : TextLine) (first n : ℕ) (b : Bool) → take (length lines - first) (drop first lines) ≡ line ∷ others →
    Alike line.attempt n others → n ≤ length others → list_any (is_wanted Scramble) (slice_range lines first (first + 1 + n)) ≡ b →
    (first + 1 + n ≤ length lines)
    × (attempts_from first lines ≡ cond b (record { first = first; end = first + 1 + n } ∷ attempts_from (first + 1 + n) lines) (attempts_from (first + 1 + n) lines))
run_from lines others line first n b here are few has =
    let all : drop first lines ≡ line ∷ others = sym (lines_from lines first) ∙ here in
    let long : length lines - first ≡ suc (length others) = sym (length-drop first lines) ∙ ap length all in
    (omega (arith, few, long), run_next lines others line first n b all are few has)

-- one more check, in memory
pub one_check : {X : Type 0} (P : X → AttemptCheck → Type 0) (all front xs : List X) (x : X) (checks checks' : List AttemptCheck) (count : ℕ) (it : AttemptCheck) →
    front ≡ x ∷ xs → count < length checks → checks' ≡ set checks count it → P x it →
    ((more : List AttemptCheck) → Are P front more → Are P all (take count checks ++ more)) →
    (more : List AttemptCheck) → Are P xs more → Are P all (take (count + 1) checks' ++ more)
unfolding Are
one_check P all front xs x checks checks' count it begins room same is far more are =
    subst (λ (v : List AttemptCheck). Are P all v)
    (sym (ap (λ v. take (count + 1) v ++ more) same ∙ ap (λ v. v ++ more) (take_more_set checks count it room) ∙ append_assoc (take count checks) (it ∷ []) more))
    (far (it ∷ more) (subst (λ v. Are P v (it ∷ more)) (sym begins) (is, are)))

pub no_check : {X : Type 0} (P : X → AttemptCheck → Type 0) (all xs : List X) (checks : List AttemptCheck) → xs ≡ [] →
    ((more : List AttemptCheck) → Are P xs more → Are P all (checks ++ more)) → Are P all checks
unfolding Are
no_check P all xs checks none far =
    subst (λ (v : List AttemptCheck). Are P all v) (append-nil checks) (far [] (subst (λ v. Are P v []) (sym none) tt))

-- what follows is the same after one more
pub after_check : (checks checks' first : List AttemptCheck) (count : ℕ) (it : AttemptCheck) → checks' ≡ set checks count it → drop count checks ≡ drop count first →
    drop (count + 1) checks' ≡ drop (count + 1) first
after_check checks checks' first count it same far =
    ap (λ v. drop (count + 1) v) same ∙ drop-set-lt (count + 1) checks count it (omega arith) ∙ sym (drop-drop 1 count checks) ∙ ap (λ v. drop 1 v) far
    ∙ drop-drop 1 count first
