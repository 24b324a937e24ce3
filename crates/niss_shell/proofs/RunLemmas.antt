-- From what was read and written to what a run says of it.
use Rattle.niss_shell.proofs.Names.{◌≡◌, ◌≢◌, ℕ, ◌+◌, ◌≤◌, ◌<◌, Bool, true, false, if◌then◌else◌, Option, Some, None, Result, Ok, Err}
use Rattle.niss_shell.proofs.Names.{List, [], ◌∷◌, ◌++◌, length, refl, sym, ap, ◌∙◌, subst, arith, nat_lt, nat_le, common_steps}
use Rattle.niss_shell.proofs.Names.{SourceState, SourceCall, TargetCall, Flush, Calls, Sends, Writes, More, End, Ending, left_after}
use Rattle.niss_shell.proofs.Names.{WritesAfter, ReadsOn, LastRead, out_of}
use Rattle.niss_shell.proofs.Names.{most_bytes, Request, OnLines, request_of, reads_source, has_step, joined, Answer}
use Rattle.niss_shell.proofs.Names.{answer_to, answer_from, searched, complete_lines, LineAnswers, line_answer}
use Rattle.niss_shell.proofs.Names.{answers_from, joined_answer, answer_lines, answer_request, unsearched}
use Rattle.niss_shell.proofs.Names.{outcome_of_input, error_text, status_of, limit_of, slack_of, start_cube, Moves, read_line, AnswerState, MayBegin}
use Rattle.niss_shell.proofs.Names.{AnswersSource, Answers, RunsUnflushed, EndsAtOnce, FlushesLast, IsInput, Looked, Runs, due_without}
use Rattle.niss_shell.proofs.Names.{flushed_outcome, UsageFault, LineCommand, Rewrite, Search, LineFault, ReadFault, Step, Stop, Usage}
use Rattle.niss_shell.proofs.Names.{most_error_text, InputTooLong, OutOfMemory, LooksWithinBound}
use Rattle.niss_shell.proofs.StateLemmas.{calls_more, one_call, nothing_read, while_none, writes_none, delivers_nothing, answered, choose_false}
use Rattle.niss_shell.proofs.StateLemmas.{choose_true, sends_front, sends_more}
use Rattle.niss_shell.proofs.AnswerLemmas.{short_test, long_test}
use Rattle.niss_shell.proofs.LinesLemmas.{by_test}

-- the error writer

pub reported : {E : Type 0} (call : E → TargetCall → E → Type 0) (refused : Bool) (text : List ℕ) {piece : List ℕ} (a b : E)
    → piece ≡ text → Writes call refused piece [] a b → (r : Bool) × Writes call r text [] a b
reported call refused text a b e w = (refused, subst (λ t. Writes call refused t [] a b) e w)

pub nothing_reported : {E : Type 0} (call : E → TargetCall → E → Type 0) (a : E) → (r : Bool) × Writes call r [] [] a a
nothing_reported call a = (false, writes_none call [] a)

-- what holds of the answer to each line, to none, and of two that are joined, holds of that to an input

module _ (P : Answer → Type 0) (joins : (a b : Answer) (o : Result (Unit {0}) Stop) → P a → P b → P (joined_answer o a b))
    (f : LineAnswers) (one : (n : ℕ) (line : List ℕ) → P (f n line)) (none : P (unsearched [] (Ok tt))) where
  lines_have : (n : ℕ) (lines : List (List ℕ)) → P (answers_from f n lines)
  unfolding answers_from
  lines_have n [] = none
  lines_have n (line ∷ lines) = joins (f n line) (answers_from f (n + 1) lines) _ (one n line) (lines_have (n + 1) lines)

  input_has : (input : List ℕ) (m : Ending) → P (unsearched [] (outcome_of_input input m)) → P (answer_lines f input m)
  input_has input m end =
      joins (answers_from f 1 (complete_lines input m)) (unsearched [] (outcome_of_input input m)) _ (lines_have 1 (complete_lines input m)) end

-- what ends a run before anything is read or written

fits_test : {n : ℕ} → n ≤ most_bytes → nat_le n most_bytes ≡ true
fits_test h = grind (arith, common_steps)

pub runs_too_long : (command : LineCommand Step) (ws : List (List ℕ)) → 0 < length ws → most_bytes < length (joined ws)
    → EndsAtOnce (Ok (OnLines command ws)) InputTooLong
runs_too_long command [] n long = absurd (omega arith)
runs_too_long command (v ∷ ws) n long = choose_true _ _ _ (long_test long)

pub runs_memory : (command : LineCommand Step) (ws : List (List ℕ)) → 0 < length ws → length (joined ws) ≤ most_bytes
    → EndsAtOnce (Ok (OnLines command ws)) OutOfMemory
runs_memory command [] n fits = absurd (omega arith)
runs_memory command (v ∷ ws) n fits = fits_test fits

pub tables_memory : {T : Type 0} (bytes : T → List ℕ) (text : Option T) (command : LineCommand Step) (ws : List (List ℕ))
    → IsInput bytes text ws → has_step command ≡ true → EndsAtOnce (Ok (OnLines command ws)) OutOfMemory
tables_memory bytes None command [] none asks = asks
tables_memory bytes None command (v ∷ ws) none asks = absurd (omega arith)
tables_memory bytes (Some text) command ws (some, whole, fits) asks = runs_memory command ws some fits

module _ {R W : Type 0} (read : R → SourceCall → R → Type 0) (call : W → TargetCall → W → Type 0) where
  -- nothing is read
  unread_run : (asked : Result Request UsageFault) (outcome : Result (Unit {0}) Stop) (a : R) (h i : AnswerState W)
      → (outcome ≡ Ok tt → reads_source asked ≢ true) → i.pending ≡ []
      → Answers call (answer_request asked [] More) outcome h i → RunsUnflushed call asked outcome (Calls read a a) h i
  unread_run asked outcome a h i unread empty answers = record {
    read = nothing_read read a;
    unread = λ r. refl;
    stops = while_none _;
    no_memory = false;
    asks_memory = λ e. absurd (cc e);
    answers = answers;
    reads_on = λ some. absurd (some refl);
    read_whole = λ d r. absurd (unread d r);
    empty = empty;
  }

  pub ends_at_once : (asked : Result Request UsageFault) (stop : Stop) {source : SourceState} (a : R) (h : AnswerState W)
      → MayBegin source h → EndsAtOnce asked stop → RunsUnflushed call asked (Err stop) (Calls read a a) h h
  ends_at_once asked OutOfMemory a h begins asks = record {
    read = nothing_read read a;
    unread = λ r. refl;
    stops = while_none _;
    no_memory = true;
    asks_memory = λ e. (asks, refl);
    answers = answered call false (unsearched [] (Err OutOfMemory)) (Err OutOfMemory) h h refl (delivers_nothing call h);
    reads_on = λ some. absurd (some refl);
    read_whole = λ d r. absurd (cc d);
    empty = begins.empty;
  }
  ends_at_once asked stop a h begins e =
      unread_run asked (Err stop) a h h (λ d. cc d) begins.empty
      (subst (λ due. Answers call due (Err stop) h h) (sym e)
      (answered call false (unsearched [] (Err stop)) (Err stop) h h refl (delivers_nothing call h)))

  pub runs_usage : {asked : Result Request UsageFault} {fault : UsageFault} {source : SourceState} (a : R) (h : AnswerState W)
      → asked ≡ Err fault → MayBegin source h → RunsUnflushed call asked (Err Usage) (Calls read a a) h h
  runs_usage {fault = fault} a h e begins = rw e (ends_at_once (Err fault) Usage a h begins refl)

  -- The input comes from the source. What the run is of, by its command and its states, may be known by equations.
  pub runs_source : {command given : LineCommand Step} {ws : List (List ℕ)} {outcome : Result (Unit {0}) Stop} {source : List SourceCall → Type 0} {h k i j : AnswerState W}
      → given ≡ command → k ≡ h → j ≡ i → length ws ≡ 0 → AnswersSource call (line_answer given) outcome source k j → j.pending ≡ []
      → RunsUnflushed call (Ok (OnLines command ws)) outcome source h i
  runs_source {ws = []} e f g none x empty = rw (← e, ← f, ← g) (record {
    read = x.read;
    unread = λ r. absurd (cc r);
    stops = x.stops;
    no_memory = false;
    asks_memory = λ e. absurd (cc e);
    answers = x.answers.answers;
    reads_on = λ some. (x.last, x.answers.writes);
    read_whole = λ d r. x.read_whole d;
    empty = empty;
  })
  runs_source {ws = w ∷ ws} e f g none x empty = absurd (omega arith)

  -- the input comes from the words
  pub runs_text : {command given : LineCommand Step} {ws : List (List ℕ)} {text : List ℕ} {outcome : Result (Unit {0}) Stop} (a : R) {h k i j : AnswerState W}
      → given ≡ command → k ≡ h → j ≡ i → 0 < length ws → text ≡ joined ws → length (joined ws) ≤ most_bytes
      → Answers call (answer_lines (line_answer given) text End) outcome k j → j.pending ≡ [] → RunsUnflushed call (Ok (OnLines command ws)) outcome (Calls read a a) h i
  runs_text {ws = []} a e f g some whole fits x empty = absurd (omega arith)
  runs_text {given = given} {ws = v ∷ ws} {text = text} {outcome = outcome} a {k = k} {j = j} e f g some whole fits x empty =
      rw (← e, ← f, ← g) (unread_run (Ok (OnLines given (v ∷ ws))) outcome a k j (λ d r. cc r) empty
      (subst (λ y. Answers call y outcome k j)
      (ap (λ t. answer_lines (line_answer given) t End) whole ∙ sym (choose_false _ _ _ (short_test fits))) x))

  -- other requests: nothing is read, and the text doesn't depend on what was
  pub runs_unread : {asked : Result Request UsageFault} (request : Request) {text : List ℕ} (outcome : Result (Unit {0}) Stop) (a : R) (h i : AnswerState W)
      → asked ≡ Ok request → reads_source (Ok request) ≢ true → answer_request (Ok request) [] More ≡ unsearched text (Ok tt)
      → Answers call (unsearched text (Ok tt)) outcome h i → i.pending ≡ [] → RunsUnflushed call asked outcome (Calls read a a) h i
  runs_unread request outcome a h i e unread text_is w empty =
      rw e (unread_run (Ok request) outcome a h i (λ d. unread) empty (subst (λ x. Answers call x outcome h i) (sym text_is) w))

-- what is due takes no more looks than it may

abbrev IsWithin : Answer → Type 0
IsWithin due = due.looks ≤ due.most_looks

joined_within : (a b : Answer) (o : Result (Unit {0}) Stop) → IsWithin a → IsWithin b → IsWithin (joined_answer o a b)
joined_within a b (Ok u) p q = omega (arith, p, q)
joined_within a b (Err stop) p q = p

found_within : {X : Type 0} (answer : X → Answer) (n : ℕ) (r : Result X LineFault) → ((x : X) → IsWithin (answer x)) → IsWithin (answer_from answer n r)
found_within answer n (Ok x) within = within x
found_within answer n (Err fault) within = omega arith

module _ (law : LooksWithinBound) where
  line_within : (command : LineCommand Step) (n : ℕ) (read : Result Moves ReadFault) → IsWithin (answer_to command n read)
  line_within (Rewrite rewriting) n (Ok line) = omega arith
  line_within (Search step query) n (Ok line) =
      found_within (searched step query) n (start_cube step (Ok line)) (λ e. law.0 _ _ _ _ (limit_of query) (slack_of query))
  line_within command n (Err fault) = omega arith

  input_within : (command : LineCommand Step) (input : List ℕ) (m : Ending) → IsWithin (answer_lines (line_answer command) input m)
  input_within command input m =
      input_has IsWithin joined_within (line_answer command) (λ n line. line_within command n (read_line line)) (omega arith) input m (omega arith)

  answer_within : (asked : Result Request UsageFault) (input : List ℕ) (m : Ending) → IsWithin (answer_request asked input m)
  answer_within (Ok (OnLines command [])) input m = input_within command input m
  answer_within (Ok (OnLines command (word ∷ words))) input m =
      let answered = answer_lines (line_answer command) (joined (word ∷ words)) End in
      by_test (λ long. IsWithin (if long then unsearched [] (Err InputTooLong) else answered))
      (nat_lt most_bytes (length (joined (word ∷ words)))) (omega arith) (input_within command (joined (word ∷ words)) End)
  answer_within _ input m = omega arith

memory_within : (no_memory : Bool) (due : Answer) → IsWithin due → IsWithin (due_without no_memory due)
memory_within true due h = omega arith
memory_within false due h = h

bounded_looks : (refused : Bool) (due : Answer) (looks looks_now : ℕ) → IsWithin due → Looked refused due.looks looks looks_now → looks_now ≤ looks + due.most_looks
bounded_looks true due looks looks_now within p = omega (arith, p.1, within)
bounded_looks false due looks looks_now within p = omega (arith, p, within)

-- The writes of what is due, which start with all that was due before the last read.
record SendsAll {W : Type 0} (call : W → TargetCall → W → Type 0) (due : List ℕ → List ℕ) (reads : List SourceCall)
    (refused : Bool) (text : List ℕ) (a b : W) : Type 0 where
  writes : Writes call refused text [] a b
  reads_on : reads ≢ [] → ReadsOn due reads writes.calls

sends_all : {W : Type 0} (call : W → TargetCall → W → Type 0) (due : List ℕ → List ℕ) (reads : List SourceCall)
    (refused : Bool) (text : List ℕ) (a b : W)
    → (reads ≢ [] → (last : LastRead reads) × WritesAfter call (due last.input) refused text a b)
    → Writes call refused text [] a b → SendsAll call due reads refused text a b
sends_all call due [] refused text a b p w = record { writes = w; reads_on = λ some. absurd (some refl) }
sends_all call due (r ∷ reads) refused text a b p w =
    let all = p (λ e. absurd (cc e)) in
    let before = due all.0.input in
    let first = all.1.first in
    let others = all.1.others in
    record {
      writes = record {
        calls = first.calls ++ others.calls;
        made = calls_more call first.calls others.calls a all.1.middle b first.made others.made;
        sends = subst (λ t. Sends (first.calls ++ others.calls) t (left_after refused [])) all.1.whole
            (sends_more first.calls others.calls (before ++ all.1.rest) all.1.rest (left_after refused [])
            (sends_front first.calls before all.1.rest (Some []) first.sends) others.sends);
      };
      reads_on = λ some. record {
        last = all.0;
        taken = record { first = first.calls; others = others.calls; whole = refl; sends = first.sends };
      };
    }

-- the last flush
pub runs_flushed : {W E : Type 0} (call : W → TargetCall → W → Type 0) (reports : E → TargetCall → E → Type 0) → LooksWithinBound
    → (words : List (List ℕ)) {source : List SourceCall → Type 0} (outcome outcome_now : Result (Unit {0}) Stop) (x y : AnswerState W) (j : W) (k l : E) {status : ℕ}
    → x.pending ≡ [] → RunsUnflushed call (request_of words) outcome source x y → FlushesLast call outcome outcome_now y.target j
    → (r : Bool) × Writes reports r (error_text outcome_now) [] k l → length (error_text outcome_now) ≤ most_error_text
    → status ≡ status_of outcome_now
    → Runs words source (Calls call x.target j) (Calls reports k l) x.looks y.looks status
runs_flushed call reports law words outcome outcome_now x y j k l none r flush error short status =
    let due = due_without r.no_memory (answer_request (request_of words) r.read.input r.read.ended) in
    let written = subst (λ p. Writes call r.answers.refused due.output p x.target y.target) r.empty
    (subst (λ p. Writes call r.answers.refused (p ++ due.output) y.pending x.target y.target) none r.answers.delivered.writes) in
    let all = sends_all call (λ input. (out_of words input More).output) r.read.reads r.answers.refused due.output x.target y.target
    r.reads_on written in
    let w = all.writes in
    record {
      read = r.read;
      unread = r.unread;
      stops = r.stops;
      no_memory = r.no_memory;
      asks_memory = r.asks_memory;
      due = due;
      due_is = refl;
      refused = r.answers.refused;
      writes = w.calls;
      flushed = flush.flushed;
      made = calls_more call w.calls (Flush flush.flushed ∷ []) x.target y.target j w.made (one_call call y.target j flush.made);
      sends = w.sends;
      reads_on = all.reads_on;
      outcome = outcome_now;
      outcome_is = flush.outcome_is ∙ ap (λ o. flushed_outcome o flush.flushed) r.answers.outcome_is;
      read_whole = λ e. r.read_whole (r.answers.outcome_is ∙ e);
      status_is = status;
      looked = r.answers.delivered.looked;
      within_bound = bounded_looks r.answers.refused due x.looks y.looks
          (memory_within r.no_memory _ (answer_within law (request_of words) r.read.input r.read.ended)) r.answers.delivered.looked;
      error_refused = error.0;
      reports = error.1.calls;
      made_reports = error.1.made;
      sends_reports = error.1.sends;
      short = short;
    }
