-- From what a run did to its devices to what a call answers.
use Rattle.std.proofs.Common.{◌≤◌, ◌≡◌, ◌≢◌, ℕ, ◌<◌, Bool, true, false, Result, Ok, Err, List, [], ◌∷◌, ◌++◌, length, refl, sym, ap, ◌∙◌, subst, append_assoc, append-nil, length-append, arith}
use Rattle.niss_shell.specs.Device.{SourceCall, TargetCall, Read, ReadShows, Ending, More, End, Fail, Calls, Reads, left_after}
use Rattle.niss_shell.specs.Words.{Request, OnLines, request_of, reads_source, takes_memory}
use Rattle.niss_shell.specs.Output.{Answer, out_of, answer_request, unsearched, error_text, most_error_text, status_of}
use Rattle.niss_shell.specs.Run.{due_without, outcome_before, flushed_outcome, Runs}
use Rattle.niss_shell.specs.Laws.{Begins, MoreInputKeepsAnswers}
use Rattle.niss_shell.specs.declared.device.DeviceFault.{DeviceFault}
use Rattle.niss_embed.specs.Names.{Answer as Given, UsageFault, Stop, OutOfMemory}
use Rattle.niss_embed.specs.Memory.{Memory, memory, shown_input, Lent}
use Rattle.niss_embed.specs.Run.{text_words, TakesWords, due, Answers, RunsBytes, RunsWords}
use Rattle.niss_embed.proofs.WordLemmas.{no_words, all_words}
use Rattle.niss_embed.proofs.TargetLemmas.{has_room, Filling, state_before, state_after, PutBy, Took, Does, took, took_flushed, puts_took, puts_front}

-- what a source in memory gives: the bytes at its beginning, and all of them if its end was found

pub record GaveAs (input : List ℕ) (ended : Ending) (left left_now : List ℕ) : Type 0 where
  pub given : left ≡ input ++ left_now
  pub at_end : ended ≡ End → length left_now ≡ 0
  pub works : ended ≢ Fail

module _ {D : Type 0} (left : D → List ℕ) (has_ended : D → Bool) where
  abbrev pub Gives : D → SourceCall → D → Type 0
  Gives old call new = ReadShows call (shown_input (left old) (has_ended old)) (shown_input (left new) (has_ended new))

  pub gave : (reads : List SourceCall) (input : List ℕ) (ended : Ending) (a c : D) → Calls Gives a c reads → Reads reads input ended
      → GaveAs input ended (left a) (left c)
  unfolding Calls Reads
  gave [] input ended a c made reads =
      subst (λ d. GaveAs input ended (left a) (left d)) made (subst (λ m. GaveAs input m (left a) (left a)) (sym reads.1)
      (subst (λ v. GaveAs v More (left a) (left a)) (sym reads.0) (record { given = refl; at_end = λ e. absurd (cc e); works = λ e. cc e })))
  gave (Read asked (Err fault) ∷ calls) input ended a c made reads = absurd (cc made.1.0.failed)
  gave (Read asked (Ok []) ∷ calls) input ended a c made reads =
      let done : made.0 ≡ c = subst (λ cs. Calls Gives made.0 c cs) reads.1 made.1.1 in
      subst (λ d. GaveAs input ended (left a) (left d)) done (subst (λ m. GaveAs input m (left a) (left made.0)) (sym reads.3)
      (subst (λ v. GaveAs v End (left a) (left made.0)) (sym reads.2) (record {
        given = made.1.0.bytes.0;
        at_end = λ e. ap (length {A = ℕ}) (made.1.0.bytes.1 refl reads.0);
        works = λ e. cc e;
      })))
  gave (Read asked (Ok (b ∷ bytes)) ∷ calls) input ended a c made reads =
      let more = gave calls reads.0 ended made.0 c made.1.1 reads.2 in
      record {
        given = made.1.0.bytes.0 ∙ ap (λ v. (b ∷ bytes) ++ v) more.given ∙ sym (append_assoc (b ∷ bytes) reads.0 (left c)) ∙ ap (λ v. v ++ left c) (sym reads.1);
        at_end = more.at_end;
        works = more.works;
      }

-- what is answered of the input that was read, and of the whole

begins_itself : (a : Answer) → Begins a a
begins_itself a = record { rest = []; beginning = append-nil a.output; stopped = λ stop s. (refl, s) }

all_read : (input given left : List ℕ) → input ≡ given ++ left → length left ≡ 0 → input ≡ given
all_read input given [] e none = e ∙ append-nil given
all_read input given (b ∷ left) e none = absurd (omega (arith, none))

begins : MoreInputKeepsAnswers → (asked : Result Request UsageFault) (input given left : List ℕ) (ended : Ending) → GaveAs given ended input left
    → Begins (answer_request asked given ended) (answer_request asked input End)
begins law asked input given left End g =
    subst (λ v. Begins (answer_request asked given End) (answer_request asked v End)) (sym (all_read input given left g.given (g.at_end refl)))
    (begins_itself (answer_request asked given End))
begins law asked input given left More g =
    subst (λ v. Begins (answer_request asked given More) (answer_request asked v End)) (sym g.given) (law asked given left)
begins law asked input given left Fail g = absurd (g.works refl)

-- if nothing is read the input does not matter
unread_same : (asked : Result Request UsageFault) (input given : List ℕ) (m n : Ending) → reads_source asked ≡ false
    → answer_request asked input m ≡ answer_request asked given n
unread_same (Ok (OnLines command [])) input given m n e = absurd (cc e)
unread_same _ input given m n e = refl

-- the same is answered at the end
same_at_end : (asked : Result Request UsageFault) (input given left : List ℕ) (ended : Ending) → GaveAs given ended input left
    → (reads_source asked ≡ true → ended ≡ End) → answer_request asked input End ≡ answer_request asked given ended
same_at_end asked input given left ended g whole = by_reading (reads_source asked) refl
  where
    by_reading : (c : Bool) → reads_source asked ≡ c → answer_request asked input End ≡ answer_request asked given ended
    by_reading true r =
        ap (λ v. answer_request asked v End) (all_read input given left g.given (g.at_end (whole r)))
        ∙ ap (λ m. answer_request asked given m) (sym (whole r))
    by_reading false r = unread_same asked input given End ended r

-- the whole is answered as what was read, if no write was refused
same_answer : (asked : Result Request UsageFault) (input given left : List ℕ) (ended : Ending) → GaveAs given ended input left
    → Begins (answer_request asked given ended) (answer_request asked input End)
    → ((answer_request asked given ended).outcome ≡ Ok tt → reads_source asked ≡ true → ended ≡ End)
    → ((answer_request asked input End).output ≡ (answer_request asked given ended).output)
    × ((answer_request asked input End).outcome ≡ (answer_request asked given ended).outcome)
same_answer asked input given left ended g more whole = by_outcome (answer_request asked given ended).outcome refl
  where
    part : Answer
    part = answer_request asked given ended

    by_outcome : (o : Result (Unit {0}) Stop) → part.outcome ≡ o
        → ((answer_request asked input End).output ≡ part.output) × ((answer_request asked input End).outcome ≡ part.outcome)
    by_outcome (Ok u) e =
        let same = same_at_end asked input given left ended g (whole e) in
        (ap (λ a. a.output) same, ap (λ a. a.outcome) same)
    by_outcome (Err stop) e = let stays = more.stopped stop e in (stays.0, stays.1 ∙ sym e)

-- memory is asked for only if there are words
asks_words : (words : List (List ℕ)) → takes_memory (request_of words) ≡ true → 0 < length words
asks_words [] e = absurd (cc e)
asks_words (word ∷ words) e = omega arith

-- A call: its two targets and its status.
pub record Call : Type 0 where
  pub out : Filling
  pub err : Filling
  pub status : ℕ

abbrev pub answer_of : Call → Given
answer_of c = record {
  status = c.status;
  out_too_small = c.out.refused;
  err_too_small = c.err.refused;
  out_length = c.out.count;
  err_length = c.err.count;
}

good_flush : (o : Result (Unit {0}) Stop) (flushed : Result (Unit {0}) DeviceFault) → flushed ≡ Ok tt → flushed_outcome o flushed ≡ o
good_flush (Ok u) (Ok v) e = refl
good_flush (Ok u) (Err fault) e = absurd (cc e)
good_flush (Err stop) flushed e = refl

module _ (law : MoreInputKeepsAnswers) (c : Call) (words : List (List ℕ)) (input : List ℕ) where
  abbrev Known : Type 0
  Known = RunsWords words input (memory c.out.before c.out.after) (memory c.err.before c.err.after) (answer_of c)

  -- what was put, by what was taken of the output that was due
  put_out : (given left : List ℕ) (ended : Ending) (no_memory refused : Bool) → GaveAs given ended input left
      → Took (due_without no_memory (out_of words given ended)).output (left_after refused []) (state_before c.out) (state_after c.out)
      → (outcome_before refused (due_without no_memory (out_of words given ended)).outcome ≡ Ok tt → reads_source (request_of words) ≡ true → ended ≡ End)
      → PutBy c.out (due no_memory words input).output
      × (outcome_before refused (due_without no_memory (out_of words given ended)).outcome ≡ outcome_before c.out.refused (due no_memory words input).outcome)
  put_out given left ended true refused g t whole =
      let p = puts_took c.out refused [] t in
      (p.1, ap (λ r. outcome_before r (Err OutOfMemory)) (sym p.0))
  put_out given left ended false true g t whole =
      let more = begins law (request_of words) input given left ended g in
      let p = puts_took c.out true _ t in
      let all : t.part ++ (t.rest ++ more.rest) ≡ (due false words input).output =
      sym (append_assoc t.part t.rest more.rest) ∙ ap (λ v. v ++ more.rest) t.whole ∙ more.beginning in (
        puts_front c.out t.part t.appended (t.rest ++ more.rest) _ p.0 all (omega (arith, t.ends.0, length-append t.rest more.rest)),
        ap (λ r. outcome_before r (due false words input).outcome) (sym p.0),
      )
  put_out given left ended false false g t whole =
      let same = same_answer (request_of words) input given left ended g (begins law (request_of words) input given left ended g) whole in
      let p = puts_took c.out false _ t in
      (subst (λ v. PutBy c.out v) (sym same.0) p.1, sym same.1 ∙ ap (λ r. outcome_before r (due false words input).outcome) (sym p.0))

  -- what the devices began with is known by equations
  pub runs_call : {R W E : Type 0} (left : R → List ℕ) (ended : R → Bool) (out : W → Lent) (err : E → Lent) (r s : R) (w v : W) (e f : E) (looks looks_now : ℕ)
      → left r ≡ input → out w ≡ state_before c.out → out v ≡ state_after c.out → err e ≡ state_before c.err → err f ≡ state_after c.err
      → Runs words (Calls (Gives left ended) r s) (Calls (Does out) w v) (Calls (Does err) e f) looks looks_now c.status → Known
  runs_call left ended out err r s w v e f looks looks_now start out_old out_new err_old err_new x =
      let g : GaveAs x.read.input x.read.ended input (left s) =
      subst (λ i. GaveAs x.read.input x.read.ended i (left s)) start (gave left ended x.read.reads x.read.input x.read.ended r s x.read.made x.read.gave) in
      let flushed = took_flushed out x.writes x.flushed x.due.output (left_after x.refused []) w v x.made x.sends in
      let part = due_without x.no_memory (out_of words x.read.input x.read.ended) in
      let t : Took part.output (left_after x.refused []) (state_before c.out) (state_after c.out) =
      subst (λ d. Took d.output (left_after x.refused []) (state_before c.out) (state_after c.out)) x.due_is
      (subst (λ l. Took x.due.output (left_after x.refused []) l (state_after c.out)) out_old
      (subst (λ l. Took x.due.output (left_after x.refused []) (out w) l) out_new flushed.1)) in
      let outcome_is : x.outcome ≡ outcome_before x.refused part.outcome =
      x.outcome_is ∙ good_flush _ x.flushed flushed.0 ∙ ap (λ d. outcome_before x.refused d.outcome) x.due_is in
      let p = put_out x.read.input (left s) x.read.ended x.no_memory x.refused g t
      (subst (λ d. outcome_before x.refused d.outcome ≡ Ok tt → reads_source (request_of words) ≡ true → x.read.ended ≡ End) x.due_is x.read_whole) in
      let reports : Took (error_text x.outcome) (left_after x.error_refused []) (state_before c.err) (state_after c.err) =
      subst (λ l. Took (error_text x.outcome) (left_after x.error_refused []) l (state_after c.err)) err_old
      (subst (λ l. Took (error_text x.outcome) (left_after x.error_refused []) (err e) l) err_new
      (took err x.reports (error_text x.outcome) (left_after x.error_refused []) e f x.made_reports x.sends_reports)) in
      let error = subst (λ o. PutBy c.err (error_text o)) (outcome_is ∙ p.1) (puts_took c.err x.error_refused (error_text x.outcome) reports).1 in
      record {
        refused = x.no_memory;
        asked = λ h. asks_words words (x.asks_memory h).0;
        answers = record {
          output = p.0;
          error = error;
          room = has_room error (subst (λ o. length (error_text o) ≤ most_error_text) (outcome_is ∙ p.1) x.short);
          status = x.status_is ∙ ap status_of (outcome_is ∙ p.1);
        };
      }

-- The targets still borrow the memory that they were lent.

pub out_kept : {W : Type 0} (out : W → Lent) {words : List (List ℕ)} {source : List SourceCall → Type 0} {error : List TargetCall → Type 0} (w v : W) {looks looks_now status : ℕ}
    → Runs words source (Calls (Does out) w v) error looks looks_now status → (out v).reference ≡ (out w).reference
out_kept out w v x = (took_flushed out x.writes x.flushed x.due.output (left_after x.refused []) w v x.made x.sends).1.appended.same_reference

pub err_kept : {E : Type 0} (err : E → Lent) {words : List (List ℕ)} {source : List SourceCall → Type 0} {output : List TargetCall → Type 0} (e f : E) {looks looks_now status : ℕ}
    → Runs words source output (Calls (Does err) e f) looks looks_now status → (err f).reference ≡ (err e).reference
err_kept err e f x = (took err x.reports (error_text x.outcome) (left_after x.error_refused []) e f x.made_reports x.sends_reports).appended.same_reference

-- from the words that were taken to the bytes that they were taken of

some_bytes : (bytes : List ℕ) {taken : List (List ℕ)} → TakesWords bytes taken → 0 < length taken → 0 < length bytes
some_bytes [] {taken = taken} t h =
    let none : taken ≡ [] = t.taken_is ∙ ap text_words (no_words t.are_words) in
    absurd (omega (arith, h, ap (length {A = List ℕ}) none))
some_bytes (b ∷ bytes) t h = omega arith

pub runs_bytes : {bytes input : List ℕ} {taken : List (List ℕ)} {out err : Memory} {answer : Given}
    → TakesWords bytes taken → RunsWords taken input out err answer → RunsBytes bytes input out err answer
runs_bytes {bytes = bytes} {input = input} {out = out} {err = err} {answer = answer} t x = record {
  words = t.words;
  are_words = t.are_words;
  refused = x.refused;
  asked = λ h. some_bytes bytes t (x.asked h);
  answers = subst (λ v. Answers (due x.refused v input) out err answer) t.taken_is x.answers;
}

pub refuses_bytes : {bytes input : List ℕ} {out err : Memory} {answer : Given}
    → 0 < length bytes → Answers (unsearched [] (Err OutOfMemory)) out err answer → RunsBytes bytes input out err answer
refuses_bytes {bytes = bytes} some x =
    let words = all_words bytes in
    record { words = words.0; are_words = words.1; refused = true; asked = λ h. some; answers = x }
