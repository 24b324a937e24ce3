-- From the steps of the engine to the answers to a whole input.
use Rattle.niss_shell.proofs.Names.{◌≡◌, ◌≢◌, ℕ, ◌+◌, ◌≤◌, ◌<◌, take, true, false, Result, Ok, Err, List, [], ◌∷◌, ◌++◌, length}
use Rattle.niss_shell.proofs.Names.{refl, sym, ap, ◌∙◌, subst, append-nil, length-append, arith, nat_lt, common_steps, take_all}
use Rattle.niss_shell.proofs.Names.{take-append-add, SourceCall, TargetCall, Read, Calls, Reads, WasRead, ended_lines, last_part, IsFirst}
use Rattle.niss_shell.proofs.Names.{most_bytes, Ending, More, End, Fail, LineAnswers, answers_from, answer_lines, line_with_bytes}
use Rattle.niss_shell.proofs.Names.{last_line, complete_lines, outcome_of_input, unsearched, AnswerState, Progress, TakesBytes, TakesEnd}
use Rattle.niss_shell.proofs.Names.{TakesNext, TakesLast, IsAt, Answers, AnswersSource, DeviceFault, Stop, InputTooLong, CannotRead}
use Rattle.niss_shell.proofs.Names.{Bool, outcome_before, ReadsWhile, IsFaultless, AnswersAfter, LastRead, Answer, then_answer}
use Rattle.niss_shell.proofs.StateLemmas.{calls_more, one_call, reads_more, reads_some, reads_end, reads_fault, nothing_read, while_none, while_more}
use Rattle.niss_shell.proofs.StateLemmas.{delivers_nothing, answered, answers_more, answers_after, answers_stopped, choose_false, choose_true}
use Rattle.niss_shell.proofs.StateLemmas.{then_nothing, then_then}
use Rattle.niss_shell.proofs.LinesLemmas.{answers_from-append}
use Rattle.niss_shell.proofs.EngineLemmas.{takes_none, takes_more, last_kept, lines_joined}

-- the tests of the length of the input

pub short_test : {n : ℕ} → n ≤ most_bytes → nat_lt most_bytes n ≡ false
short_test h = grind (arith, common_steps)

pub long_test : {n : ℕ} → most_bytes < n → nat_lt most_bytes n ≡ true
long_test h = grind (arith, common_steps)

whole_input : (input : List ℕ) → length input ≤ most_bytes → take most_bytes input ≡ input
whole_input input h = take_all most_bytes input h

-- the lines of a beginning that has no more bytes than are read
begun_lines : (input : List ℕ) {whole : List ℕ} → take most_bytes input ≡ whole → ended_lines [] (take most_bytes input) ++ [] ≡ ended_lines [] whole
begun_lines input e = append-nil (ended_lines [] (take most_bytes input)) ∙ ap (λ xs. ended_lines [] xs) e

all_lines : (input : List ℕ) → length input ≤ most_bytes → complete_lines input End ≡ ended_lines [] input ++ line_with_bytes (last_part [] input)
all_lines input h =
    ap (λ xs. ended_lines [] xs ++ last_line End input) (whole_input _ h)
    ∙ ap (λ ls. ended_lines [] input ++ ls) (choose_false _ [] (line_with_bytes (last_part [] input)) (short_test h))

pub length_taken : {n : ℕ} (block : List ℕ) → n ≤ length block → length (take n block) ≡ n
length_taken block h = grind (arith, common_steps)

taken_twice : {room n : ℕ} (block : List ℕ) → room ≤ n → take room (take n block) ≡ take room block
taken_twice block h = grind (arith, common_steps)

-- the stated part of a block that goes past the most bytes
cut_block : (input block : List ℕ) {count : ℕ} (n room : ℕ) → count ≡ length input → room + count ≡ most_bytes → room ≤ n → n ≤ length block
    → take most_bytes (input ++ take n block) ≡ input ++ take room block
cut_block input block n room e f g h =
    let k : most_bytes ≡ length input + room = omega (arith, e, f) in
    ap (λ v. take v (input ++ take n block)) k ∙ take-append-add input (take n block) room ∙ ap (λ v. input ++ v) (taken_twice _ g)

abbrev pub stop_unless : Result (Unit {0}) Stop → Stop → Stop
stop_unless (Ok u) otherwise = otherwise
stop_unless (Err stop) otherwise = stop

-- a source that gave some bytes, and is read once more

module _ {R : Type 0} (read : R → SourceCall → R → Type 0) (a b c : R) (x : WasRead (Calls read a b)) (goes_on : x.ended ≡ More)
    {asked : ℕ} {gave : Result (List ℕ) DeviceFault} (made : read b (Read asked gave) c) where
  abbrev pub read_more : (bytes : List ℕ) (ended : Ending) → Reads (Read asked gave ∷ []) bytes ended → WasRead (Calls read a c)
  read_more bytes ended once = record {
    reads = x.reads ++ Read asked gave ∷ [];
    made = calls_more read x.reads (Read asked gave ∷ []) a b c x.made (one_call read b c made);
    input = x.input ++ bytes;
    ended = ended;
    gave = reads_more x.reads (Read asked gave ∷ []) x.input bytes ended (subst (λ m. Reads x.reads x.input m) goes_on x.gave) once;
  }

  abbrev pub read_last : (ended : Ending) → Reads (Read asked gave ∷ []) [] ended → WasRead (Calls read a c)
  read_last ended once = record {
    reads = x.reads ++ Read asked gave ∷ [];
    made = calls_more read x.reads (Read asked gave ∷ []) a b c x.made (one_call read b c made);
    input = x.input;
    ended = ended;
    gave = subst (λ v. Reads (x.reads ++ Read asked gave ∷ []) v ended) (append-nil x.input)
        (reads_more x.reads (Read asked gave ∷ []) x.input [] ended (subst (λ m. Reads x.reads x.input m) goes_on x.gave) once);
  }

no_fault : (refused : Bool) (due : Result (Unit {0}) Stop) → Ok tt ≡ outcome_before refused due → due ≡ Ok tt
no_fault true due e = absurd (cc e)
no_fault false due e = sym e

module _ {W : Type 0} (call : W → TargetCall → W → Type 0) (f : LineAnswers) where
  -- what is due for an input, by its complete lines and by how it ends

  lines_due : (input : List ℕ) (m : Ending) {lines : List (List ℕ)} {o : Result (Unit {0}) Stop}
      → complete_lines input m ≡ lines → outcome_of_input input m ≡ o
      → answer_lines f input m ≡ then_answer (answers_from f 1 lines) (unsearched [] o)
  lines_due input m {lines = lines} e g =
      ap (λ ls. then_answer (answers_from f 1 ls) (unsearched [] (outcome_of_input input m))) e
      ∙ ap (λ o. then_answer (answers_from f 1 lines) (unsearched [] o)) g

  due_so_far : (input : List ℕ) → length input ≤ most_bytes → answer_lines f input More ≡ answers_from f 1 (ended_lines [] input)
  due_so_far input fits =
      lines_due input More (begun_lines input (whole_input _ fits)) (choose_false _ _ _ (short_test fits)) ∙ then_nothing _

  due_at_end : (input : List ℕ) (n : ℕ) → length input ≤ most_bytes → n ≡ 1 + length (ended_lines [] input)
      → answer_lines f input End
      ≡ then_answer (answers_from f 1 (ended_lines [] input)) (answers_from f n (line_with_bytes (last_part [] input)))
  due_at_end input n fits e =
      lines_due input End (all_lines input fits) (choose_false _ _ _ (short_test fits)) ∙ then_nothing _
      ∙ answers_from-append f 1 (ended_lines [] input) (line_with_bytes (last_part [] input))
      ∙ ap (λ k. then_answer (answers_from f 1 (ended_lines [] input)) (answers_from f k (line_with_bytes (last_part [] input)))) (sym e)

  -- after `input` comes a block, of which this part counts
  due_after_block : (input part whole : List ℕ) (n : ℕ) {o : Result (Unit {0}) Stop}
      → take most_bytes whole ≡ input ++ part → n ≡ 1 + length (ended_lines [] input) → outcome_of_input whole More ≡ o
      → answer_lines f whole More ≡ then_answer (answers_from f 1 (ended_lines [] input))
      (then_answer (answers_from f n (ended_lines (last_part [] input) part)) (unsearched [] o))
  due_after_block input part whole n {o = o} cut e g =
      let before = answers_from f 1 (ended_lines [] input) in
      let lines = ended_lines (last_part [] input) part in
      lines_due whole More (begun_lines whole cut) g
      ∙ ap (λ d. then_answer d (unsearched [] o)) (lines_joined f [] input part 1)
      ∙ then_then before (answers_from f (1 + length (ended_lines [] input)) lines) (unsearched [] o)
      ∙ ap (λ k. then_answer before (then_answer (answers_from f k lines) (unsearched [] o))) (sym e)

  faultless : (input : List ℕ) {q : Progress} (a b : AnswerState W)
      → length input ≤ most_bytes → TakesBytes call f [] input 1 q (Ok tt) a b → IsFaultless f input
  faultless input a b fits x = ap (λ d. d.outcome) (due_so_far input fits) ∙ no_fault x.0.refused _ x.0.outcome_is

  -- the end of an input of which all bytes were taken
  input_ends : (input : List ℕ) (q : Progress) (a b c : AnswerState W) (r : Result (Unit {0}) Stop)
      → length input ≤ most_bytes → TakesBytes call f [] input 1 q (Ok tt) a b → TakesEnd call f (last_part [] input) q.line r b c
      → Answers call (answer_lines f input End) r a c
  input_ends input q a b c r fits x last =
      subst (λ d. Answers call d r a c) (sym (due_at_end input q.line fits x.1.line)) (answers_more call _ _ r a b c x.0 last)

  -- the engine's loop over a source

  module _ {R : Type 0} (read : R → SourceCall → R → Type 0) where
    pub at_start : (p : Progress) (source : R) (out : AnswerState W)
        → IsFirst p → IsAt call f 0 p (Calls read source source) out out
    at_start p source out first = record {
      read = nothing_read read source;
      goes_on = refl;
      stops = while_none (IsFaultless f);
      takes = takes_none call f [] 1 p out first.reader first.line;
      count_is = refl;
    }

    module _ (a b c : R) {count : ℕ} {p : Progress} {h i : AnswerState W} (x : IsAt call f count p (Calls read a b) h i) where
      stops_after : (last : SourceCall) → count ≤ most_bytes → ReadsWhile (IsFaultless f) (x.read.reads ++ last ∷ [])
      stops_after last room =
          while_more (IsFaultless f) x.read.reads x.read.input last x.stops (subst (λ m. Reads x.read.reads x.read.input m) x.goes_on x.read.gave)
          (faultless x.read.input h i (omega (arith, x.count_is, room)) x.takes)

      abbrev last_read : (last : SourceCall) → LastRead (x.read.reads ++ last ∷ [])
      last_read last = record {
        earlier = x.read.reads;
        last = last;
        whole = refl;
        input = x.read.input;
        gave = subst (λ m. Reads x.read.reads x.read.input m) x.goes_on x.read.gave;
      }

      -- what was answered after all that was due for what was read before
      answered_after : {due rest : Answer} (r : Result (Unit {0}) Stop) (j : AnswerState W) → count ≤ most_bytes
          → h.pending ≡ [] → i.pending ≡ [] → j.pending ≡ [] → due ≡ then_answer (answers_from f 1 (ended_lines [] x.read.input)) rest
          → Answers call rest r i j → AnswersAfter call (answer_lines f x.read.input More).output due r h j
      answered_after {rest = rest} r j room none_first none none_now e more =
          let so_far = due_so_far x.read.input (omega (arith, x.count_is, room)) in
          subst (λ d. AnswersAfter call (answer_lines f x.read.input More).output d r h j) (sym e)
          (subst (λ d. AnswersAfter call d.output (then_answer (answers_from f 1 (ended_lines [] x.read.input)) rest) r h j) (sym so_far)
          (answers_after call _ rest r h i j none_first none none_now x.takes.0 more))

      pub at_failure : (asked : ℕ) (fault : DeviceFault) → count ≤ most_bytes → h.pending ≡ [] → i.pending ≡ []
          → read b (Read asked (Err fault)) c → AnswersSource call f (Err CannotRead) (Calls read a c) h i
      at_failure asked fault room none_first none made =
          let fits : length x.read.input ≤ most_bytes = omega (arith, x.count_is, room) in
          record {
            read = read_last read a b c x.read x.goes_on made Fail (reads_fault asked fault);
            stops = stops_after _ room;
            last = last_read _;
            answers = answered_after (Err CannotRead) i room none_first none none
                (lines_due x.read.input Fail (begun_lines x.read.input (whole_input _ fits)) (choose_false _ _ _ (short_test fits)))
                (answered call false (unsearched [] (Err CannotRead)) (Err CannotRead) i i refl (delivers_nothing call i));
            read_whole = λ e. absurd (cc e);
          }

      module _ (n : ℕ) (block : List ℕ) (bound : n ≤ length block) (made : read b (Read (length block) (Ok (take n block))) c) where
        given_length : length (x.read.input ++ take n block) ≡ count + n
        given_length = omega (arith, length-append x.read.input (take n block), length_taken block bound, x.count_is)

        abbrev given : n ≢ 0 → WasRead (Calls read a c)
        given some = read_more read a b c x.read x.goes_on made (take n block) More
            (reads_some (length block) (take n block) (omega (arith, length_taken block bound, some)))

        pub at_more : {q : Progress} (j : AnswerState W) → count ≤ most_bytes → n ≢ 0 → TakesNext call f (take n block) p q (Ok tt) i j
            → IsAt call f (count + n) q (Calls read a c) h j
        at_more j room some next = record {
          read = given some;
          goes_on = refl;
          stops = stops_after _ room;
          takes = takes_more call f [] x.read.input (take n block) 1 _ _ (Ok tt) h i j x.takes (next.takes (last_part [] x.read.input) x.takes.1.reader);
          count_is = sym given_length;
        }

        pub at_end : (r : Result (Unit {0}) Stop) (j : AnswerState W) → count ≤ most_bytes
            → h.pending ≡ [] → i.pending ≡ [] → j.pending ≡ [] → n ≡ 0 → 0 < length block
            → TakesLast call f p r i j → AnswersSource call f r (Calls read a c) h j
        at_end r j room none_first none none_now no_byte asked last = record {
          read = read_last read a b c x.read x.goes_on made End (reads_end (length block) (take n block) asked (length_taken block bound ∙ no_byte));
          stops = stops_after _ room;
          last = last_read _;
          answers = answered_after r j room none_first none none_now
              (due_at_end x.read.input p.line (omega (arith, x.count_is, room)) x.takes.1.line)
              (last.takes (last_part [] x.read.input) x.takes.1.reader);
          read_whole = λ d. refl;
        }

        -- a block of which this part counts, and in which the run was stopped
        stopped_at : (part : List ℕ) {o : Result (Unit {0}) Stop} (stop : Stop) (j : AnswerState W) → count ≤ most_bytes
            → h.pending ≡ [] → i.pending ≡ [] → j.pending ≡ [] → n ≢ 0
            → take most_bytes (x.read.input ++ take n block) ≡ x.read.input ++ part
            → outcome_of_input (x.read.input ++ take n block) More ≡ o
            → Answers call (then_answer (answers_from f p.line (ended_lines (last_part [] x.read.input) part)) (unsearched [] o)) (Err stop) i j
            → AnswersSource call f (Err stop) (Calls read a c) h j
        stopped_at part stop j room none_first none none_now some cut end more = record {
          read = given some;
          stops = stops_after _ room;
          last = last_read _;
          answers = answered_after (Err stop) j room none_first none none_now
              (due_after_block x.read.input part (x.read.input ++ take n block) p.line cut x.takes.1.line end) more;
          read_whole = λ e. absurd (cc e);
        }

        -- the bytes past the most ones don't count
        past_limit : (part : List ℕ) {q : Progress} (r : Result (Unit {0}) Stop) (j : AnswerState W)
            → TakesNext call f part p q r i j
            → Answers call (then_answer (answers_from f p.line (ended_lines (last_part [] x.read.input) part)) (unsearched [] (Err InputTooLong)))
            (Err (stop_unless r InputTooLong)) i j
        past_limit part (Ok u) j next =
            answers_more call _ _ (Err InputTooLong) i j j (next.takes (last_part [] x.read.input) x.takes.1.reader).0
            (answered call false (unsearched [] (Err InputTooLong)) (Err InputTooLong) j j refl (delivers_nothing call j))
        past_limit part (Err stop) j next =
            answers_stopped call _ _ stop i j (next.takes (last_part [] x.read.input) x.takes.1.reader).0

        pub at_limit : (room : ℕ) {q : Progress} (r : Result (Unit {0}) Stop) (j : AnswerState W)
            → h.pending ≡ [] → i.pending ≡ [] → j.pending ≡ [] → room + count ≡ most_bytes → room < n
            → TakesNext call f (take room block) p q r i j → AnswersSource call f (Err (stop_unless r InputTooLong)) (Calls read a c) h j
        at_limit room r j none_first none none_now sum long next =
            stopped_at (take room block) _ j (omega (arith, sum)) none_first none none_now (λ e. omega (arith, e, long))
            (cut_block x.read.input block n room x.count_is sum (omega (arith, long)) bound)
            (choose_true _ _ _ (long_test {n = length (x.read.input ++ take n block)} (omega (arith, given_length, sum, long)))) (past_limit (take room block) r j next)

        pub at_stop : {q : Progress} (stop : Stop) (j : AnswerState W) → h.pending ≡ [] → i.pending ≡ [] → j.pending ≡ []
            → n + count ≤ most_bytes → n ≢ 0
            → TakesNext call f (take n block) p q (Err stop) i j → AnswersSource call f (Err stop) (Calls read a c) h j
        at_stop stop j none_first none none_now room some next =
            stopped_at (take n block) stop j (omega (arith, room)) none_first none none_now some
            (whole_input (x.read.input ++ take n block) (omega (arith, given_length, room))) refl
            (answers_stopped call _ _ stop i j (next.takes (last_part [] x.read.input) x.takes.1.reader).0)

  -- a whole text at once

  text_taken : (text : List ℕ) {p q : Progress} (r : Result (Unit {0}) Stop) {h i : AnswerState W}
      → IsFirst p → TakesNext call f text p q r h i → TakesBytes call f [] text 1 q r h i
  text_taken text {q = q} r {h = h} {i = i} first next = subst (λ n. TakesBytes call f [] text n q r h i) first.line (next.takes [] first.reader)

  pub text_stopped : {text : List ℕ} {p q : Progress} {stop : Stop} {h j : AnswerState W}
      → length text ≤ most_bytes → IsFirst p → TakesNext call f text p q (Err stop) h j → Answers call (answer_lines f text End) (Err stop) h j
  text_stopped {text = text} {stop = stop} {h = h} {j = j} fits first next =
      subst (λ d. Answers call d (Err stop) h j) (sym (due_at_end text _ fits refl))
      (answers_stopped call _ _ stop h j (text_taken text (Err stop) first next).0)

  pub text_done : {text : List ℕ} {p q : Progress} {r : Result (Unit {0}) Stop} {h i j : AnswerState W}
      → length text ≤ most_bytes → IsFirst p → TakesNext call f text p q (Ok tt) h i → TakesLast call f q r i j
      → Answers call (answer_lines f text End) r h j
  text_done {text = text} {q = q} {r = r} {h = h} {i = i} {j = j} fits first next last =
      let x = text_taken text {q = q} (Ok tt) {h = h} {i = i} first next in
      input_ends text q h i j r fits x (last.takes (last_part [] text) x.1.reader)

pub ruleset text_laws = (text_stopped, text_done, last_kept)
