-- How the engine's steps join: bytes inside a line, a line feed, a block piece by piece, and what stands at its end.
use Rattle.niss_shell.proofs.Names.{◌≡◌, ◌≢◌, ℕ, ◌+◌, ◌<◌, ◌≤◌, take, drop, get_or, Bool, false, Result, Ok, Err, List, [], ◌∷◌, ◌++◌}
use Rattle.niss_shell.proofs.Names.{length, refl, sym, ap, ◌∙◌, subst, append-nil, length-append, arith, OnOk, between, between_to_end}
use Rattle.niss_shell.proofs.Names.{take_more, take-append-drop, length-drop, All-nil, TargetCall, ended_lines, last_part}
use Rattle.niss_shell.proofs.Names.{Reader, IsFed, LineAnswers, answers_from, then_answer, AnswerState, Progress, Answers}
use Rattle.niss_shell.proofs.Names.{TakesBytes, Stop, take_all, take-add, All-cons, line_answer, line_with_bytes, Delivered}
use Rattle.niss_shell.proofs.Names.{TakesNext, TakesLast, Keeps, answers_of, Lines, TakesEnd, outcome_before, CannotWrite, true}
use Rattle.niss_shell.proofs.Names.{HasNo, line_feed, zero, suc}
use Rattle.niss_shell.proofs.LinesLemmas.{ended_after, last_after, ended_lines-append, last_part-append, answers_from-append}
use Rattle.niss_shell.proofs.StateLemmas.{delivers_nothing, then_nothing, answered, answers_more, answers_stopped, answers_sent}

on_ok : {A B C : Type 0} (r : Result (Unit {0}) Stop) → (A → B → C) → OnOk r A → OnOk r B → OnOk r C
on_ok (Ok u) f a b = f a b
on_ok (Err stop) f a b = tt

-- bytes inside a line
inside_ended : (front xs : List ℕ) → HasNo line_feed xs → ended_lines front xs ≡ []
unfolding ended_lines
inside_ended front xs h = ap (λ v. ended_lines front v) (sym (append-nil xs)) ∙ ended_after front xs [] h

inside_last : (front xs : List ℕ) → HasNo line_feed xs → last_part front xs ≡ front ++ xs
unfolding last_part
inside_last front xs h = ap (λ v. last_part front v) (sym (append-nil xs)) ∙ last_after front xs [] h

-- bytes, and more bytes
pub lines_joined : (f : LineAnswers) (front xs ys : List ℕ) (n : ℕ) → answers_from f n (ended_lines front (xs ++ ys))
    ≡ then_answer (answers_from f n (ended_lines front xs)) (answers_from f (n + length (ended_lines front xs)) (ended_lines (last_part front xs) ys))
lines_joined f front xs ys n = ap (answers_from f n) (ended_lines-append front xs ys) ∙ answers_from-append f n _ _

-- the first byte of a block

first_byte : (bytes : List ℕ) {b : ℕ} → 0 < length bytes → get_or bytes 0 0 ≡ b → take 1 bytes ≡ b ∷ []
first_byte bytes some e = take_more bytes 0 0 some ∙ ap (λ (c : ℕ). c ∷ []) e

pub piece_within : (bytes : List ℕ) (i : ℕ) {k : ℕ} → i < length bytes → k ≤ length (between i (length bytes) bytes) → i + k ≤ length bytes
piece_within bytes i h l =
    let e : length (between i (length bytes) bytes) ≡ length (drop i bytes) = ap length (between_to_end bytes i (length bytes) (omega arith)) in
    omega (arith, e, length-drop i bytes)

-- no line feed stands up to here
pub none_below : (bytes : List ℕ) (n : ℕ) → n ≤ length bytes → ((k : ℕ) → k < n → get_or bytes k 0 ≢ 10) → HasNo line_feed (take n bytes)
none_below bytes zero le h = All-nil (λ b. b ≢ 10)
none_below [] (suc n) le h = absurd (omega (arith, le))
none_below (b ∷ bs) (suc n) le h = All-cons (λ b. b ≢ 10) b _ (h 0 (omega arith)) (none_below bs n (omega (arith, le)) (λ k lt. h (suc k) (omega (arith, lt))))

module _ {W : Type 0} (call : W → TargetCall → W → Type 0) where
  -- one line, and no line

  pub answered_line : (f : LineAnswers) (n : ℕ) (front : List ℕ) (r : Result (Unit {0}) Stop) (old new : AnswerState W)
      → Answers call (f n front) r old new → Answers call (answers_from f n (front ∷ [])) r old new
  unfolding answers_from
  answered_line f n front r old new p = subst (λ a. Answers call a r old new) (sym (then_nothing (f n front))) p

  pub answered_none : (f : LineAnswers) (n : ℕ) (out : AnswerState W) → Answers call (answers_from f n []) (Ok tt) out out
  unfolding answers_from
  answered_none f n out = answered call false _ (Ok tt) out out refl (delivers_nothing call out)

  pub takes_inside : (f : LineAnswers) (front xs : List ℕ) (n : ℕ) (q : Progress) (out : AnswerState W)
      → HasNo line_feed xs → IsFed q.reader (front ++ xs) → q.line ≡ n
      → TakesBytes call f front xs n q (Ok tt) out out
  takes_inside f front xs n q out h reader line = (
    subst (λ ls. Answers call (answers_from f n ls) (Ok tt) out out) (sym (inside_ended _ _ h)) (answered_none f n out),
    record {
      reader = subst (λ v. IsFed q.reader v) (sym (inside_last _ _ h)) reader;
      line = let none : length (ended_lines front xs) ≡ 0 = ap length (inside_ended _ _ h) in omega (arith, line, none);
    },
  )

  pub takes_none : (f : LineAnswers) (front : List ℕ) (n : ℕ) (p : Progress) (out : AnswerState W)
      → IsFed p.reader front → p.line ≡ n → TakesBytes call f front [] n p (Ok tt) out out
  takes_none f front n p out at line =
      takes_inside f front [] n p out (All-nil (λ b. b ≢ 10)) (subst (λ v. IsFed p.reader v) (sym (append-nil front)) at) line

  pub takes_more : (f : LineAnswers) (front xs ys : List ℕ) (n : ℕ) (q s : Progress) (r : Result (Unit {0}) Stop) (a b c : AnswerState W)
      → TakesBytes call f front xs n q (Ok tt) a b → TakesBytes call f (last_part front xs) ys q.line s r b c → TakesBytes call f front (xs ++ ys) n s r a c
  takes_more f front xs ys n q s r a b c x y = (
    subst (λ d. Answers call d r a c) (sym (lines_joined f front xs ys n))
        (answers_more call _ _ r a b c x.0 (subst (λ k. Answers call (answers_from f k (ended_lines (last_part front xs) ys)) r b c) x.1.line y.0)),
    on_ok r (λ at last. record {
      reader = subst (λ v. IsFed s.reader v) (sym (last_part-append _ _ _)) last.reader;
      line = let e : length (ended_lines front (xs ++ ys)) ≡ length (ended_lines front xs) + length (ended_lines (last_part front xs) ys) =
          ap length (ended_lines-append _ _ _) ∙ length-append (ended_lines front xs) (ended_lines (last_part front xs) ys)
          in omega (arith, e, x.1.line, last.line);
    }) y.1 y.1,
  )

  -- one piece

  pub none_taken : {f : LineAnswers} {p : Progress} (out : AnswerState W) → TakesNext call f [] p p (Ok tt) out out
  none_taken out = record { takes = λ front at. takes_none _ front _ _ out at refl }

  pub inside_taken : {f : LineAnswers} {bytes : List ℕ} {p q : Progress} (out : AnswerState W) → HasNo line_feed bytes
      → ((front : List ℕ) → IsFed p.reader front → IsFed q.reader (front ++ bytes)) → q.line ≡ p.line
      → TakesNext call f bytes p q (Ok tt) out out
  inside_taken out inside fed line = record { takes = λ front at. takes_inside _ front _ _ _ out inside (fed front at) line }

  pub line_feed_taken : {f : LineAnswers} (bytes : List ℕ) {p q : Progress} {r : Result (Unit {0}) Stop} {old new : AnswerState W}
      → 0 < length bytes → get_or bytes 0 0 ≡ 10
      → ((front : List ℕ) → IsFed p.reader front → Answers call (f p.line front) r old new)
      → OnOk r (IsFed q.reader []) → OnOk r (q.line ≡ p.line + 1) → TakesNext call f (take 1 bytes) p q r old new
  unfolding ended_lines last_part
  line_feed_taken {f = f} bytes {p = p} {q = q} {r = r} {old = old} {new = new} some feed answers reader line = record {
    takes = λ front at. subst (λ xs. TakesBytes call f front xs p.line q r old new) (sym (first_byte bytes some feed))
        (answered_line f p.line front r old new (answers front at), on_ok r (λ fed next. record { reader = fed; line = next }) reader line);
  }

  -- a block, piece by piece

  pub block_more : {f : LineAnswers} (bytes : List ℕ) {rest : List ℕ} (n k : ℕ) {p q s : Progress} {r : Result (Unit {0}) Stop} {h i j : AnswerState W}
      → rest ≡ drop n bytes → TakesNext call f (take n bytes) p q (Ok tt) h i → TakesNext call f (take k rest) q s r i j
      → TakesNext call f (take (n + k) bytes) p s r h j
  block_more {f = f} bytes n k {p = p} {s = s} {r = r} {h = h} {j = j} e x y = record {
    takes = λ front at.
        let z = x.takes front at in
        subst (λ xs. TakesBytes call f front xs p.line s r h j) (ap (λ t. take n bytes ++ take k t) e ∙ sym (take-add n k bytes))
        (takes_more _ _ _ _ _ _ _ _ _ _ _ z (y.takes (last_part front (take n bytes)) z.1.reader));
  }

  -- a block in which the run was stopped
  pub block_stopped : {f : LineAnswers} (bytes : List ℕ) {rest : List ℕ} (n k : ℕ) {p q s : Progress} {stop : Stop} {h i j : AnswerState W}
      → rest ≡ drop n bytes → TakesNext call f (take n bytes) p q (Ok tt) h i → TakesNext call f (take k rest) q s (Err stop) i j
      → TakesNext call f bytes p s (Err stop) h j
  block_stopped {f = f} bytes n k {p = p} {s = s} {stop = stop} {h = h} {j = j} e x y = record {
    takes = λ front at.
        let z = (block_more bytes n k e x y).takes front at in
        subst (λ xs. TakesBytes call f front xs p.line s (Err stop) h j) (take-append-drop (n + k) bytes)
        (subst (λ d. Answers call d (Err stop) h j) (sym (lines_joined f front (take (n + k) bytes) (drop (n + k) bytes) p.line)) (answers_stopped call _ _ stop h j z.0), tt);
  }

  -- all bytes of a block
  pub block_whole : {f : LineAnswers} (bytes : List ℕ) (n : ℕ) {p q : Progress} {r : Result (Unit {0}) Stop} {h i : AnswerState W}
      → length bytes ≤ n → TakesNext call f (take n bytes) p q r h i → TakesNext call f bytes p q r h i
  block_whole {f = f} bytes n {p = p} {q = q} {r = r} {h = h} {i = i} fits x = subst (λ v. TakesNext call f v p q r h i) (take_all n bytes fits) x

  pub block_sent : {f : LineAnswers} {bytes : List ℕ} {p q : Progress} {h i j : AnswerState W}
      → TakesNext call f bytes p q (Ok tt) h i → Delivered call false [] 0 i j → TakesNext call f bytes p q (Ok tt) h j
  block_sent {f = f} {bytes = bytes} {p = p} {h = h} {i = i} {j = j} x w = record {
    takes = λ front at. let y = x.takes front at in
        (answers_sent call (answers_from f p.line (ended_lines front bytes)) false (Ok tt) h i j refl y.0 w, y.1);
  }

  pub block_unsent : {f : LineAnswers} {bytes : List ℕ} {p q : Progress} {h i j : AnswerState W}
      → TakesNext call f bytes p q (Ok tt) h i → Delivered call true [] 0 i j → TakesNext call f bytes p q (Err CannotWrite) h j
  block_unsent {f = f} {bytes = bytes} {p = p} {h = h} {i = i} {j = j} x w = record {
    takes = λ front at. (answers_sent call (answers_from f p.line (ended_lines front bytes)) true (Err CannotWrite) h i j refl (x.takes front at).0 w, tt);
  }

  -- the end of an input

  takes_no_line : (f : LineAnswers) (front : List ℕ) (n : ℕ) {r : Reader} (out : AnswerState W)
      → IsFed r front → r.fed ≡ 0 → TakesEnd call f front n (Ok tt) out out
  takes_no_line f [] n out at none = answered_none f n out
  takes_no_line f (b ∷ bs) n out at none = absurd (omega (arith, at.fed, none))

  takes_last_line : (f : LineAnswers) (front : List ℕ) (n : ℕ) {r : Reader} (result : Result (Unit {0}) Stop) (old new : AnswerState W)
      → IsFed r front → r.fed ≢ 0 → Answers call (f n front) result old new → TakesEnd call f front n result old new
  takes_last_line f [] n result old new at some answers = absurd (some at.fed)
  takes_last_line f (b ∷ bs) n result old new at some answers = answered_line f n (b ∷ bs) result old new answers

  pub no_last : {f : LineAnswers} {p : Progress} (out : AnswerState W) → p.reader.fed ≡ 0 → TakesLast call f p (Ok tt) out out
  no_last out none = record { takes = λ front at. takes_no_line _ front _ out at none }

  pub last_line : {f : LineAnswers} {p : Progress} {r : Result (Unit {0}) Stop} {old new : AnswerState W}
      → p.reader.fed ≢ 0 → ((front : List ℕ) → IsFed p.reader front → Answers call (f p.line front) r old new) → TakesLast call f p r old new
  last_line some answers = record { takes = λ front at. takes_last_line _ front _ _ _ _ at some (answers front at) }

  pub last_sent : {f : LineAnswers} {p : Progress} (refused : Bool) (o : Result (Unit {0}) Stop) {h i j : AnswerState W} → o ≡ outcome_before refused (Ok tt)
      → TakesLast call f p (Ok tt) h i → Delivered call refused [] 0 i j → TakesLast call f p o h j
  last_sent {f = f} {p = p} refused o {h = h} {i = i} {j = j} e x w = record {
    takes = λ front at. answers_sent call (answers_from f p.line (line_with_bytes front)) refused o h i j e (x.takes front at) w;
  }

-- what lines take that keep their work

module _ {A : Type 0} where
  pub keeps_same : {a : Lines A} → Keeps a a
  keeps_same = record { command = refl; looks = refl }

  pub keeps_more : {a b c : Lines A} → Keeps a b → Keeps b c → Keeps a c
  keeps_more p q = record { command = q.command ∙ p.command; looks = q.looks ∙ p.looks }

  same_answers : {a b : Lines A} → Keeps a b → answers_of b ≡ answers_of a
  same_answers p = ap (λ c. line_answer c.now) p.command

  module _ {W : Type 0} (call : W → TargetCall → W → Type 0) where
    pub kept : {a b : Lines A} {bytes : List ℕ} {p q : Progress} {r : Result (Unit {0}) Stop} {i j : AnswerState W}
        → Keeps a b → TakesNext call (answers_of b) bytes p q r i j → TakesNext call (answers_of a) bytes p q r i j
    kept {bytes = bytes} {p = p} {q = q} {r = r} {i = i} {j = j} same x = subst (λ f. TakesNext call f bytes p q r i j) (same_answers same) x

    pub last_kept : {a b : Lines A} {p : Progress} {r : Result (Unit {0}) Stop} {i j : AnswerState W}
        → Keeps a b → TakesLast call (answers_of b) p r i j → TakesLast call (answers_of a) p r i j
    last_kept {p = p} {r = r} {i = i} {j = j} same x = subst (λ f. TakesLast call f p r i j) (same_answers same) x
