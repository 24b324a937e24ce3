-- The lines of a text are the one cut at its line feeds, and those of a part of an input, with their answers, begin those of
-- the whole.
use Rattle.niss_shell.proofs.Names.{◌≡◌, ◌≢◌, ℕ, ◌==◌, Bool, true, false, if◌then◌else◌, List, [], ◌∷◌, ◌++◌, refl}
use Rattle.niss_shell.proofs.Names.{sym, ap, ◌∙◌, subst, append_assoc, append-nil, All, flat_map, ne_eqb, eqb-true}
use Rattle.niss_shell.proofs.Names.{All-nil, All-cons, All-head, All-tail, All-push, ended_lines, last_part}
use Rattle.niss_shell.proofs.Names.{line_feed, HasNo, ended_by, IsCutAt, TextIsCut, OneCut, arith, length, Ok, ◌+◌}
use Rattle.niss_shell.proofs.Names.{LineAnswers, unsearched, then_answer, answers_from, zero, suc, ◌≤◌, Result, Err}
use Rattle.niss_shell.proofs.Names.{take, length-append, nat_lt, take_all, take-append-le, common_steps, most_bytes}
use Rattle.niss_shell.proofs.Names.{OnLines, ListSteps, DrawScrambles, Answer, Ending, More, End, complete_lines}
use Rattle.niss_shell.proofs.Names.{last_line, line_with_bytes, outcome_of_input, joined_answer, line_answer}
use Rattle.niss_shell.proofs.Names.{answer_lines, Begins, MoreInputKeepsAnswers, Stop, InputTooLong}
use Rattle.niss_shell.proofs.StateLemmas.{nothing_then, then_then, choose_false, choose_true}

no_feed_after : {b : ℕ} → (b == 10) ≡ false → b ≢ 10
no_feed_after e h = cc (e, ap (λ n. n == 10) h)

-- the first line ends, or goes on
cut_step : (c : Bool) (front bs : List ℕ) (b : ℕ) → (b == 10) ≡ c → HasNo line_feed front
    → IsCutAt line_feed bs (ended_lines [] bs) (last_part [] bs)
    → (HasNo line_feed (front ++ b ∷ []) → IsCutAt line_feed ((front ++ b ∷ []) ++ bs) (ended_lines (front ++ b ∷ []) bs) (last_part (front ++ b ∷ []) bs))
    → IsCutAt line_feed (front ++ b ∷ bs) (if c then front ∷ ended_lines [] bs else ended_lines (front ++ b ∷ []) bs) (if c then last_part [] bs else last_part (front ++ b ∷ []) bs)
cut_step true front bs b e h p q = record {
  unbroken_parts = All-cons (HasNo line_feed) front (ended_lines [] bs) h p.unbroken_parts;
  unbroken_last = p.unbroken_last;
  whole = append_assoc (front ++ 10 ∷ []) (flat_map (ended_by line_feed) (ended_lines [] bs)) (last_part [] bs)
      ∙ ap (λ v. (front ++ 10 ∷ []) ++ v) p.whole ∙ append_assoc front (10 ∷ []) bs ∙ ap (λ n. front ++ n ∷ bs) (sym (eqb-true b 10 e));
}
cut_step false front bs b e h p q =
    subst (λ t. IsCutAt line_feed t (ended_lines (front ++ b ∷ []) bs) (last_part (front ++ b ∷ []) bs)) (append_assoc front (b ∷ []) bs)
    (q (All-push (λ n. n ≢ 10) front b h (no_feed_after e)))

cut_after : (front bs : List ℕ) → HasNo line_feed front → IsCutAt line_feed (front ++ bs) (ended_lines front bs) (last_part front bs)
unfolding ended_lines last_part
cut_after front [] h = record {
  unbroken_parts = All-nil (HasNo line_feed);
  unbroken_last = h;
  whole = sym (append-nil front);
}
cut_after front (b ∷ bs) h =
    cut_step _ _ _ _ refl h (cut_after [] bs (All-nil (λ n. n ≢ 10))) (λ k. cut_after (front ++ b ∷ []) bs k)

pub text_is_cut : TextIsCut
text_is_cut text = cut_after [] text (All-nil (λ n. n ≢ 10))

-- bytes that are no line feed only move to the front
pub ended_after : (front part bs : List ℕ) → HasNo line_feed part → ended_lines front (part ++ bs) ≡ ended_lines (front ++ part) bs
unfolding ended_lines
ended_after front [] bs h = ap (λ v. ended_lines v bs) (sym (append-nil front))
ended_after front (b ∷ part) bs h =
    ap (λ c. if c then front ∷ ended_lines [] (part ++ bs) else ended_lines (front ++ b ∷ []) (part ++ bs)) (ne_eqb b 10 (All-head (λ n. n ≢ 10) b part h))
    ∙ ended_after (front ++ b ∷ []) part bs (All-tail (λ n. n ≢ 10) b part h)
    ∙ ap (λ v. ended_lines v bs) (append_assoc front (b ∷ []) part)

pub last_after : (front part bs : List ℕ) → HasNo line_feed part → last_part front (part ++ bs) ≡ last_part (front ++ part) bs
unfolding last_part
last_after front [] bs h = ap (λ v. last_part v bs) (sym (append-nil front))
last_after front (b ∷ part) bs h =
    ap (λ c. if c then last_part [] (part ++ bs) else last_part (front ++ b ∷ []) (part ++ bs)) (ne_eqb b 10 (All-head (λ n. n ≢ 10) b part h))
    ∙ last_after (front ++ b ∷ []) part bs (All-tail (λ n. n ≢ 10) b part h)
    ∙ ap (λ v. last_part v bs) (append_assoc front (b ∷ []) part)

-- a line and its line feed come off the front
ended_first : (line bs : List ℕ) → HasNo line_feed line → ended_lines [] (ended_by line_feed line ++ bs) ≡ line ∷ ended_lines [] bs
unfolding ended_lines
ended_first line bs h = ap (λ v. ended_lines [] v) (append_assoc line (10 ∷ []) bs) ∙ ended_after [] line (10 ∷ bs) h

last_first : (line bs : List ℕ) → HasNo line_feed line → last_part [] (ended_by line_feed line ++ bs) ≡ last_part [] bs
unfolding last_part
last_first line bs h = ap (λ v. last_part [] v) (append_assoc line (10 ∷ []) bs) ∙ last_after [] line (10 ∷ bs) h

-- joined lines are cut again where they were joined

lines_again : (lines : List (List ℕ)) (last : List ℕ) → All (HasNo line_feed) lines → HasNo line_feed last → ended_lines [] (flat_map (ended_by line_feed) lines ++ last) ≡ lines
unfolding ended_lines
lines_again [] last h k = ap (λ v. ended_lines [] v) (sym (append-nil last)) ∙ ended_after [] last [] k
lines_again (line ∷ lines) last h k =
    ap (λ v. ended_lines [] v) (append_assoc (ended_by line_feed line) (flat_map (ended_by line_feed) lines) last)
    ∙ ended_first _ _ (All-head (HasNo line_feed) line lines h)
    ∙ ap (λ v. line ∷ v) (lines_again _ _ (All-tail (HasNo line_feed) line lines h) k)

last_again : (lines : List (List ℕ)) (last : List ℕ) → All (HasNo line_feed) lines → HasNo line_feed last → last_part [] (flat_map (ended_by line_feed) lines ++ last) ≡ last
unfolding last_part
last_again [] last h k = ap (λ v. last_part [] v) (sym (append-nil last)) ∙ last_after [] last [] k
last_again (line ∷ lines) last h k =
    ap (λ v. last_part [] v) (append_assoc (ended_by line_feed line) (flat_map (ended_by line_feed) lines) last)
    ∙ last_first _ _ (All-head (HasNo line_feed) line lines h)
    ∙ last_again lines last (All-tail (HasNo line_feed) line lines h) k

pub one_cut : OneCut
one_cut text lines last p = (
  sym (lines_again _ _ p.unbroken_parts p.unbroken_last) ∙ ap (λ t. ended_lines [] t) p.whole,
  sym (last_again _ _ p.unbroken_parts p.unbroken_last) ∙ ap (λ t. last_part [] t) p.whole,
)

-- the lines and answers of a text that comes in two parts

pub by_test : (P : Bool → Type 0) (c : Bool) → P true → P false → P c
by_test P true p q = p
by_test P false p q = q

pub ended_lines-append : (front xs ys : List ℕ) → ended_lines front (xs ++ ys) ≡ ended_lines front xs ++ ended_lines (last_part front xs) ys
unfolding ended_lines last_part
ended_lines-append front [] ys = refl
ended_lines-append front (b ∷ xs) ys =
    by_test (λ c. (if c then front ∷ ended_lines [] (xs ++ ys) else ended_lines (front ++ b ∷ []) (xs ++ ys))
    ≡ (if c then front ∷ ended_lines [] xs else ended_lines (front ++ b ∷ []) xs) ++ ended_lines (if c then last_part [] xs else last_part (front ++ b ∷ []) xs) ys)
    (b == 10) (ap (λ v. front ∷ v) (ended_lines-append [] xs ys)) (ended_lines-append (front ++ b ∷ []) xs ys)

pub last_part-append : (front xs ys : List ℕ) → last_part front (xs ++ ys) ≡ last_part (last_part front xs) ys
unfolding last_part
last_part-append front [] ys = refl
last_part-append front (b ∷ xs) ys =
    by_test (λ c. (if c then last_part [] (xs ++ ys) else last_part (front ++ b ∷ []) (xs ++ ys))
    ≡ last_part (if c then last_part [] xs else last_part (front ++ b ∷ []) xs) ys)
    (b == 10) (last_part-append [] xs ys) (last_part-append (front ++ b ∷ []) xs ys)

pub answers_from-append : (f : LineAnswers) (n : ℕ) (xs ys : List (List ℕ))
    → answers_from f n (xs ++ ys) ≡ then_answer (answers_from f n xs) (answers_from f (n + length xs) ys)
unfolding answers_from
answers_from-append f n [] ys = sym (nothing_then (answers_from f n ys)) ∙ ap (λ k. then_answer (unsearched [] (Ok tt)) (answers_from f k ys)) (omega arith)
answers_from-append f n (x ∷ xs) ys =
    let rest : answers_from f (n + 1 + length xs) ys ≡ answers_from f (n + length (x ∷ xs)) ys = ap (λ k. answers_from f k ys) (omega arith) in
    ap (λ a. then_answer (f n x) a) (answers_from-append f (n + 1) xs ys ∙ ap (λ a. then_answer (answers_from f (n + 1) xs) a) rest)
    ∙ sym (then_then (f n x) (answers_from f (n + 1) xs) (answers_from f (n + length (x ∷ xs)) ys))

-- what is answered of a part of an input, and of the whole

-- the same is written, and it ends in the same way
begins_same : (part whole : Answer) → whole.output ≡ part.output → whole.outcome ≡ part.outcome → Begins part whole
begins_same part whole e o = record {
  rest = [];
  beginning = append-nil part.output ∙ sym e;
  stopped = λ stop s. (e, o ∙ s);
}

still_long : (input more : List ℕ) → nat_lt most_bytes (length input) ≡ true → nat_lt most_bytes (length (input ++ more)) ≡ true
still_long input more long = rw (length-append input more) (grind (arith, common_steps))

-- an input that is too long, as a part and as a whole

long_taken : (input more : List ℕ) → nat_lt most_bytes (length input) ≡ true → take most_bytes (input ++ more) ≡ take most_bytes input
long_taken input more long = take-append-le most_bytes input more (grind (arith, common_steps))

long_lines : (input more : List ℕ) → nat_lt most_bytes (length input) ≡ true → complete_lines (input ++ more) End ≡ complete_lines input More
long_lines input more long =
    ap (λ t. ended_lines [] t ++ last_line End (input ++ more)) (long_taken input more long)
    ∙ ap (λ t. ended_lines [] (take most_bytes input) ++ t)
    (choose_true (nat_lt most_bytes (length (input ++ more))) [] (line_with_bytes (last_part [] (input ++ more))) (still_long input more long))

long_outcome : (input : List ℕ) (m : Ending) → nat_lt most_bytes (length input) ≡ true → outcome_of_input input m ≡ Err InputTooLong
long_outcome input m long = choose_true _ _ _ long

-- one that isn't

take_past : (xs ys : List ℕ) (n : ℕ) → length xs ≤ n → (rest : List ℕ) × (take n (xs ++ ys) ≡ xs ++ rest)
take_past [] ys n fits = (take n ys, refl)
take_past (x ∷ xs) ys zero fits = absurd (omega (arith, fits))
take_past (x ∷ xs) ys (suc n) fits = let p = take_past xs ys n (omega (arith, fits)) in (p.0, ap (λ v. x ∷ v) p.1)

more_lines : (input more : List ℕ) → nat_lt most_bytes (length input) ≡ false
    → (rest : List (List ℕ)) × (complete_lines (input ++ more) End ≡ complete_lines input More ++ rest)
more_lines input more short =
    let fits : length input ≤ most_bytes = grind (arith, common_steps) in
    let taken = take_past input more most_bytes fits in
    let last = last_line End (input ++ more) in
    let begun = ended_lines [] input in
    let cut = ended_lines (last_part [] input) taken.0 in
    let part : complete_lines input More ≡ begun = append-nil (ended_lines [] (take most_bytes input)) ∙ ap (λ t. ended_lines [] t) (take_all most_bytes input fits) in (
      cut ++ last,
      ap (λ t. ended_lines [] t ++ last) taken.1 ∙ ap (λ t. t ++ last) (ended_lines-append [] input taken.0)
          ∙ append_assoc begun cut last ∙ ap (λ t. t ++ (cut ++ last)) (sym part),
    )

-- what comes after an answer that has no fault is more of it
begins_then : (a b : Answer) (o end : Result (Unit {0}) Stop) → a.outcome ≡ o → end ≡ Ok tt
    → Begins (joined_answer o a (unsearched [] end)) (joined_answer o a b)
begins_then a b (Ok u) end e good = record {
  rest = b.output;
  beginning = ap (λ v. v ++ b.output) (append-nil a.output);
  stopped = λ stop s. absurd (cc (good, s));
}
begins_then a b (Err stop) end e good = begins_same a a refl refl

module _ (f : LineAnswers) (input more : List ℕ) where
  abbrev KeepsAnswers : Type 0
  KeepsAnswers = Begins (answer_lines f input More) (answer_lines f (input ++ more) End)

  begins_long : nat_lt most_bytes (length input) ≡ true → KeepsAnswers
  begins_long long =
      let same : answer_lines f (input ++ more) End ≡ answer_lines f input More =
      ap (λ v. then_answer (answers_from f 1 v) (unsearched [] (outcome_of_input (input ++ more) End))) (long_lines input more long)
      ∙ ap (λ v. then_answer (answers_from f 1 (complete_lines input More)) (unsearched [] v))
      (long_outcome (input ++ more) End (still_long input more long) ∙ sym (long_outcome input More long)) in
      begins_same _ _ (ap (λ v. v.output) same) (ap (λ v. v.outcome) same)

  begins_short : nat_lt most_bytes (length input) ≡ false → KeepsAnswers
  begins_short short =
      let m = more_lines input more short in
      let part = answers_from f 1 (complete_lines input More) in
      let end = unsearched [] (outcome_of_input (input ++ more) End) in
      let rest = answers_from f (1 + length (complete_lines input More)) m.0 in
      let whole : answer_lines f (input ++ more) End ≡ then_answer part (then_answer rest end) =
      ap (λ v. then_answer (answers_from f 1 v) end) m.1
      ∙ ap (λ v. then_answer v end) (answers_from-append f 1 (complete_lines input More) m.0) ∙ then_then part rest end in
      subst (λ v. Begins (answer_lines f input More) v) (sym whole)
      (begins_then part (then_answer rest end) part.outcome (outcome_of_input input More) refl (choose_false _ _ _ short))

  begins_lines : KeepsAnswers
  begins_lines = by_length (nat_lt most_bytes (length input)) refl
    where
      by_length : (c : Bool) → nat_lt most_bytes (length input) ≡ c → KeepsAnswers
      by_length true long = begins_long long
      by_length false short = begins_short short

pub more_input : MoreInputKeepsAnswers
more_input (Ok (OnLines command [])) input more = begins_lines (line_answer command) input more
more_input (Ok (OnLines command (word ∷ words))) input more = begins_same _ _ refl refl
more_input (Ok ListSteps) input more = begins_same _ _ refl refl
more_input (Ok (DrawScrambles state stream turns count)) input more = begins_same _ _ refl refl
more_input (Err fault) input more = begins_same _ _ refl refl
