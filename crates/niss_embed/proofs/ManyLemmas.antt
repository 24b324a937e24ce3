-- The lines of a text one after the other, and answers to the first of them.
use Rattle.std.proofs.Common.{◌≡◌, ◌≢◌, ◌⊎◌, ℕ, suc, zero, ◌+◌, ◌-◌, ◌<◌, ◌≤◌, inl, inr, List, [], ◌∷◌, ◌++◌, length, take, drop, get_or, set, refl, sym}
use Rattle.std.proofs.Common.{ap, ◌∙◌, subst, append_assoc, arith, length-append}
use Rattle.std.specs.Prelude.{flat_map}
use Rattle.std.proofs.lemmas.Bool.Decides.{eqb_tells}
use Rattle.std.proofs.lemmas.List.{drop_more, take_all, take-append-drop, drop-drop, drop-set-lt, get_or_append_left, get_or_push, get_or-set_same, get_or-set_other, length-set}
use Rattle.std.proofs.lemmas.List.Elements.{All-nil, All-cons}
use Rattle.niss_shell.specs.Lines.{HasNo, IsCutAt, ended_by, line_feed, ended_lines, last_part}
use Rattle.niss_shell.specs.Laws.{OneCut}
use Rattle.niss_shell.specs.Output.{line_with_bytes}
unfoldable use Rattle.niss_embed.specs.ManyLines.{text_lines}
use Rattle.niss_embed.specs.ManyLines.{AnswersFirst, AnswersLines, taken}

-- the bytes before the first line feed, and all bytes if there is none
none_below : (bytes : List ℕ) (n : ℕ) → n ≤ length bytes → ((k : ℕ) → k < n → get_or bytes k 0 ≢ line_feed) → HasNo line_feed (take n bytes)
none_below bytes zero le h = All-nil (λ b. b ≢ line_feed)
none_below [] (suc n) le h = absurd (omega (arith, le))
none_below (b ∷ bs) (suc n) le h = All-cons (λ b. b ≢ line_feed) b _ (h 0 (omega arith)) (none_below bs n (omega (arith, le)) (λ k lt. h (suc k) (omega (arith, lt))))

pub before_feed : (bytes : List ℕ) (at : ℕ) → at < length bytes → ((k : ℕ) → k < at → get_or bytes k 0 ≢ line_feed) → get_or bytes at 0 ≡ line_feed
    → HasNo line_feed (take at bytes) × (take at bytes ++ line_feed ∷ drop (at + 1) bytes ≡ bytes)
before_feed bytes at within before here = (
  none_below bytes at (omega (arith, within)) before,
  ap (λ v. take at bytes ++ v) (sym (drop_more bytes at 0 within ∙ ap (λ b. b ∷ drop (at + 1) bytes) here)) ∙ take-append-drop at bytes,
)

pub without_feed : (bytes : List ℕ) → ((k : ℕ) → k < length bytes → get_or bytes k 0 ≢ line_feed) → HasNo line_feed bytes
without_feed bytes none = subst (HasNo line_feed) (take_all (length bytes) bytes (omega arith)) (none_below bytes (length bytes) (omega arith) none)

-- the lines by any cut
lines_by : OneCut → (text : List ℕ) (ended : List (List ℕ)) (last : List ℕ) → IsCutAt line_feed text ended last → text_lines text ≡ ended ++ line_with_bytes last
unfolding text_lines
lines_by only text ended last cut =
    let one = only text ended last cut in
    ap (λ ls. ls ++ line_with_bytes (last_part [] text)) (sym one.0) ∙ ap (λ l. ended ++ line_with_bytes l) (sym one.1)

pub lines_first : OneCut → ((text : List ℕ) → IsCutAt line_feed text (ended_lines [] text) (last_part [] text)) → (line after : List ℕ) → HasNo line_feed line →
    text_lines (line ++ line_feed ∷ after) ≡ line ∷ text_lines after
lines_first only is_cut line after h =
    let cut = is_cut after in
    let ended : List (List ℕ) = ended_lines [] after in
    let last : List ℕ = last_part [] after in
    lines_by only (line ++ line_feed ∷ after) (line ∷ ended) last record {
      unbroken_parts = All-cons (HasNo line_feed) line ended h cut.unbroken_parts;
      unbroken_last = cut.unbroken_last;
      whole = append_assoc (line ++ line_feed ∷ []) (flat_map (ended_by line_feed) ended) last
          ∙ ap (λ v. (line ++ line_feed ∷ []) ++ v) cut.whole ∙ append_assoc line (line_feed ∷ []) after;
    }
    ∙ ap (λ ls. line ∷ ls) (sym (lines_by only after ended last cut))

pub lines_none : text_lines [] ≡ []
unfolding text_lines ended_lines last_part
lines_none = refl

pub lines_last : OneCut → (line : List ℕ) → 0 < length line → HasNo line_feed line → text_lines line ≡ line ∷ text_lines []
lines_last only line some h =
    lines_by only line [] line record { unbroken_parts = All-nil (HasNo line_feed); unbroken_last = h; whole = refl }
    ∙ with_bytes line some ∙ ap (λ ls. line ∷ ls) (sym lines_none)
  where
    with_bytes : (line : List ℕ) → 0 < length line → line_with_bytes line ≡ line ∷ []
    with_bytes [] some = absurd (omega arith)
    with_bytes (b ∷ line) some = refl

-- What a loop keeps: these lines are answered, and those of the rest follow.
module _ {T : Type 0} (answers : List ℕ → T → Type 0) where
  pub record Answered (text rest : List ℕ) (count : ℕ) (before after : List T) : Type 0 where
    pub done : List (List ℕ)
    pub lines : text_lines text ≡ done ++ text_lines rest
    pub length_is : length done ≡ count
    pub within : length rest ≤ length text
    pub left : rest ≡ drop (length text - length rest) text
    pub room : count ≤ length before
    pub first : AnswersFirst answers done before after

  pub answered_none : (text : List ℕ) (all : List T) → Answered text text 0 all all
  answered_none text all = record {
    done = [];
    lines = refl;
    length_is = refl;
    within = omega arith;
    left = ap (λ k. drop k text) nothing;
    room = omega arith;
    first = record { each = λ i a l. absurd (omega arith); after_them = refl; same_length = refl };
  }
    where
      nothing : 0 ≡ length text - length text
      nothing = omega arith

  module _ (text rest line rest_now : List ℕ) (count : ℕ) (before after : List T) (was : Answered text rest count before after)
      (next : text_lines rest ≡ line ∷ text_lines rest_now) (shorter : length rest_now < length rest)
      (left : rest_now ≡ drop (length rest - length rest_now) rest) where
    abbrev now : List (List ℕ)
    now = was.done ++ line ∷ []

    length-now : length now ≡ count + 1
    length-now = omega (arith, length-append was.done (line ∷ []), was.length_is)

    after-now : drop (count + 1) after ≡ drop (count + 1) before
    after-now =
        let d : drop count after ≡ drop count before = ap (λ k. drop k after) (sym was.length_is) ∙ was.first.after_them ∙ ap (λ k. drop k before) was.length_is in
        sym (drop-drop 1 count after) ∙ ap (drop 1) d ∙ drop-drop 1 count before

    left-now : rest_now ≡ drop (length text - length rest_now) text
    left-now =
        let more : ℕ = length rest - length rest_now in
        let sum : (length text - length rest) + more ≡ length text - length rest_now = omega (arith, was.within, shorter) in
        left ∙ ap (drop more) was.left ∙ drop-drop more (length text - length rest) text ∙ ap (λ k. drop k text) sum

    pub answered_more : (answer : T) → count < length after → answers line answer → Answered text rest_now (count + 1) before (set after count answer)
    answered_more answer room right = record {
      done = now;
      lines = was.lines ∙ ap (λ ls. was.done ++ ls) next ∙ sym (append_assoc was.done (line ∷ []) (text_lines rest_now));
      length_is = length-now;
      within = omega (arith, was.within, shorter);
      left = left-now;
      room = omega (arith, room, was.first.same_length);
      first = record {
        each = λ i a l. elim (eqb_tells i count) [
          | inl w ↦
              subst (λ k. answers (get_or now k []) (get_or (set after count answer) k a)) (sym w.1)
              (subst (λ (q : List ℕ). answers q (get_or (set after count answer) count a)) (sym (get_or_push was.done line [] count was.length_is))
              (subst (λ (z : T). answers line z) (sym (get_or-set_same after count answer a room)) right))
          | inr w ↦
              let li : i < length was.done = grind (arith, w.1, length-now, was.length_is, l) in
              subst (λ (z : T). answers (get_or now i []) z) (sym (get_or-set_other after count i answer a w.1))
              (subst (λ (q : List ℕ). answers q (get_or after i a)) (sym (get_or_append_left was.done (line ∷ []) [] i li)) (was.first.each i a li))
        ];
        after_them = ap (λ k. drop k (set after count answer)) length-now ∙ drop-set-lt (count + 1) after count answer (omega arith) ∙ after-now
            ∙ ap (λ k. drop k before) (sym length-now);
        same_length = length-set after count answer ∙ was.first.same_length;
      };
    }

  -- what is told of it, if the text or the room has ended
  pub all_answered : (text rest : List ℕ) (count : ℕ) (before after : List T) (was : Answered text rest count before after) → (rest ≡ []) ⊎ (length after ≤ count) →
      AnswersLines answers text before after (taken count (length text - length rest))
  all_answered text rest count before after was end = record {
    status = refl;
    answered = was.done;
    count = was.length_is;
    rest = was.lines ∙ ap (λ r. was.done ++ text_lines r) was.left;
    within = omega arith;
    room = was.room;
    all = λ less. by less end;
    first = was.first;
  }
    where
      by : count < length before → (rest ≡ []) ⊎ (length after ≤ count) → length text - length rest ≡ length text
      by less (inl none) = omega (arith, ap length none)
      by less (inr full) = absurd (omega (arith, was.first.same_length))
