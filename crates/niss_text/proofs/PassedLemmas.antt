-- What is passed in a text from one place to another has no moves, and how many lines stand there.
use Rattle.std.proofs.Common.{◌≡◌, ℕ, zero, suc, ◌+◌, ◌-◌, ◌<◌, ◌≤◌, ◌⊎◌, inl, inr, ◌==◌, ◌&&◌, Bool, true, false, if◌then◌else◌, List, [], ◌∷◌, ◌++◌, length, take, drop, get_or, slice_range, refl, sym, subst, ap, ◌∙◌, arith}
use Rattle.std.proofs.lemmas.Bool.{cases_lt, false≢true}
use Rattle.niss_text.specs.declared.text_line.TextLine.{TextLine}
use Rattle.niss_text.specs.Signs.{ends_line}
use Rattle.niss_text.specs.Kept.{HasOnlyWords, words_of_any_head}
use Rattle.niss_text.specs.Lines.{IsLine, IsToldBy, IsUnbroken, IsEnd, MayBeHead, HasNoneBetween, HasNoneBy, Remain, end_of, end_size, has_moves}
use Rattle.niss_text.proofs.KeptLemmas.{only_none, only_joined, parts_joined}
use Rattle.niss_text.proofs.LineLemmas.{counts_more, unbroken_at, ended_at, end_size_at}
unfoldable use Rattle.niss_text.specs.Lines.{CoversBy, Counts, Passes}

head_none : (words : List (List ℕ)) (text : List ℕ) (at : ℕ) → MayBeHead words text at at
head_none words text at = record {
  order = omega arith;
  unbroken = λ k lt. absurd (omega (arith, lt));
  words = subst (λ k. HasOnlyWords words (take k (drop at text))) same (only_none words [] refl);
}
  where
    same : 0 ≡ at - at
    same = omega arith

head_joined : (text : List ℕ) (a b c : ℕ) → MayBeHead words_of_any_head text a b → MayBeHead words_of_any_head text b c → MayBeHead words_of_any_head text a c
head_joined text a b c one two = record {
  order = omega (arith, one.order, two.order);
  unbroken = λ k lt. by_place k lt (cases_lt k (b - a));
  words = subst (λ v. HasOnlyWords words_of_any_head v) (parts_joined text a b c one.order two.order)
      (only_joined words_of_any_head (slice_range text a b) (slice_range text b c) one.words two.words);
}
  where
    by_place : (k : ℕ) → k < c - a → (k < b - a) ⊎ (b - a ≤ k) → ends_line (get_or text (a + k) 0) ≡ false
    by_place k lt (inl less) = one.unbroken k less
    by_place k lt (inr more) =
        let same : b + (k - (b - a)) ≡ a + k = omega (arith, more, one.order) in
        subst (λ n. ends_line (get_or text n 0) ≡ false) same (two.unbroken (k - (b - a)) (omega (arith, lt, more, one.order, two.order)))

pub none_between : (words : List (List ℕ)) (text : List ℕ) (at : ℕ) → HasNoneBy words text at at
unfolding Passes
none_between words text at = ([], head_none words text at)

passes_behind : (text : List ℕ) (a b : ℕ) (lines : List TextLine) (c : ℕ) → MayBeHead words_of_any_head text a b → Passes words_of_any_head text b lines c →
    Passes words_of_any_head text a lines c
unfolding Passes
passes_behind text a b [] c head far = head_joined text a b c head far
passes_behind text a b (l ∷ ls) c head far = (head_joined text a b l.begin head far.0, far.1)

passes_on : (text : List ℕ) (a : ℕ) (lines : List TextLine) (b : ℕ) (others : List TextLine) (c : ℕ) → Passes words_of_any_head text a lines b →
    Passes words_of_any_head text b others c → Passes words_of_any_head text a (lines ++ others) c
unfolding Passes
passes_on text a [] b others c far next = passes_behind text a b others c far next
passes_on text a (l ∷ ls) b others c far next = (
  far.0,
  (
    far.1.0,
    (
      far.1.1.0,
      (
        far.1.1.1.0,
        (
          far.1.1.1.1.0,
          far.1.1.1.1.1,
          far.1.1.1.1.2,
          far.1.1.1.1.3,
          passes_on text (l.end + end_size text l.end) ls b others c far.1.1.1.1.4 next,
        ),
      ),
    ),
  ),
)

pub between_on : (text : List ℕ) (a b c : ℕ) → HasNoneBetween text a b → HasNoneBetween text b c → HasNoneBetween text a c
between_on text a b c one two = (one.0 ++ two.0, passes_on text a one.0 b two.0 c one.1 two.1)

pub passes_order : (text : List ℕ) (a : ℕ) (lines : List TextLine) (b : ℕ) → Passes words_of_any_head text a lines b → a ≤ b
unfolding Passes
passes_order text a [] b far = far.order
passes_order text a (l ∷ ls) b far =
    let is : IsLine l.begin l = far.1.0 in
    let head : MayBeHead words_of_any_head text a l.begin = far.0 in
    omega (arith, head.order, is.head, is.label, is.words, is.title, is.moves, is.comment, passes_order text (l.end + end_size text l.end) ls b far.1.1.1.1.4)

pub between_order : (text : List ℕ) (a b : ℕ) → HasNoneBetween text a b → a ≤ b
between_order text a b far = passes_order text a far.0 b far.1

-- a line without moves
pub line_between : (text : List ℕ) (at size : ℕ) (line : TextLine) → IsLine at line → IsToldBy words_of_any_head text line → has_moves line ≡ false → line.end ≡ at + size →
    IsUnbroken text at size → IsEnd text line.end → HasNoneBetween text at (line.end + end_size text line.end)
unfolding Passes
line_between text at size line is told none end whole ended = (
  line ∷ [],
  subst (λ n. MayBeHead words_of_any_head text at n × (IsLine n line × (IsToldBy words_of_any_head text line × ((has_moves line ≡ false) × ((m : ℕ) × (line.end ≡ n + m)
      × IsUnbroken text n m × IsEnd text line.end × MayBeHead words_of_any_head text (line.end + end_size text line.end) (line.end + end_size text line.end))))))
      (sym is.begins) (head_none words_of_any_head text at, (is, (told, (none, (size, end, whole, ended, head_none words_of_any_head text (line.end + end_size text line.end)))))),
)

-- the head of a line
pub head_between : (text : List ℕ) (at size : ℕ) (line : TextLine) → IsLine at line → IsToldBy words_of_any_head text line → line.end ≡ at + size → IsUnbroken text at size →
    HasNoneBetween text at line.head_end
unfolding Passes
head_between text at size line is told end whole = (
  [],
  record {
    order = omega (arith, is.begins, is.head);
    unbroken = λ k lt. whole k (omega (arith, lt, end, is.label, is.words, is.title, is.moves, is.comment));
    words = subst (λ n. HasOnlyWords words_of_any_head (slice_range text n line.head_end)) is.begins told.kept.head;
  },
)

pub covers_order : (text : List ℕ) (from : ℕ) (lines : List TextLine) (to : ℕ) → CoversBy words_of_any_head text from lines to → from ≤ to
unfolding CoversBy
covers_order text from [] to same = omega (arith, same)
covers_order text from (l ∷ ls) to far =
    let is : IsLine from l = far.0 in
    omega (arith, is.begins, is.head, is.label, is.words, is.title, is.moves, is.comment, covers_order text (l.end + end_size text l.end) ls to far.1.1.4)

end_some : (text : List ℕ) (at : ℕ) → ends_line (get_or text at 0) ≡ true → 0 < end_size text at
end_some text at ends = by_bytes (get_or text at 0) (get_or text (at + 1) 0) ends
  where
    by_both : (a b : ℕ) (both : Bool) → 0 < (if both then 2 else 1)
    by_both a b true = omega arith
    by_both a b false = omega arith

    by_bytes : (a b : ℕ) → ends_line a ≡ true → 0 < end_of a b
    by_bytes a b is = subst (λ (t : Bool). 0 < (if t then (if (a == 13) && (b == 10) then 2 else 1) else 0)) (sym is) (by_both a b ((a == 13) && (b == 10)))

-- lines that are counted have bytes
pub counts_order : (text : List ℕ) (from count to : ℕ) → Counts text from count to → from ≤ to
unfolding Counts
counts_order text from zero to same = omega (arith, same)
counts_order text from (suc count) to far = omega (arith, counts_order text (from + far.1.0 + end_size text (from + far.1.0)) count to far.1.3)

counts_some : (text : List ℕ) (from count to : ℕ) → Counts text from (suc count) to → from < to
unfolding Counts
counts_some text from count to far = by_size far.1.0 far.1.2 (counts_order text (from + far.1.0 + end_size text (from + far.1.0)) count to far.1.3)
  where
    by_size : (size : ℕ) → IsEnd text (from + size) → from + size + end_size text (from + size) ≤ to → from < to
    by_size zero ends le =
        let here : from + 0 ≡ from = omega arith in
        let some : 0 < end_size text (from + 0) = end_some text (from + 0) (ends (omega (arith, far.0))) in
        omega (arith, le, some)
    by_size (suc size) ends le = omega (arith, le)

-- one line more, or none if the text ends there
pub count_line : (text : List ℕ) (from count at size next : ℕ) → Counts text from count at → next ≡ at + size + end_size text (at + size) → next ≤ length text →
    IsUnbroken text at size → IsEnd text (at + size) → (n : ℕ) × (n ≤ count + 1) × Counts text from n next
count_line text from count at size next far is within whole ended = by_place (cases_lt at (length text))
  where
    by_place : (at < length text) ⊎ (length text ≤ at) → (n : ℕ) × (n ≤ count + 1) × Counts text from n next
    by_place (inl lt) = (suc count, omega arith, subst (λ n. Counts text from (suc count) n) (sym is) (counts_more text from count at size far lt whole ended))
    by_place (inr le) =
        let same : at ≡ next = omega (arith, le, within, is) in
        (count, omega arith, subst (λ n. Counts text from count n) same far)

-- the line that stands in a text from a place on has one size
pub same_line : (text : List ℕ) (from a b : ℕ) → from + a ≤ length text → from + b ≤ length text → IsUnbroken text from a → IsEnd text (from + a) →
    IsUnbroken text from b → IsEnd text (from + b) → a ≡ b
same_line text from a b in_a in_b whole_a end_a whole_b end_b = by_size (cases_lt a b) (cases_lt b a)
  where
    by_size : (a < b) ⊎ (b ≤ a) → (b < a) ⊎ (a ≤ b) → a ≡ b
    by_size (inl less) _ = absurd (false≢true (sym (whole_b a less) ∙ end_a (omega (arith, less, in_b))))
    by_size (inr one) (inl less) = absurd (false≢true (sym (whole_a b less) ∙ end_b (omega (arith, less, in_a))))
    by_size (inr one) (inr two) = omega (arith, one, two)

-- one more of the lines up to an end, which is cut from the rest of the text
pub remain_next : (text : List ℕ) (all before now size whole end : ℕ) → now < end → end ≤ length text → now + size ≤ length text → IsUnbroken (drop now text) 0 size →
    IsEnd (drop now text) size → whole ≡ size + end_size (drop now text) size → Remain text all before now end → Remain text all (before + 1) (now + whole) end
unfolding Counts
remain_next text all before now size whole end lt within fits unbroken ends is far = by_rest far.0 far.1 far.2
  where
    there : now + size + end_size text (now + size) ≡ now + whole
    there = ap (λ n. now + size + n) (sym (end_size_at text now size)) ∙ sum ∙ ap (λ n. now + n) (sym is)
      where
        sum : now + size + end_size (drop now text) size ≡ now + (size + end_size (drop now text) size)
        sum = omega arith

    by_rest : (rest : ℕ) → before + rest ≡ all → Counts text now rest end → Remain text all (before + 1) (now + whole) end
    by_rest zero sum same = absurd (omega (arith, lt, same))
    by_rest (suc rest) sum counts =
        let inside : now + counts.1.0 ≤ length text =
        omega (arith, within, counts_order text (now + counts.1.0 + end_size text (now + counts.1.0)) rest end counts.1.3) in
        let same : counts.1.0 ≡ size =
        same_line text now counts.1.0 size inside fits counts.1.1 counts.1.2 (unbroken_at text now size unbroken) (ended_at text now size ends) in (
          rest,
          omega (arith, sum),
          subst (λ n. Counts text n rest end) there (subst (λ n. Counts text (now + n + end_size text (now + n)) rest end) same counts.1.3),
        )

-- all lines up to an end
pub remain_none : (text : List ℕ) (all before at end : ℕ) → Remain text all before at end → end ≤ at → (at ≡ end) × (before ≡ all)
unfolding Counts
remain_none text all before at end far le = by_rest far.0 far.1 far.2
  where
    by_rest : (rest : ℕ) → before + rest ≡ all → Counts text at rest end → (at ≡ end) × (before ≡ all)
    by_rest zero sum same = (same, omega (arith, sum))
    by_rest (suc rest) sum counts = absurd (omega (arith, le, counts_some text at rest end counts))

-- before the first line all of them remain
pub remain_all : (text : List ℕ) (all before at end : ℕ) → before ≡ 0 → at ≡ 0 → Counts text 0 all end → Remain text all before at end
remain_all text all before at end none begin far = (all, omega (arith, none), subst (λ n. Counts text n all end) (sym begin) far)
