-- A line of plain moves is one of those that are taken of a text.
use Rattle.std.proofs.Common.{◌≡◌, ℕ, zero, suc, ◌+◌, ◌-◌, ◌<◌, ◌≤◌, ◌⊎◌, inl, inr, ◌==◌, ◌||◌, ◌&&◌, Bool, true, false, if◌then◌else◌, List, [], ◌∷◌, length, take, drop, map, get_or, slice_range, refl, sym, subst, ap, ◌∙◌, rules, arith}
use Rattle.std.specs.List.{All, Contains, concat}
use Rattle.std.proofs.lemmas.Bool.{cases_lt, false≢true}
use Rattle.std.proofs.lemmas.Bool.Decides.{nat_tests}
use Rattle.std.proofs.lemmas.List.{get_or-take, get_or-drop}
use Rattle.std.proofs.lemmas.List.Elements.{All-head, All-tail}
use Rattle.niss_text.specs.declared.text_line.TextLine.{TextLine}
use Rattle.niss_text.specs.Signs.{ends_line}
use Rattle.niss_text.specs.Doubts.{is_capital, is_small}
use Rattle.niss_text.specs.Kept.{HasNoLetters, AreInNotation, ArePlain, ArePlainBefore, small, words_of_any_head}
use Rattle.niss_text.specs.Lines.{IsLine, IsToldBy, IsUnbroken, IsEnd, IsPlainLine, MayBeHead, TellsPlain, end_of, end_size, has_moves, Takes}
use Rattle.niss_text.proofs.CommentLemmas.{first_capital}
use Rattle.niss_text.proofs.PassedLemmas.{passes_order, same_line}
unfoldable use Rattle.niss_text.specs.Kept.{spells}
unfoldable use Rattle.niss_text.specs.Lines.{Passes, TakesBy}

small_capital : (b : ℕ) → is_capital b ≡ true → is_small (small b) ≡ true
small_capital b is = grind (arith, nat_tests)

never : (first b : ℕ) → is_small first ≡ false → is_capital b ≡ true → first ≡ small b → ⊥
never first b none is same = false≢true (sym none ∙ ap is_small same ∙ small_capital b is)

-- the words of a head begin with no capital letter of a move
word_never : (b : ℕ) (bytes : List ℕ) → is_capital b ≡ true → Contains words_of_any_head (small b ∷ bytes) → ⊥
word_never b bytes is (zero, lt, same) = never 99 b refl is (ap (λ w. get_or w 0 0) same)
word_never b bytes is (suc zero, lt, same) = never 115 b refl is (ap (λ w. get_or w 0 0) same)
word_never b bytes is (suc (suc zero), lt, same) = never 115 b refl is (ap (λ w. get_or w 0 0) same)
word_never b bytes is (suc (suc (suc zero)), lt, same) = never 97 b refl is (ap (λ w. get_or w 0 0) same)
word_never b bytes is (suc (suc (suc (suc zero))), lt, same) = never 101 b refl is (ap (λ w. get_or w 0 0) same)
word_never b bytes is (suc (suc (suc (suc (suc zero)))), lt, same) = never 111 b refl is (ap (λ w. get_or w 0 0) same)
word_never b bytes is (suc (suc (suc (suc (suc (suc zero))))), lt, same) = never 101 b refl is (ap (λ w. get_or w 0 0) same)
word_never b bytes is (suc (suc (suc (suc (suc (suc (suc k)))))), lt, same) = absurd (omega (arith, lt))

letter_never : (b : ℕ) (bytes : List ℕ) → is_capital b ≡ true → HasNoLetters (b ∷ bytes) → ⊥
unfolding spells
letter_never b bytes capital none = never b capital (search (rules, none))
  where
    never : (a : ℕ) → is_capital a ≡ true → spells a ≡ false → ⊥
    never a is not = grind (arith, nat_tests)

parts_never : (parts : List (List ℕ)) (bytes : List ℕ) → concat parts ≡ bytes → All (λ part. HasNoLetters part ⊎ Contains words_of_any_head (map small part)) parts →
    is_capital (get_or bytes 0 0) ≡ true → ⊥
parts_never [] bytes whole each capital = false≢true (ap (λ v. is_capital (get_or v 0 0)) whole ∙ capital)
parts_never ([] ∷ ps) bytes whole each capital =
    parts_never ps bytes whole (All-tail (λ part. HasNoLetters part ⊎ Contains words_of_any_head (map small part)) [] ps each) capital
parts_never ((b ∷ bs) ∷ ps) bytes whole each capital =
    by_part (All-head (λ part. HasNoLetters part ⊎ Contains words_of_any_head (map small part)) (b ∷ bs) ps each)
  where
    first : is_capital b ≡ true
    first = ap (λ v. is_capital (get_or v 0 0)) whole ∙ capital

    by_part : HasNoLetters (b ∷ bs) ⊎ Contains words_of_any_head (map small (b ∷ bs)) → ⊥
    by_part (inl none) = letter_never b bs first none
    by_part (inr word) = word_never b (map small bs) first word

-- the bytes of what ends a line
end_bytes : (text : List ℕ) (at k : ℕ) → k < end_size text at → ends_line (get_or text (at + k) 0) ≡ true
end_bytes text at k lt = by_first (get_or text at 0) (get_or text (at + 1) 0) refl refl lt
  where
    at_first : (a : ℕ) → get_or text at 0 ≡ a → ends_line a ≡ true → k ≡ 0 → ends_line (get_or text (at + k) 0) ≡ true
    at_first a is ends none =
        let here : at + k ≡ at = omega (arith, none) in
        ap (λ n. ends_line (get_or text n 0)) here ∙ ap (λ n. ends_line n) is ∙ ends

    by_two : (a b : ℕ) → get_or text at 0 ≡ a → get_or text (at + 1) 0 ≡ b → ends_line a ≡ true → (t : Bool) → ((a == 13) && (b == 10)) ≡ t →
        k < (if t then 2 else 1) → ends_line (get_or text (at + k) 0) ≡ true
    by_two a b first second ends false both less = at_first a first ends (omega (arith, less))
    by_two a b first second ends true both less = by_place (cases_lt 0 k)
      where
        feed : (c d : ℕ) → ((c == 13) && (d == 10)) ≡ true → ends_line d ≡ true
        feed c d is = grind (arith, nat_tests)

        by_place : (0 < k) ⊎ (k ≤ 0) → ends_line (get_or text (at + k) 0) ≡ true
        by_place (inl more) =
            let here : at + k ≡ at + 1 = omega (arith, more, less) in
            ap (λ n. ends_line (get_or text n 0)) here ∙ ap (λ n. ends_line n) second ∙ feed a b both
        by_place (inr none) = at_first a first ends (omega (arith, none))

    by_ends : (a b : ℕ) → get_or text at 0 ≡ a → get_or text (at + 1) 0 ≡ b → (t : Bool) → ends_line a ≡ t →
        k < (if t then (if (a == 13) && (b == 10) then 2 else 1) else 0) → ends_line (get_or text (at + k) 0) ≡ true
    by_ends a b first second true ends less = by_two a b first second ends ((a == 13) && (b == 10)) refl less
    by_ends a b first second false ends less = absurd (omega (arith, less))

    by_first : (a b : ℕ) → get_or text at 0 ≡ a → get_or text (at + 1) 0 ≡ b → k < end_of a b → ends_line (get_or text (at + k) 0) ≡ true
    by_first a b first second less = by_ends a b first second (ends_line a) refl less

ends_never : (b : ℕ) → is_capital b ≡ true → ends_line b ≡ true → ⊥
ends_never b is ends = grind (arith, nat_tests)

stands : (text : List ℕ) (at : ℕ) → is_capital (get_or text at 0) ≡ true → at < length text
stands [] at capital = absurd (false≢true capital)
stands (b ∷ text) zero capital = omega arith
stands (b ∷ text) (suc at) capital = omega (arith, stands text at capital)

capital_first : (text : List ℕ) (begin end : ℕ) → ArePlain (slice_range text begin end) ⊎ ((count : ℕ) × ArePlainBefore (slice_range text begin end) count) →
    is_capital (get_or (slice_range text begin end) 0 0) ≡ true
capital_first text begin end (inl plain) = plain.first
capital_first text begin end (inr before) = first_capital (slice_range text begin end) before.0 before.1.moves

capital_at : (text : List ℕ) (begin end : ℕ) → is_capital (get_or (slice_range text begin end) 0 0) ≡ true → (begin < end) × (is_capital (get_or text begin 0) ≡ true)
capital_at text begin end capital = by_size (end - begin) refl
  where
    by_size : (size : ℕ) → end - begin ≡ size → (begin < end) × (is_capital (get_or text begin 0) ≡ true)
    by_size zero none = absurd (false≢true (ap (λ n. is_capital (get_or (take n (drop begin text)) 0 0)) (sym none) ∙ capital))
    by_size (suc size) some =
        let here : begin + 0 ≡ begin = omega arith in (
          omega (arith, some),
          ap (λ n. is_capital (get_or text n 0)) (sym here) ∙ ap (λ b. is_capital b) (sym (get_or-drop begin text 0 0))
              ∙ ap (λ b. is_capital b) (sym (get_or-take (end - begin) (drop begin text) 0 0 (omega (arith, some)))) ∙ capital,
        )

-- what holds a line's first byte in a line holds no other byte before it
at_begin : (text : List ℕ) (begin end from size : ℕ) → IsPlainLine text begin end → IsUnbroken text from size → from ≤ begin → begin < from + size → from ≡ begin
at_begin text begin end from size is whole low less = by_place (cases_lt from begin) is.first
  where
    by_place : (from < begin) ⊎ (begin ≤ from) → (begin ≡ 0) ⊎ ((k : ℕ) × (begin ≡ k + 1) × (ends_line (get_or text k 0) ≡ true)) → from ≡ begin
    by_place (inr high) _ = omega (arith, low, high)
    by_place (inl later) (inl none) = absurd (omega (arith, later, none))
    by_place (inl later) (inr before) =
        let there : from + (before.0 - from) ≡ before.0 = omega (arith, later, before.1) in
        absurd (false≢true (sym (whole (before.0 - from) (omega (arith, later, less, before.1))) ∙ ap (λ n. ends_line (get_or text n 0)) there ∙ before.2))

head_never : (text : List ℕ) (begin end from to : ℕ) → IsPlainLine text begin end → MayBeHead words_of_any_head text from to → from ≤ begin → begin < to → ⊥
head_never text begin end from to is head low less =
    let same : from ≡ begin = at_begin text begin end from (to - from) is head.unbroken low (omega (arith, low, less)) in
    let first = (capital_at text begin end (capital_first text begin end is.plain)).1 in
    let here : begin + 0 ≡ begin = omega arith in
    let capital : is_capital (get_or (slice_range text from to) 0 0) ≡ true =
    ap (λ b. is_capital b) (get_or-take (to - from) (drop from text) 0 0 (omega (arith, low, less))) ∙ ap (λ b. is_capital b) (get_or-drop from text 0 0)
    ∙ ap (λ n. is_capital (get_or text (n + 0) 0)) same ∙ ap (λ n. is_capital (get_or text n 0)) here ∙ first in
    parts_never head.words.parts (slice_range text from to) head.words.whole head.words.each capital

-- the end of a line in which a line's first byte stands
same_end : (text : List ℕ) (begin end size : ℕ) (line : TextLine) → IsPlainLine text begin end → line.begin ≡ begin → line.end ≡ line.begin + size →
    IsUnbroken text line.begin size → IsEnd text line.end → line.end ≤ length text → line.end ≡ end
same_end text begin end size line is same ends whole ended within =
    let order : begin < end = (capital_at text begin end (capital_first text begin end is.plain)).0 in
    let there : begin + (end - begin) ≡ end = omega (arith, order) in
    let here : line.end ≡ begin + size = omega (arith, ends, same) in
    let size_is : size ≡ end - begin = same_line text begin size (end - begin) (omega (arith, within, here)) (omega (arith, is.within, there))
    (subst (λ n. IsUnbroken text n size) same whole) (subst (λ n. IsEnd text n) here ended) is.unbroken (subst (λ n. IsEnd text n) (sym there) is.ended) in
    omega (arith, here, size_is, order)

-- a line of plain moves has moves, as it is told
told_moves : (text : List ℕ) (begin end : ℕ) (line : TextLine) → IsPlainLine text begin end → IsToldBy words_of_any_head text line → line.begin ≡ begin →
    line.end ≡ end → has_moves line ≡ false → ⊥
told_moves text begin end line is told same ends none = by_plain is.plain
  where
    bytes : slice_range text begin end ≡ slice_range text line.begin line.end
    bytes = ap (λ n. slice_range text n end) (sym same) ∙ ap (λ n. slice_range text line.begin n) (sym ends)

    never : (kind : ℕ) → (kind ≡ 2) ⊎ (kind ≡ 3) → ((kind == 2) || (kind == 3)) ≡ false → ⊥
    never kind (inl two) none = false≢true (sym none ∙ ap (λ k. (k == 2) || (k == 3)) two)
    never kind (inr three) none = false≢true (sym none ∙ ap (λ k. (k == 2) || (k == 3)) three)

    by_plain : ArePlain (slice_range text begin end) ⊎ ((count : ℕ) × ArePlainBefore (slice_range text begin end) count) → ⊥
    by_plain (inl plain) = never line.kind (told.plain (subst (λ v. AreInNotation v) bytes plain.moves)).0 none
    by_plain (inr before) = never line.kind (told.commented before.0 (subst (λ v. ArePlainBefore v before.0) bytes before.1)).0 none

-- a line's first byte is none of what ends one
no_end : (text : List ℕ) (begin end at : ℕ) → IsPlainLine text begin end → at ≤ begin → begin < at + end_size text at → ⊥
no_end text begin end at is low less =
    let there : at + (begin - at) ≡ begin = omega (arith, low) in
    ends_never (get_or text begin 0) (capital_at text begin end (capital_first text begin end is.plain)).1
    (ap (λ n. ends_line (get_or text n 0)) (sym there) ∙ end_bytes text at (begin - at) (omega (arith, low, less)))

passes_never : (text : List ℕ) (begin end from : ℕ) (lines : List TextLine) (to : ℕ) → IsPlainLine text begin end → Passes words_of_any_head text from lines to → to ≤ length text →
    from ≤ begin → begin < to → ⊥
unfolding Passes
passes_never text begin end from [] to is far within low less = head_never text begin end from to is far low less
passes_never text begin end from (l ∷ ls) to is far within low less =
    by_place (passes_never text begin end (l.end + end_size text l.end) ls to is far.1.1.1.1.4 within) (cases_lt begin l.begin) (cases_lt begin l.end)
    (cases_lt begin (l.end + end_size text l.end))
  where
    next : l.end + end_size text l.end ≤ to
    next = passes_order text (l.end + end_size text l.end) ls to far.1.1.1.1.4

    by_place : (l.end + end_size text l.end ≤ begin → begin < to → ⊥) → (begin < l.begin) ⊎ (l.begin ≤ begin) → (begin < l.end) ⊎ (l.end ≤ begin) →
        (begin < l.end + end_size text l.end) ⊎ (l.end + end_size text l.end ≤ begin) → ⊥
    by_place later (inl before) _ _ = head_never text begin end from l.begin is far.0 low before
    by_place later (inr one) (inl two) _ =
        let same : l.begin ≡ begin = at_begin text begin end l.begin far.1.1.1.1.0 is far.1.1.1.1.2 one (omega (arith, two, far.1.1.1.1.1)) in
        told_moves text begin end l is far.1.1.0 same
        (same_end text begin end far.1.1.1.1.0 l is same far.1.1.1.1.1 far.1.1.1.1.2 far.1.1.1.1.3 (omega (arith, next, within))) far.1.1.1.0
    by_place later (inr one) (inr two) (inl three) = no_end text begin end l.end is two three
    by_place later (inr one) (inr two) (inr behind) = later behind less

-- the place of a line of plain moves among lines
abbrev pub FindsLine : List TextLine → (begin end : ℕ) → Type 0
FindsLine lines begin end = (k : ℕ) × (k < length lines) × ((none : TextLine) → ((get_or lines k none).begin ≡ begin) × ((get_or lines k none).end ≡ end))

takes_low : (text : List ℕ) (from : ℕ) (lines : List TextLine) (to : ℕ) → Takes text from lines to → from ≤ to
unfolding TakesBy
takes_low text from [] to far = passes_order text from far.0 to far.1
takes_low text from (l ∷ ls) to far =
    let is : IsLine l.begin l = far.1.0 in
    omega (
      arith,
      passes_order text from far.0.0 l.begin far.0.1,
      is.head,
      is.label,
      is.words,
      is.title,
      is.moves,
      is.comment,
      takes_low text (l.end + end_size text l.end) ls to far.1.1.1.4,
    )

takes_finds : (text : List ℕ) (begin end from : ℕ) (lines : List TextLine) (to : ℕ) → IsPlainLine text begin end → Takes text from lines to → to ≤ length text →
    from ≤ begin → begin < to → FindsLine lines begin end
unfolding TakesBy
takes_finds text begin end from [] to is far within low less = absurd (passes_never text begin end from far.0 to is far.1 within low less)
takes_finds text begin end from (l ∷ ls) to is far within low less =
    by_place (takes_finds text begin end (l.end + end_size text l.end) ls to is far.1.1.1.4 within) (cases_lt begin l.begin) (cases_lt begin l.end)
    (cases_lt begin (l.end + end_size text l.end))
  where
    next : l.end + end_size text l.end ≤ to
    next = takes_low text (l.end + end_size text l.end) ls to far.1.1.1.4

    line : IsLine l.begin l
    line = far.1.0

    by_place : (l.end + end_size text l.end ≤ begin → begin < to → FindsLine ls begin end) → (begin < l.begin) ⊎ (l.begin ≤ begin) →
        (begin < l.end) ⊎ (l.end ≤ begin) → (begin < l.end + end_size text l.end) ⊎ (l.end + end_size text l.end ≤ begin) → FindsLine (l ∷ ls) begin end
    by_place later (inl before) _ _ = absurd (passes_never text begin end from far.0.0 l.begin is far.0.1
        (omega (arith, line.head, line.label, line.words, line.title, line.moves, line.comment, next, within)) low before)
    by_place later (inr one) (inl two) _ =
        let same : l.begin ≡ begin = at_begin text begin end l.begin far.1.1.1.0 is far.1.1.1.2 one (omega (arith, two, far.1.1.1.1)) in
        let ends : l.end ≡ end = same_end text begin end far.1.1.1.0 l is same far.1.1.1.1 far.1.1.1.2 far.1.1.1.3 (omega (arith, next, within)) in
        (0, omega arith, λ none. (same, ends))
    by_place later (inr one) (inr two) (inl three) = absurd (no_end text begin end l.end is two three)
    by_place later (inr one) (inr two) (inr behind) =
        let found : FindsLine ls begin end = later behind less in
        (suc found.0, omega (arith, found.1), found.2)

pub tells_plain : (text : List ℕ) (lines : List TextLine) → Takes text 0 lines (length text) → TellsPlain text lines
tells_plain text lines takes begin end is =
    takes_finds text begin end 0 lines (length text) is takes (omega arith) (omega arith)
    (stands text begin (capital_at text begin end (capital_first text begin end is.plain)).1)
