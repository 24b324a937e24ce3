-- What is passed in front of a text, one part after another.
use Rattle.std.proofs.Common.{◌≡◌, ℕ, zero, suc, ◌+◌, ◌-◌, ◌<◌, ◌≤◌, ◌⊎◌, inl, inr, Bool, true, false, ◌||◌, List, [], ◌∷◌, ◌++◌, length, take, drop, map, get_or, slice_range, refl, sym, subst, ap, ◌∙◌, rules, append_assoc, length-drop, arith}
use Rattle.std.specs.List.{All, Contains, concat, list_any}
use Rattle.std.proofs.Math.Seq.{take-add}
use Rattle.std.proofs.lemmas.Bool.Decides.{nat_tests}
use Rattle.std.proofs.lemmas.List.{drop-drop, drop-take, take-take, append-nil, get_or-take, length-take, length-take-le, get_or_default, take_all}
use Rattle.std.proofs.lemmas.List.Elements.{All-append}
use Rattle.std.proofs.lemmas.List.Folds.{list_any-append, list_any_none, concat-append}
use Rattle.niss_text.specs.Signs.{HasNoMoves, AreSigns, is_digit, is_spacing, ends_title, begins_count}
use Rattle.niss_text.proofs.SpacingLemmas.{signs_none, signs_joined, signs_more, signs_empty, spacing_ends}
use Rattle.niss_text.specs.Kept.{HasNoLetters, BeginNoMoves, HasOnlyWords, IsCount, IsTitleEnd, LosesNone, words_of_count, words_before_scramble, words_of_any_head, words_of_head, words_of_name, words_of_title, small}
unfoldable use Rattle.niss_text.specs.Signs.{is_of_moves}
unfoldable use Rattle.niss_text.specs.Kept.{spells, begins_moves}

-- none of some bytes and of others is such
pub none_joined : (test : ℕ → Bool) (first others : List ℕ) → list_any test first ≡ false → list_any test others ≡ false → list_any test (first ++ others) ≡ false
none_joined test first others none no_other = list_any-append test first others ∙ ap (λ v. v || list_any test others) none ∙ no_other

-- none of the bytes in front of a text, and none of those that follow
pub none_more : (test : ℕ → Bool) (text rest : List ℕ) (n m : ℕ) → list_any test (take n text) ≡ false → rest ≡ drop n text → list_any test (take m rest) ≡ false →
    list_any test (take (n + m) text) ≡ false
none_more test text rest n m none is no_other =
    ap (λ v. list_any test v) (take-add n m text)
    ∙ none_joined test (take n text) (take m (drop n text)) none (subst (λ v. list_any test (take m v) ≡ false) is no_other)

-- so much of a text is passed, and then more of what is left
pub passed_so_far : (text rest next : List ℕ) (size : ℕ) → length rest ≤ length text → rest ≡ drop (length text - length rest) text → size ≤ length rest → next ≡ drop size rest →
    (length next + size ≡ length rest) × (next ≡ drop (length text - length next) text)
passed_so_far text rest next size fits left within is =
    let long : length next + size ≡ length rest = omega (arith, ap length is, length-drop size rest, within) in
    let there : length text - length rest + size ≡ length text - length next = omega (arith, long, fits) in
    (long, is ∙ ap (λ v. drop size v) left ∙ drop-drop size (length text - length rest) text ∙ ap (λ n. drop n text) there)

pub passed_none : (test : ℕ → Bool) (text rest next : List ℕ) (size : ℕ) → length rest ≤ length text → rest ≡ drop (length text - length rest) text →
    size ≤ length rest → next ≡ drop size rest → list_any test (take (length text - length rest) text) ≡ false → list_any test (take size rest) ≡ false →
    list_any test (take (length text - length next) text) ≡ false
passed_none test text rest next size fits left within is none no_other =
    let far = passed_so_far text rest next size fits left within is in
    let there : length text - length rest + size ≡ length text - length next = omega (arith, far.0, fits) in
    subst (λ n. list_any test (take n text) ≡ false) there
    (none_more test text rest (length text - length rest) size none left no_other)

pub passed_signs : (test : List ℕ → Bool) (text rest next : List ℕ) (size : ℕ) → length rest ≤ length text → rest ≡ drop (length text - length rest) text →
    size ≤ length rest → next ≡ drop size rest → AreSigns test (take (length text - length rest) text) → AreSigns test (take size rest) →
    AreSigns test (take (length text - length next) text)
passed_signs test text rest next size fits left within is far more =
    let passed = passed_so_far text rest next size fits left within is in
    let there : length text - length rest + size ≡ length text - length next = omega (arith, passed.0, fits) in
    subst (λ n. AreSigns test (take n text)) there
    (signs_more test text (length text - length rest) size far (subst (λ v. AreSigns test (take size v)) left more))

-- what none is of that many, none is of fewer
none_fewer : (many few : ℕ → Bool) → ((b : ℕ) → many b ≡ false → few b ≡ false) → (bytes : List ℕ) → list_any many bytes ≡ false → list_any few bytes ≡ false
none_fewer many few less [] none = refl
none_fewer many few less (b ∷ bytes) none =
    let here : many b ≡ false = search (rules, none) in
    let later : list_any many bytes ≡ false = search (rules, none) in
    ap (λ v. v || list_any few bytes) (less b here) ∙ none_fewer many few less bytes later

spells_few : (b : ℕ) → begins_moves b ≡ false → spells b ≡ false
unfolding begins_moves spells
spells_few b none = search (rules, none)

begins_few : (b : ℕ) → is_of_moves b ≡ false → begins_moves b ≡ false
unfolding is_of_moves begins_moves spells
begins_few b none = grind (arith, nat_tests)

digit_few : (b : ℕ) → is_digit b ≡ true → begins_moves b ≡ false
unfolding begins_moves spells
digit_few b is = grind (arith, nat_tests)

pub begin_letters : (bytes : List ℕ) → BeginNoMoves bytes → HasNoLetters bytes
begin_letters bytes none = none_fewer begins_moves spells spells_few bytes none

pub moves_begin : (bytes : List ℕ) → HasNoMoves bytes → BeginNoMoves bytes
moves_begin bytes none = none_fewer is_of_moves begins_moves begins_few bytes none

pub digits_begin : (text : List ℕ) (n : ℕ) → n ≤ length text → ((k : ℕ) → k < n → is_digit (get_or text k 0) ≡ true) → BeginNoMoves (take n text)
digits_begin text n fits digits = list_any_none begins_moves (take n text) (λ k d lt.
    let low : k < n = omega (arith, lt, length-take-le n text fits) in
    let here : get_or (take n text) k d ≡ get_or text k 0 = get_or-take n text k d low ∙ get_or_default text k d 0 (omega (arith, low, fits)) in
    subst (λ b. begins_moves b ≡ false) (sym here) (digit_few (get_or text k 0) (digits k low)))

-- a byte in front of a text
pub one_first : (test : ℕ → Bool) (text : List ℕ) → test (get_or text 0 0) ≡ false → list_any test (take 1 text) ≡ false
one_first test [] none = refl
one_first test (b ∷ bytes) none = ap (λ v. v || false) none

all_one : (words : List (List ℕ)) (part : List ℕ) → HasNoLetters part ⊎ Contains words (map small part) →
    All (λ p. HasNoLetters p ⊎ Contains words (map small p)) (part ∷ [])
all_one words part is zero d lt = is
all_one words part is (suc k) d lt = absurd (omega arith)

pub only_none : (words : List (List ℕ)) (bytes : List ℕ) → HasNoLetters bytes → HasOnlyWords words bytes
only_none words bytes none = record {
  parts = bytes ∷ [];
  whole = append-nil bytes;
  each = all_one words bytes (inl none);
}

pub only_word : (words : List (List ℕ)) (bytes : List ℕ) → Contains words (map small bytes) → HasOnlyWords words bytes
only_word words bytes word = record {
  parts = bytes ∷ [];
  whole = append-nil bytes;
  each = all_one words bytes (inr word);
}

-- what has only some words has only those of more
only_wider : (words more : List (List ℕ)) → ((word : List ℕ) → Contains words word → Contains more word) → (bytes : List ℕ) → HasOnlyWords words bytes → HasOnlyWords more bytes
only_wider words more among bytes only = record {
  parts = only.parts;
  whole = only.whole;
  each = λ k none lt. wider (get_or only.parts k none) (only.each k none lt);
}
  where
    wider : (part : List ℕ) → HasNoLetters part ⊎ Contains words (map small part) → HasNoLetters part ⊎ Contains more (map small part)
    wider part (inl none) = inl none
    wider part (inr word) = inr (among (map small part) word)

pub any_head : (bytes : List ℕ) → HasOnlyWords words_of_head bytes → HasOnlyWords words_of_any_head bytes
any_head bytes only = only_wider words_of_head words_of_any_head (λ word is. (suc (suc is.0), omega (arith, is.1), is.2)) bytes only

title_of_head : (word : List ℕ) → Contains words_of_title word → Contains words_of_head word
title_of_head word (zero, lt, is) = (zero, omega arith, is)
title_of_head word (suc zero, lt, is) = (1, omega arith, is)
title_of_head word (suc (suc zero), lt, is) = (2, omega arith, is)
title_of_head word (suc (suc (suc zero)), lt, is) = (3, omega arith, is)
title_of_head word (suc (suc (suc (suc k))), lt, is) = absurd (omega (arith, lt))

pub title_head : (bytes : List ℕ) → HasOnlyWords words_of_title bytes → HasOnlyWords words_of_head bytes
title_head bytes only = only_wider words_of_title words_of_head title_of_head bytes only

before_title : (word : List ℕ) → Contains words_before_scramble word → Contains words_of_title word
before_title word (zero, lt, is) = (zero, omega arith, is)
before_title word (suc zero, lt, is) = (1, omega arith, is)
before_title word (suc (suc zero), lt, is) = (2, omega arith, is)
before_title word (suc (suc (suc k)), lt, is) = absurd (omega (arith, lt))

name_of_head : (word : List ℕ) → Contains words_of_name word → Contains words_of_any_head word
name_of_head word (zero, lt, is) = (zero, omega arith, is)
name_of_head word (suc zero, lt, is) = (1, omega arith, is)
name_of_head word (suc (suc k), lt, is) = absurd (omega (arith, lt))

pub name_word : (bytes : List ℕ) → Contains words_of_name (map small bytes) → HasOnlyWords words_of_any_head bytes
name_word bytes word = only_word words_of_any_head bytes (name_of_head (map small bytes) word)

-- a word before a scramble
pub title_word : (bytes : List ℕ) → Contains words_before_scramble (map small bytes) → HasOnlyWords words_of_title bytes
title_word bytes word = only_word words_of_title bytes (before_title (map small bytes) word)

pub only_joined : (words : List (List ℕ)) (first others : List ℕ) → HasOnlyWords words first → HasOnlyWords words others → HasOnlyWords words (first ++ others)
only_joined words first others a b = record {
  parts = a.parts ++ b.parts;
  whole = concat-append a.parts b.parts ∙ ap (λ v. v ++ concat b.parts) a.whole ∙ ap (λ v. first ++ v) b.whole;
  each = All-append (λ part. HasNoLetters part ⊎ Contains words (map small part)) a.parts b.parts a.each b.each;
}

pub only_more : (words : List (List ℕ)) (text : List ℕ) (n m : ℕ) → HasOnlyWords words (take n text) → HasOnlyWords words (take m (drop n text)) → HasOnlyWords words (take (n + m) text)
only_more words text n m a b = subst (λ v. HasOnlyWords words v) (sym (take-add n m text)) (only_joined words (take n text) (take m (drop n text)) a b)

bracket : (a b : ℕ) → begins_count a b ≡ true → spells a ≡ false
unfolding spells
bracket a b begins = grind (arith, nat_tests)

-- a number of moves: a bracket, digits, a total, a word, and a bracket
pub count_is : (text number total words close : List ℕ) (d t m e n : ℕ) → begins_count (get_or text 0 0) (get_or text 1 0) ≡ true → number ≡ drop 1 text → d ≤ length number →
    ((k : ℕ) → k < d → is_digit (get_or number k 0) ≡ true) → total ≡ drop d number → HasNoLetters (take t total) → words ≡ drop t total →
    HasOnlyWords words_of_count (take m words) → close ≡ drop m words → HasNoLetters (take e close) → 0 < d → n ≡ 1 + (d + (t + (m + e))) → IsCount (take n text)
count_is text number total words close d t m e n begins first fits digits second no_total third word last no_close some long =
    let w : List (List ℕ) = words_of_count in
    let end : HasOnlyWords w (take (m + e) words) = only_more w words m e word (subst (λ v. HasOnlyWords w (take e v)) last (only_none w (take e close) no_close)) in
    let said : HasOnlyWords w (take (t + (m + e)) total) =
    only_more w total t (m + e) (only_none w (take t total) no_total) (subst (λ v. HasOnlyWords w (take (m + e) v)) third end) in
    let counted : HasOnlyWords w (take (d + (t + (m + e))) number) =
    only_more w number d (t + (m + e)) (only_none w (take d number) (begin_letters (take d number) (digits_begin number d fits digits)))
    (subst (λ v. HasOnlyWords w (take (t + (m + e)) v)) second said) in
    let all : HasOnlyWords w (take (1 + (d + (t + (m + e)))) text) =
    only_more w text 1 (d + (t + (m + e))) (only_none w (take 1 text) (one_first spells text (bracket (get_or text 0 0) (get_or text 1 0) begins)))
    (subst (λ v. HasOnlyWords w (take (d + (t + (m + e))) v)) first counted) in (
      subst (λ a. begins_count a (get_or (take n text) 1 0) ≡ true) (sym (get_or-take n text 0 0 (omega (arith, long))))
          (subst (λ b. begins_count (get_or text 0 0) b ≡ true) (sym (get_or-take n text 1 0 (omega (arith, long)))) begins),
      subst (λ k. HasOnlyWords w (take k text)) (sym long) all,
    )

-- one byte in front of a text, or none
pub mark_none : (test : ℕ → Bool) (text : List ℕ) (n mark : ℕ) → (0 < n → take n text ≡ mark ∷ []) → test mark ≡ false → list_any test (take n text) ≡ false
mark_none test text zero mark is none = refl
mark_none test text (suc n) mark is none = ap (λ v. list_any test v) (is (omega arith)) ∙ ap (λ v. v || false) none

pub mark_begins : (text : List ℕ) (n mark : ℕ) → (0 < n → take n text ≡ mark ∷ []) → (mark ≡ 35) ⊎ ((mark ≡ 41) ⊎ (mark ≡ 46)) → BeginNoMoves (take n text)
unfolding begins_moves spells
mark_begins text n mark is (inl hash) = mark_none begins_moves text n mark is (ap begins_moves hash)
mark_begins text n mark is (inr (inl close)) = mark_none begins_moves text n mark is (ap begins_moves close)
mark_begins text n mark is (inr (inr point)) = mark_none begins_moves text n mark is (ap begins_moves point)

pub mark_spells : (text : List ℕ) (n mark : ℕ) → (0 < n → take n text ≡ mark ∷ []) → (mark ≡ 40) ⊎ ((mark ≡ 41) ⊎ ((mark ≡ 47) ⊎ (mark ≡ 93))) → HasNoLetters (take n text)
unfolding spells
mark_spells text n mark is (inl opened) = mark_none spells text n mark is (ap spells opened)
mark_spells text n mark is (inr (inl close)) = mark_none spells text n mark is (ap spells close)
mark_spells text n mark is (inr (inr (inl slash))) = mark_none spells text n mark is (ap spells slash)
mark_spells text n mark is (inr (inr (inr close))) = mark_none spells text n mark is (ap spells close)

-- a mark, digits, and what ends them
pub number_begins : (line number rest : List ℕ) (m d e : ℕ) → BeginNoMoves (take m line) → number ≡ drop m line → d ≤ length number →
    ((k : ℕ) → k < d → is_digit (get_or number k 0) ≡ true) → rest ≡ drop d number → BeginNoMoves (take e rest) → BeginNoMoves (take (m + d + e) line)
number_begins line number rest m d e mark first fits digits second end =
    let counted : BeginNoMoves (take (d + e) number) =
    none_more begins_moves number rest d e (digits_begin number d fits digits) second end in
    let there : m + (d + e) ≡ m + d + e = omega arith in
    subst (λ n. BeginNoMoves (take n line)) there (none_more begins_moves line number m (d + e) mark first counted)

pub number_words : (line number rest : List ℕ) (m d e : ℕ) → HasOnlyWords words_of_head (take m line) → number ≡ drop m line → d ≤ length number →
    ((k : ℕ) → k < d → is_digit (get_or number k 0) ≡ true) → rest ≡ drop d number → BeginNoMoves (take e rest) → HasOnlyWords words_of_head (take (m + d + e) line)
number_words line number rest m d e mark first fits digits second end =
    let counted : HasNoLetters (take (d + e) number) =
    begin_letters (take (d + e) number) (none_more begins_moves number rest d e (digits_begin number d fits digits) second end) in
    let there : m + (d + e) ≡ m + d + e = omega arith in
    subst (λ n. HasOnlyWords words_of_head (take n line)) there
    (only_more words_of_head line m (d + e) mark (subst (λ v. HasOnlyWords words_of_head (take (d + e) v)) first (only_none words_of_head (take (d + e) number) counted)))

-- a number of moves or none, blanks, and a colon
pub title_end : (line count after rest : List ℕ) (w c e n : ℕ) → count ≡ drop w line → w ≤ length line → c ≤ length count → (0 < c → IsCount (take c count)) → after ≡ drop c count →
    length rest ≤ length after → rest ≡ drop (length after - length rest) after → AreSigns is_spacing (take (length after - length rest) after) → e ≤ length rest →
    AreSigns ends_title (take e rest) → n ≡ length line - length rest + e → IsTitleEnd (slice_range line w n)
title_end line count after rest w c e n first within fits is second left last blanks close end long =
    let b : ℕ = length after - length rest in
    let signs : AreSigns ends_title (take (b + e) after) =
    signs_more ends_title after b e (spacing_ends (take b after) blanks) (subst (λ v. AreSigns ends_title (take e v)) last end) in
    let size : n - w ≡ c + (b + e) = omega (arith, long, ap length first, length-drop w line, ap length second, length-drop c count, fits, left, close, within) in
    record {
      count = take c count;
      rest = take (b + e) after;
      whole = ap (λ v. take c count ++ take (b + e) v) second ∙ sym (take-add c (b + e) count) ∙ ap (λ v. take (c + (b + e)) v) first
          ∙ ap (λ k. take k (drop w line)) (sym size);
      counted = by_some c is;
      empty = signs_empty ends_title (take (b + e) after) signs;
      signs = signs;
    }
  where
    by_some : (k : ℕ) → (0 < k → IsCount (take k count)) → (take k count ≡ []) ⊎ IsCount (take k count)
    by_some zero count_is = inl refl
    by_some (suc k) count_is = inr (count_is (omega arith))

pub title_none : (line : List ℕ) (at : ℕ) → IsTitleEnd (slice_range line at at)
title_none line at = record {
  count = [];
  rest = slice_range line at at;
  whole = refl;
  counted = inl refl;
  empty = subst (λ k. HasNoMoves (take k (drop at line))) same refl;
  signs = subst (λ k. AreSigns ends_title (take k (drop at line))) same (signs_none ends_title);
}
  where
    same : 0 ≡ at - at
    same = omega arith

-- one of some words in front of a text, or none
pub only_nth : (words : List (List ℕ)) (text : List ℕ) (n at : ℕ) → at < length words → (0 < n → map small (take n text) ≡ get_or words at []) → HasOnlyWords words (take n text)
only_nth words text zero at lt is = only_none words [] refl
only_nth words text (suc n) at lt is = only_word words (take (suc n) text) (at, lt, get_or_default words at (map small (take (suc n) text)) [] lt ∙ sym (is (omega arith)))

-- words, and more of them in what is left
pub only_then : (words : List (List ℕ)) (line rest : List ℕ) (n m : ℕ) → HasOnlyWords words (take n line) → rest ≡ drop n line → HasOnlyWords words (take m rest) →
    HasOnlyWords words (take (n + m) line)
only_then words line rest n m a is b = only_more words line n m a (subst (λ v. HasOnlyWords words (take m v)) is b)

pub only_begin : (words : List (List ℕ)) (bytes : List ℕ) → BeginNoMoves bytes → HasOnlyWords words bytes
only_begin words bytes none = only_none words bytes (begin_letters bytes none)

pub only_moves : (words : List (List ℕ)) (bytes : List ℕ) → HasNoMoves bytes → HasOnlyWords words bytes
only_moves words bytes none = only_begin words bytes (moves_begin bytes none)

pub digits_only : (words : List (List ℕ)) (text : List ℕ) (n : ℕ) → n ≤ length text → ((k : ℕ) → k < n → is_digit (get_or text k 0) ≡ true) → HasOnlyWords words (take n text)
digits_only words text n fits digits = only_begin words (take n text) (digits_begin text n fits digits)

-- a sign that moves aren't made of, or none
pub sign_begins : (text : List ℕ) (n : ℕ) → (0 < n → HasNoMoves (take n text)) → BeginNoMoves (take n text)
sign_begins text zero is = refl
sign_begins text (suc n) is = moves_begin (take (suc n) text) (is (omega arith))

-- a part of a part of a text is a part of it
pub part_within : (text : List ℕ) (a b c d : ℕ) → c ≤ d → d ≤ b - a → slice_range (slice_range text a b) c d ≡ slice_range text (a + c) (a + d)
part_within text a b c d order fits =
    let split : c + (b - a - c) ≡ b - a = omega (arith, order, fits) in
    let inner : drop c (slice_range text a b) ≡ take (b - a - c) (drop c (drop a text)) =
    ap (λ n. drop c (take n (drop a text))) (sym split) ∙ drop-take c (b - a - c) (drop a text) in
    let size : d - c ≡ a + d - (a + c) = omega arith in
    ap (λ v. take (d - c) v) inner ∙ take-take (d - c) (b - a - c) (drop c (drop a text)) (omega (arith, order, fits))
    ∙ ap (λ v. take (d - c) v) (drop-drop c a text) ∙ ap (λ n. take n (drop (a + c) text)) size

pub part_front : (text : List ℕ) (a b n : ℕ) → n ≤ b - a → take n (slice_range text a b) ≡ slice_range text a (a + n)
part_front text a b n fits =
    let size : n ≡ a + n - a = omega arith in
    take-take n (b - a) (drop a text) fits ∙ ap (λ k. take k (drop a text)) size

pub parts_joined : (text : List ℕ) (a b c : ℕ) → a ≤ b → b ≤ c → slice_range text a b ++ slice_range text b c ≡ slice_range text a c
parts_joined text a b c first second =
    let there : a + (b - a) ≡ b = omega (arith, first) in
    let size : (b - a) + (c - b) ≡ c - a = omega (arith, first, second) in
    ap (λ n. slice_range text a b ++ take (c - b) (drop n text)) (sym there)
    ∙ ap (λ v. slice_range text a b ++ take (c - b) v) (sym (drop-drop (b - a) a text)) ∙ sym (take-add (b - a) (c - b) (drop a text))
    ∙ ap (λ n. take n (drop a text)) size

pub title_more : (bytes blanks : List ℕ) → IsTitleEnd bytes → AreSigns is_spacing blanks → IsTitleEnd (bytes ++ blanks)
title_more bytes blanks is more = record {
  count = is.count;
  rest = is.rest ++ blanks;
  whole = sym (append_assoc is.count is.rest blanks) ∙ ap (λ v. v ++ blanks) is.whole;
  counted = is.counted;
  empty = none_joined is_of_moves is.rest blanks is.empty (signs_empty is_spacing blanks more);
  signs = signs_joined ends_title is.rest blanks is.signs (spacing_ends blanks more);
}

pub title_blank : (bytes : List ℕ) → AreSigns is_spacing bytes → IsTitleEnd bytes
title_blank bytes is = record {
  count = [];
  rest = bytes;
  whole = refl;
  counted = inl refl;
  empty = signs_empty is_spacing bytes is;
  signs = spacing_ends bytes is;
}

-- blanks after a label without a colon, or after what stands after it
pub blank_title : (line : List ℕ) (lead comment b : ℕ) → b ≤ comment - lead → AreSigns is_spacing (take b (slice_range line lead comment)) → IsTitleEnd (slice_range line lead (lead + b))
blank_title line lead comment b fits none =
    title_blank (slice_range line lead (lead + b)) (subst (λ v. AreSigns is_spacing v) (part_front line lead comment b fits) none)

-- what ends a label, and blanks after it
pub whole_title : (line : List ℕ) (begin slashes words title b comment : ℕ) → words ≤ title → title ≤ slashes - begin →
    IsTitleEnd (slice_range (slice_range line begin slashes) words title) → b ≤ comment - (begin + title) → AreSigns is_spacing (take b (slice_range line (begin + title) comment)) →
    IsTitleEnd (slice_range line (begin + words) (begin + title + b))
whole_title line begin slashes words title b comment order within is fits none =
    subst (λ v. IsTitleEnd v) (parts_joined line (begin + words) (begin + title) (begin + title + b) (omega (arith, order)) (omega arith))
    (title_more (slice_range line (begin + words) (begin + title)) (slice_range line (begin + title) (begin + title + b))
    (subst (λ v. IsTitleEnd v) (part_within line begin slashes words title order within) is)
    (subst (λ v. AreSigns is_spacing v) (part_front line (begin + title) comment b fits) none))

-- a text that begins with a byte has one
pub some_byte : (text : List ℕ) (byte : ℕ) → get_or text 0 0 ≡ byte → 0 < byte → 1 ≤ length text
some_byte [] byte is some = absurd (omega (arith, is, some))
some_byte (b ∷ bytes) byte is some = omega arith

pub part_long : (text : List ℕ) (a b : ℕ) → length (slice_range text a b) ≤ b - a
part_long text a b = omega (arith, length-take (b - a) (drop a text))

-- bytes in front of what is left of a text
pub part_of_rest : (text rest : List ℕ) (a n : ℕ) → rest ≡ drop a text → take n rest ≡ slice_range text a (a + n)
part_of_rest text rest a n is =
    let size : n ≡ a + n - a = omega arith in
    ap (λ v. take n v) is ∙ ap (λ k. take k (drop a text)) size

pub part_from_start : (text : List ℕ) (n : ℕ) → take n text ≡ slice_range text 0 n
part_from_start text n =
    let size : n ≡ n - 0 = omega arith in
    ap (λ k. take k text) size

-- a line of blanks
pub kept_blank : (line : List ℕ) (head label_begin label_end moves begin : ℕ) → head ≡ 0 → label_begin ≡ begin → label_end ≡ begin → moves ≡ begin → HasNoMoves (take begin line) →
    LosesNone words_of_head line 0 head label_begin label_end moves
kept_blank line head label_begin label_end moves begin no_head first second third none = record {
  head = subst (λ n. HasOnlyWords words_of_head (slice_range line 0 n)) (sym no_head) (only_none words_of_head [] refl);
  margin = subst (λ n. BeginNoMoves (slice_range line n label_begin)) (sym no_head) (subst (λ n. BeginNoMoves (slice_range line 0 n)) (sym first)
      (subst (λ v. BeginNoMoves v) (part_from_start line begin) (moves_begin (take begin line) none)));
  title = subst (λ n. IsTitleEnd (slice_range line n moves)) (sym (second ∙ sym third)) (title_none line moves);
}

-- a line with a head after its margin
pub kept_headed : (line rest : List ℕ) (begin n head label_begin label_end moves : ℕ) → head ≡ begin + n → HasNoMoves (take begin line) → rest ≡ drop begin line →
    HasOnlyWords words_of_head (take n rest) → BeginNoMoves (slice_range line (begin + n) label_begin) → IsTitleEnd (slice_range line label_end moves) →
    LosesNone words_of_head line 0 head label_begin label_end moves
kept_headed line rest begin n head label_begin label_end moves there none is words margin title = record {
  head = subst (λ k. HasOnlyWords words_of_head (slice_range line 0 k)) (sym there) (subst (λ v. HasOnlyWords words_of_head v) (part_from_start line (begin + n))
      (only_then words_of_head line rest begin n (only_moves words_of_head (take begin line) none) is words));
  margin = subst (λ k. BeginNoMoves (slice_range line k label_begin)) (sym there) margin;
  title = title;
}

-- a part of a line is a part of its text
pub part_of_line : (text : List ℕ) (now size a b : ℕ) → a ≤ b → b ≤ size → slice_range (take size (drop now text)) a b ≡ slice_range text (now + a) (now + b)
part_of_line text now size a b order fits =
    ap (λ v. slice_range v a b) (part_of_rest text (drop now text) now size refl) ∙ part_within text now (now + size) a b order (omega (arith, fits))

-- all of a line from a place on
pub rest_of_line : (text : List ℕ) (now size a : ℕ) → a ≤ size → size ≤ length (drop now text) → drop a (take size (drop now text)) ≡ slice_range text (now + a) (now + size)
rest_of_line text now size a fits within =
    let bytes : List ℕ = take size (drop now text) in
    sym (take_all (size - a) (drop a bytes) (omega (arith, length-drop a bytes, length-take-le size (drop now text) within)))
    ∙ part_of_line text now size a size fits (omega arith)
