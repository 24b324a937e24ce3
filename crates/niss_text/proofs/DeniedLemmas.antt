-- What words of a part of a text deny, sign by sign.
use Rattle.std.proofs.Common.{◌≡◌, ℕ, zero, suc, ◌+◌, ◌-◌, ◌<◌, ◌≤◌, ◌⊎◌, inl, inr, nat_lt, Bool, true, false, List, [], ◌∷◌, length, take, drop, map, get_or, slice_range, refl, sym, subst, ap, ◌∙◌, length-drop, arith}
use Rattle.std.specs.List.{Contains, list_all}
use Rattle.std.proofs.lemmas.Bool.{cases_lt, and_parts, false≢true}
use Rattle.std.proofs.lemmas.Bool.Decides.{nat_tests}
use Rattle.std.proofs.lemmas.List.{drop-drop, drop-take, get_or-drop, get_or-take, length-map, length-take-le}
use Rattle.niss_text.specs.Signs.{is_letter}
use Rattle.niss_text.specs.Doubts.{is_letter as is_plain_letter}
use Rattle.niss_text.specs.Kept.{small}
use Rattle.niss_text.specs.Said.{IsWordBefore, words_of_none, words_of_links}
unfoldable use Rattle.niss_text.specs.Said.{IsDenied}
use Rattle.niss_text.proofs.ListedWords.{among_one, among_none}
use Rattle.niss_text.proofs.SaidLemmas.{plain_letter}
use Rattle.niss_text.proofs.NamedLemmas.{are_letters, letters_word, none_are, links_are, word_places, none_denied}

-- words have less than twelve letters
unfoldable are_short : List (List ℕ) → Bool
are_short words = list_all (λ word. nat_lt (length word) 12) words

none_short : are_short words_of_none ≡ true
unfolding are_short
none_short = refl

links_short : are_short words_of_links ≡ true
unfolding are_short
links_short = refl

short_word : (words : List (List ℕ)) (word : List ℕ) → are_short words ≡ true → Contains words word → length word < 12
unfolding are_short
short_word [] word all is = absurd (among_none word is)
short_word (w ∷ ws) word all is = by_place (λ later. short_word ws word parts.1 later) (among_one w ws word is)
  where
    parts : (nat_lt (length w) 12 ≡ true) × (are_short ws ≡ true)
    parts = and_parts (nat_lt (length w) 12) (are_short ws) all

    by_place : (Contains ws word → length word < 12) → (word ≡ w) ⊎ Contains ws word → length word < 12
    by_place more (inl same) = subst (λ v. length v < 12) (sym same) (grind (arith, nat_tests, parts.0))
    by_place more (inr later) = more later

-- Letters up to a place begin a word, of which it is known whether it denies: at least if it is one of less than twelve letters.
pub record InWord (part : List ℕ) (at : ℕ) (is_denied : Bool) : Type 0 where
  pub begin : ℕ
  pub size : ℕ
  pub before : begin < at
  pub letters : (k : ℕ) → begin ≤ k → k < at → is_plain_letter (get_or part k 0) ≡ true
  pub first : 0 < begin → is_plain_letter (get_or part (begin - 1) 0) ≡ false
  pub word : (k : ℕ) → k < size → is_letter (get_or part (begin + k) 0) ≡ true
  pub ended : size < 12 → is_plain_letter (get_or part (begin + size) 0) ≡ false
  pub none : Contains words_of_none (map small (take size (drop begin part))) → is_denied ≡ true
  pub links : Contains words_of_links (map small (take size (drop begin part))) → (between : ℕ) → IsDenied between part begin → is_denied ≡ true

-- it is known at a place whether the words before it deny what stands there
pub record Knows (part : List ℕ) (at : ℕ) (is_denied : Bool) : Type 0 where
  pub at_word : (between : ℕ) → IsDenied between part at → is_denied ≡ true
  pub in_word : 0 < at → is_plain_letter (get_or part (at - 1) 0) ≡ true → InWord part at is_denied

pub knows_first : (part : List ℕ) (is_denied : Bool) → Knows part 0 is_denied
knows_first part is_denied = record {
  at_word = λ between is. absurd (none_denied part between is);
  in_word = λ some. absurd (omega (arith, some));
}

denied_blank : (part : List ℕ) (between at : ℕ) → IsDenied between part at → get_or part (at - 1) 0 ≡ 32
unfolding IsDenied
denied_blank part zero at is = is.1.blank
denied_blank part (suc between) at is = is.1.blank

one_back : (at : ℕ) → at + 1 - 1 ≡ at
one_back at = omega arith

-- The word before a blank is the one that letters up to it begin.
word_is : (words : List (List ℕ)) (part : List ℕ) (at from : ℕ) (is_denied : Bool) → are_letters words ≡ true → are_short words ≡ true →
    IsWordBefore words part from (at + 1) → (within : InWord part at is_denied) →
    (from ≡ within.begin) × Contains words (map small (take within.size (drop within.begin part)))
word_is words part at from is_denied all short word within = (start, subst (λ v. Contains words (map small v)) same word.is)
  where
    places : ((from + 1 < at + 1) × (at + 1 ≤ length part)) × ((k : ℕ) → from ≤ k → k + 1 < at + 1 → is_plain_letter (get_or part k 0) ≡ true)
    places = word_places words part from (at + 1) all word

    begin : ℕ
    begin = within.begin

    size : ℕ
    size = within.size

    blank : get_or part at 0 ≡ 32
    blank = ap (λ n. get_or part n 0) (sym (one_back at)) ∙ word.blank

    not_before : from < begin → ⊥
    not_before lt = false≢true (sym (within.first (omega (arith, lt))) ∙ places.1 (begin - 1) (omega (arith, lt)) (omega (arith, lt, within.before)))

    not_after : begin < from → ⊥
    not_after lt = false≢true (sym (word.before (omega (arith, lt)))
        ∙ plain_letter (get_or part (from - 1) 0) (within.letters (from - 1) (omega (arith, lt)) (omega (arith, lt, places.0.0))))

    start : from ≡ begin
    start = by_place (cases_lt from begin) (cases_lt begin from)
      where
        by_place : (from < begin) ⊎ (begin ≤ from) → (begin < from) ⊎ (from ≤ begin) → from ≡ begin
        by_place (inl lt) any = absurd (not_before lt)
        by_place (inr le) (inl lt) = absurd (not_after lt)
        by_place (inr le) (inr low) = omega (arith, le, low)

    long : length (slice_range part from (at + 1 - 1)) ≡ at - begin
    long = length-take-le (at + 1 - 1 - from) (drop from part) (omega (arith, length-drop from part, places.0.0, places.0.1)) ∙ omega (arith, start)

    few : at - begin < 12
    few = omega (arith, long, length-map (slice_range part from (at + 1 - 1)) small, short_word words (map small (slice_range part from (at + 1 - 1))) short word.is)

    not_less : begin + size < at → ⊥
    not_less lt = false≢true (sym (within.ended (omega (arith, lt, few))) ∙ within.letters (begin + size) (omega arith) lt)

    no_letter : (b : ℕ) → b ≡ 32 → is_letter b ≡ true → ⊥
    no_letter b is letter = grind (arith, nat_tests)

    not_more : at < begin + size → ⊥
    not_more lt =
        let there : begin + (at - begin) ≡ at = omega (arith, within.before) in
        no_letter (get_or part at 0) blank (subst (λ n. is_letter (get_or part n 0) ≡ true) there (within.word (at - begin) (omega (arith, lt, within.before))))

    whole : at - begin ≡ size
    whole = by_place (cases_lt (begin + size) at) (cases_lt at (begin + size))
      where
        by_place : (begin + size < at) ⊎ (at ≤ begin + size) → (at < begin + size) ⊎ (begin + size ≤ at) → at - begin ≡ size
        by_place (inl lt) any = absurd (not_less lt)
        by_place (inr le) (inl lt) = absurd (not_more lt)
        by_place (inr le) (inr low) = omega (arith, le, low)

    same : slice_range part from (at + 1 - 1) ≡ take size (drop begin part)
    same =
        let far : at + 1 - 1 - from ≡ size = omega (arith, whole, start) in
        ap (λ m. take m (drop from part)) far ∙ ap (λ m. take size (drop m part)) start

-- letters stand before the blank after a word
letter_before : (words : List (List ℕ)) (part : List ℕ) (at from : ℕ) → are_letters words ≡ true → IsWordBefore words part from (at + 1) →
    (0 < at) × (is_plain_letter (get_or part (at - 1) 0) ≡ true)
letter_before words part at from all word =
    let places = word_places words part from (at + 1) all word in
    (omega (arith, places.0.0), places.1 (at - 1) (omega (arith, places.0.0)) (omega (arith, places.0.0)))

denied_on : (part : List ℕ) (at : ℕ) (was is_denied : Bool) → Knows part at was → (get_or part at 0 ≡ 32 → is_denied ≡ was) →
    (between : ℕ) → IsDenied between part (at + 1) → is_denied ≡ true
unfolding IsDenied
denied_on part at was is_denied knows blank zero is =
    let before = letter_before words_of_none part at is.0 none_are is.1 in
    let within : InWord part at was = knows.in_word before.0 before.1 in
    blank (ap (λ n. get_or part n 0) (sym (one_back at)) ∙ is.1.blank) ∙ within.none (word_is words_of_none part at is.0 was none_are none_short is.1 within).1
denied_on part at was is_denied knows blank (suc between) is =
    let before = letter_before words_of_links part at is.0 links_are is.1 in
    let within : InWord part at was = knows.in_word before.0 before.1 in
    let word = word_is words_of_links part at is.0 was links_are links_short is.1 within in
    blank (ap (λ n. get_or part n 0) (sym (one_back at)) ∙ is.1.blank) ∙ within.links word.1 between (subst (λ n. IsDenied between part n) word.0 is.2)

-- after a sign that is no letter
pub knows_sign : (part : List ℕ) (at : ℕ) (was is_denied : Bool) → Knows part at was → is_plain_letter (get_or part at 0) ≡ false →
    (get_or part at 0 ≡ 32 → is_denied ≡ was) → Knows part (at + 1) is_denied
knows_sign part at was is_denied knows none blank = record {
  at_word = denied_on part at was is_denied knows blank;
  in_word = λ some letter. absurd (false≢true (sym none ∙ subst (λ n. is_plain_letter (get_or part n 0) ≡ true) (one_back at) letter));
}

not_blank : (part : List ℕ) (at : ℕ) → (get_or part at 0 ≡ 32 → ⊥) → (between : ℕ) → IsDenied between part (at + 1) → ⊥
not_blank part at other between is = other (ap (λ n. get_or part n 0) (sym (one_back at)) ∙ denied_blank part between (at + 1) is)

-- after one more sign of a word
pub knows_more : (part : List ℕ) (at : ℕ) (is_denied : Bool) → Knows part at is_denied → 0 < at → is_plain_letter (get_or part (at - 1) 0) ≡ true →
    (get_or part at 0 ≡ 32 → ⊥) → Knows part (at + 1) is_denied
knows_more part at is_denied knows some letter other = record {
  at_word = λ between is. absurd (not_blank part at other between is);
  in_word = λ more last.
      let within : InWord part at is_denied = knows.in_word some letter in
      record {
        begin = within.begin;
        size = within.size;
        before = omega (arith, within.before);
        letters = λ k low lt. by_place within k low lt (subst (λ n. is_plain_letter (get_or part n 0) ≡ true) (one_back at) last) (cases_lt k at);
        first = within.first;
        word = within.word;
        ended = within.ended;
        none = within.none;
        links = within.links;
      };
}
  where
    by_place : (within : InWord part at is_denied) (k : ℕ) → within.begin ≤ k → k < at + 1 → is_plain_letter (get_or part at 0) ≡ true →
        (k < at) ⊎ (at ≤ k) → is_plain_letter (get_or part k 0) ≡ true
    by_place within k low lt last (inl less) = within.letters k low less
    by_place within k low lt last (inr le) =
        let same : at ≡ k = omega (arith, lt, le) in
        subst (λ n. is_plain_letter (get_or part n 0) ≡ true) same last

-- after the first sign of a word
pub knows_begun : (part word : List ℕ) (at : ℕ) (was is_denied : Bool) → Knows part at was → (0 < at → is_plain_letter (get_or part (at - 1) 0) ≡ false) →
    (get_or part at 0 ≡ 32 → ⊥) → word ≡ take (length word) (drop at part) →
    ((k : ℕ) → k < length word → is_letter (get_or (drop at part) k 0) ≡ true) →
    (length word < 12 → is_plain_letter (get_or (drop at part) (length word) 0) ≡ false) →
    (Contains words_of_none (map small word) → is_denied ≡ true) →
    (was ≡ true → Contains words_of_links (map small word) → is_denied ≡ true) → Knows part (at + 1) is_denied
knows_begun part word at was is_denied knows before other is letters ended none links = record {
  at_word = λ between denied. absurd (not_blank part at other between denied);
  in_word = λ more last. record {
    begin = at;
    size = length word;
    before = omega arith;
    letters = λ k low lt.
        let same : at ≡ k = omega (arith, low, lt) in
        subst (λ n. is_plain_letter (get_or part n 0) ≡ true) same (subst (λ n. is_plain_letter (get_or part n 0) ≡ true) (one_back at) last);
    first = before;
    word = λ k lt. sym (ap is_letter (get_or-drop at part k 0)) ∙ letters k lt;
    ended = λ lt. sym (ap is_plain_letter (get_or-drop at part (length word) 0)) ∙ ended lt;
    none = λ has. none (subst (λ v. Contains words_of_none (map small v)) (sym is) has);
    links = λ has between denied. links (knows.at_word between denied) (subst (λ v. Contains words_of_links (map small v)) (sym is) has);
  };
}

-- a byte of a part of a text, and the rest of the part
part_byte : (text : List ℕ) (from to at : ℕ) → from ≤ at → at < to → get_or (slice_range text from to) (at - from) 0 ≡ get_or text at 0
part_byte text from to at low lt =
    let there : from + (at - from) ≡ at = omega (arith, low) in
    get_or-take (to - from) (drop from text) (at - from) 0 (omega (arith, low, lt)) ∙ get_or-drop from text (at - from) 0 ∙ ap (λ n. get_or text n 0) there

part_rest : (text : List ℕ) (from to at : ℕ) → from ≤ at → at < to → drop (at - from) (slice_range text from to) ≡ slice_range text at to
part_rest text from to at low lt =
    let split : to - from ≡ at - from + (to - at) = omega (arith, low, lt) in
    let there : from + (at - from) ≡ at = omega (arith, low) in
    ap (λ n. drop (at - from) (take n (drop from text))) split ∙ drop-take (at - from) (to - at) (drop from text)
    ∙ ap (λ v. take (to - at) v) (drop-drop (at - from) from text ∙ ap (λ n. drop n text) there)

first_byte : (text : List ℕ) (to at : ℕ) → at < to → get_or (slice_range text at to) 0 0 ≡ get_or text at 0
first_byte text to at lt =
    let none : at - at ≡ 0 = omega arith in
    subst (λ n. get_or (slice_range text at to) n 0 ≡ get_or text at 0) none (part_byte text at to at (omega arith) lt)

next_place : (from at : ℕ) → from ≤ at → at - from + 1 ≡ at + 1 - from
next_place from at low = omega (arith, low)

-- what is known of a part of a text one byte further, if that is no letter
pub sign_passed : (text : List ℕ) (from to at : ℕ) (was is_denied : Bool) → from ≤ at → at < to → Knows (slice_range text from to) (at - from) was →
    is_plain_letter (get_or text at 0) ≡ false → (get_or (slice_range text at to) 0 0 ≡ 32 → is_denied ≡ was) →
    Knows (slice_range text from to) (at + 1 - from) is_denied
sign_passed text from to at was is_denied low lt knows none blank =
    let here = part_byte text from to at low lt in
    subst (λ n. Knows (slice_range text from to) n is_denied) (next_place from at low)
    (knows_sign (slice_range text from to) (at - from) was is_denied knows (ap is_plain_letter here ∙ none)
    (λ is. blank (first_byte text to at lt ∙ sym here ∙ is)))

some_word : (words : List (List ℕ)) (word : List ℕ) → are_letters words ≡ true → Contains words (map small word) → 0 < length word
some_word words word all is = omega (arith, (letters_word words (map small word) all is).0, length-map word small)

-- and if it is one, or begins a sign beyond ASCII
pub letter_passed : (text word : List ℕ) (from to at : ℕ) (is_begun was is_denied : Bool) → from ≤ at → at < to → Knows (slice_range text from to) (at - from) was →
    (get_or text at 0 ≡ 32 → ⊥) → (is_begun ≡ true → from < at → is_plain_letter (get_or text (at - 1) 0) ≡ false) →
    (is_begun ≡ false → from ≤ at → (from < at) × (is_plain_letter (get_or text (at - 1) 0) ≡ true)) →
    word ≡ take (length word) (slice_range text at to) → ((k : ℕ) → k < length word → is_letter (get_or (slice_range text at to) k 0) ≡ true) →
    (length word < 12 → is_plain_letter (get_or (slice_range text at to) (length word) 0) ≡ false) → (is_begun ≡ false → is_denied ≡ was) →
    (is_begun ≡ true → 0 < length word → Contains words_of_none (map small word) → is_denied ≡ true) →
    (is_begun ≡ true → 0 < length word → was ≡ true → Contains words_of_links (map small word) → is_denied ≡ true) →
    Knows (slice_range text from to) (at + 1 - from) is_denied
letter_passed text word from to at true was is_denied low lt knows other begun within is letters ended stays none links =
    let part : List ℕ = slice_range text from to in
    let rest : slice_range text at to ≡ drop (at - from) part = sym (part_rest text from to at low lt) in
    subst (λ n. Knows part n is_denied) (next_place from at low)
    (knows_begun part word (at - from) was is_denied knows
    (λ some. ap is_plain_letter (before some) ∙ begun refl (omega (arith, some)))
    (λ blank. other (sym (part_byte text from to at low lt) ∙ blank)) (is ∙ ap (λ v. take (length word) v) rest)
    (λ k less. ap (λ v. is_letter (get_or v k 0)) (sym rest) ∙ letters k less)
    (λ less. ap (λ v. is_plain_letter (get_or v (length word) 0)) (sym rest) ∙ ended less)
    (λ has. none refl (some_word words_of_none word none_are has) has) (λ so has. links refl (some_word words_of_links word links_are has) so has))
  where
    before : 0 < at - from → get_or (slice_range text from to) (at - from - 1) 0 ≡ get_or text (at - 1) 0
    before some =
        let there : at - 1 - from ≡ at - from - 1 = omega (arith, some) in
        subst (λ n. get_or (slice_range text from to) n 0 ≡ get_or text (at - 1) 0) there (part_byte text from to (at - 1) (omega (arith, some)) (omega (arith, lt)))
letter_passed text word from to at false was is_denied low lt knows other begun within is letters ended stays none links =
    let part : List ℕ = slice_range text from to in
    let behind = within refl low in
    let there : at - 1 - from ≡ at - from - 1 = omega (arith, behind.0) in
    let before : get_or part (at - from - 1) 0 ≡ get_or text (at - 1) 0 =
    subst (λ n. get_or part n 0 ≡ get_or text (at - 1) 0) there (part_byte text from to (at - 1) (omega (arith, behind.0)) (omega (arith, lt))) in
    subst (λ n. Knows part n is_denied) (next_place from at low)
    (subst (λ d. Knows part (at - from + 1) d) (sym (stays refl))
    (knows_more part (at - from) was knows (omega (arith, behind.0)) (ap is_plain_letter before ∙ behind.1)
    (λ blank. other (sym (part_byte text from to at low lt) ∙ blank))))
