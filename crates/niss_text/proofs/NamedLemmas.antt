-- Words that are named, and not denied.
use Rattle.std.proofs.Common.{◌≡◌, ℕ, zero, suc, ◌+◌, ◌-◌, ◌<◌, ◌≤◌, ◌⊎◌, inl, inr, ◌&&◌, nat_lt, Bool, true, false, List, [], ◌∷◌, length, take, drop, map, get_or, slice_range, refl, sym, subst, ap, ◌∙◌, length-drop, arith}
use Rattle.std.specs.List.{Contains, list_all}
use Rattle.std.proofs.lemmas.Bool.{cases_lt, and_parts, false≢true}
use Rattle.std.proofs.lemmas.Bool.Decides.{nat_tests}
use Rattle.std.specs.Prelude.{codes}
use Rattle.std.proofs.lemmas.List.Elements.{Contains-append_left}
use Rattle.std.proofs.lemmas.List.{take-take, get_or-drop, get_or-take, length-take, length-take-le, length-map, get_or-map}
use Rattle.niss_text.specs.Signs.{is_letter, is_within}
use Rattle.niss_text.specs.Doubts.{is_letter as is_plain_letter}
use Rattle.niss_text.specs.Kept.{small}
use Rattle.niss_text.specs.Said.{HasWord, IsWordBefore, Names, SaysSolution, words_of_none, words_of_links, words_of_denial, words_of_solution, words_of_step}
unfoldable use Rattle.niss_text.specs.Said.{IsDenied}
use Rattle.niss_text.proofs.WordLemmas.{beyond}
use Rattle.niss_text.proofs.ListedWords.{among_one, among_none}
use Rattle.niss_text.proofs.SaidLemmas.{said_longer, plain_of_small, each_at}

-- a label that says so in its words does so with what follows them
pub solution_longer : (line : List ℕ) (begin end longer : ℕ) → begin ≤ end → end ≤ longer → longer ≤ length line →
    (end < longer → is_plain_letter (get_or line end 0) ≡ false) → SaysSolution (slice_range line begin end) → SaysSolution (slice_range line begin longer)
solution_longer line begin end longer order more within apart has =
    let word : HasWord is_plain_letter words_of_solution (slice_range line begin end) = has.said in
    let short : length (slice_range line begin end) ≡ end - begin =
    length-take-le (end - begin) (drop begin line) (omega (arith, length-drop begin line, more, within)) in
    let front : take word.at (slice_range line begin longer) ≡ take word.at (slice_range line begin end) =
    take-take word.at (longer - begin) (drop begin line) (omega (arith, word.fits, short, more))
    ∙ sym (take-take word.at (end - begin) (drop begin line) (omega (arith, word.fits, short))) in
    let far = said_longer words_of_solution line begin end longer order more within apart word in
    let same : take far.0.at (slice_range line begin longer) ≡ take word.at (slice_range line begin end) =
    ap (λ n. take n (slice_range line begin longer)) far.1 ∙ front in
    record { said = far.0; of_none = λ step. has.of_none (subst (λ v. HasWord is_letter words_of_step v) same step) }

-- words have letters alone, and one at least
unfoldable pub are_letters : List (List ℕ) → Bool
are_letters words = list_all (λ word. nat_lt 0 (length word) && list_all (is_within 97 122) word) words

pub none_are : are_letters words_of_none ≡ true
unfolding are_letters
none_are = refl

pub links_are : are_letters words_of_links ≡ true
unfolding are_letters
links_are = refl

pub letters_word : (words : List (List ℕ)) (word : List ℕ) → are_letters words ≡ true → Contains words word → (0 < length word) × (list_all (is_within 97 122) word ≡ true)
unfolding are_letters
letters_word [] word all is = absurd (among_none word is)
letters_word (w ∷ ws) word all is = by_place (λ later. letters_word ws word parts.1 later) (among_one w ws word is)
  where
    parts : ((nat_lt 0 (length w) && list_all (is_within 97 122) w) ≡ true) × (are_letters ws ≡ true)
    parts = and_parts (nat_lt 0 (length w) && list_all (is_within 97 122) w) (are_letters ws) all

    by_place : (Contains ws word → (0 < length word) × (list_all (is_within 97 122) word ≡ true)) → (word ≡ w) ⊎ Contains ws word →
        (0 < length word) × (list_all (is_within 97 122) word ≡ true)
    by_place more (inl same) =
        let own = and_parts (nat_lt 0 (length w)) (list_all (is_within 97 122) w) parts.0 in
        subst (λ v. (0 < length v) × (list_all (is_within 97 122) v ≡ true)) (sym same) (grind (arith, nat_tests, own.0), own.1)
    by_place more (inr later) = more later

-- what stands before a blank is a word of one letter at least, all letters of ASCII
pub word_places : (words : List (List ℕ)) (text : List ℕ) (from at : ℕ) → are_letters words ≡ true → IsWordBefore words text from at →
    ((from + 1 < at) × (at ≤ length text)) × ((k : ℕ) → from ≤ k → k + 1 < at → is_plain_letter (get_or text k 0) ≡ true)
word_places words text from at all word = ((omega (arith, long), within), λ k low lt. letter k low lt)
  where
    part : List ℕ
    part = slice_range text from (at - 1)

    own : (0 < length (map small part)) × (list_all (is_within 97 122) (map small part) ≡ true)
    own = letters_word words (map small part) all word.is

    some : 0 < length part
    some = omega (arith, own.0, length-map part small)

    long : 0 < at - 1 - from
    long = omega (arith, some, length-take (at - 1 - from) (drop from text))

    within : at ≤ length text
    within = by_end (cases_lt (at - 1) (length text))
      where
        by_end : (at - 1 < length text) ⊎ (length text ≤ at - 1) → at ≤ length text
        by_end (inl lt) = omega (arith, lt, long)
        by_end (inr le) = absurd (omega (arith, word.blank, beyond text (at - 1) le))

    size : length part ≡ at - 1 - from
    size = length-take-le (at - 1 - from) (drop from text) (omega (arith, length-drop from text, within, long))

    letter : (k : ℕ) → from ≤ k → k + 1 < at → is_plain_letter (get_or text k 0) ≡ true
    letter k low lt =
        let there : from + (k - from) ≡ k = omega (arith, low) in
        let inside : k - from < length part = omega (arith, low, lt, size) in
        let here : get_or part (k - from) 0 ≡ get_or text k 0 =
        get_or-take (at - 1 - from) (drop from text) (k - from) 0 (omega (arith, low, lt)) ∙ get_or-drop from text (k - from) 0 ∙ ap (λ m. get_or text m 0) there in
        sym (ap is_plain_letter here) ∙ plain_of_small (get_or part (k - from) 0) (subst (λ b. is_within 97 122 b ≡ true) (get_or-map small part (k - from) 0 0 inside)
        (each_at (map small part) (k - from) (omega (arith, inside, length-map part small)) own.1))

-- The word before a blank that ends letters and a sign is those letters, and the sign is that blank.
pub record IsLast (words : List (List ℕ)) (rest : List ℕ) (from i l s : ℕ) : Type 0 where
  pub here : from ≡ i
  pub some : 0 < l
  pub is : Contains words (map small (take l rest))
  pub blank : get_or rest l 0 ≡ 32
  pub one : s ≤ 1

word_last : (words : List (List ℕ)) (text rest : List ℕ) (i l s at from : ℕ) → are_letters words ≡ true → rest ≡ drop i text → at ≡ i + (l + s) → 0 < s →
    ((k : ℕ) → k < l → is_letter (get_or rest k 0) ≡ true) → is_plain_letter (get_or rest l 0) ≡ false →
    ((k : ℕ) → 0 < k → k < s → is_plain_letter (get_or rest (l + k) 0) ≡ false) → (0 < i → is_plain_letter (get_or text (i - 1) 0) ≡ false) →
    IsWordBefore words text from at → IsLast words rest from i l s
word_last words text rest i l s at from all left end some letters ended inner before word = record {
  here = start;
  some = omega (arith, start, single, places.0.0, end);
  is = subst (λ v. Contains words (map small v)) same word.is;
  blank = byte l ∙ ap (λ m. get_or text m 0) place ∙ word.blank;
  one = single;
}
  where
    places : ((from + 1 < at) × (at ≤ length text)) × ((k : ℕ) → from ≤ k → k + 1 < at → is_plain_letter (get_or text k 0) ≡ true)
    places = word_places words text from at all word

    byte : (k : ℕ) → get_or rest k 0 ≡ get_or text (i + k) 0
    byte k = ap (λ v. get_or v k 0) left ∙ get_or-drop i text k 0

    last_no : (k : ℕ) → i + k + 2 ≡ at → is_plain_letter (get_or rest k 0) ≡ false → ⊥
    last_no k is none =
        false≢true (sym (sym (ap is_plain_letter (byte k)) ∙ none) ∙ places.1 (i + k) (omega (arith, is, places.0.0)) (omega (arith, is)))

    single : s ≤ 1
    single = by_size (cases_lt 1 s)
      where
        by_more : (2 < s) ⊎ (s ≤ 2) → 1 < s → ⊥
        by_more (inl more) two = last_no (l + (s - 2)) (omega (arith, end, two)) (inner (s - 2) (omega (arith, more)) (omega (arith, two)))
        by_more (inr le) two = last_no l (omega (arith, end, two, le)) ended

        by_size : (1 < s) ⊎ (s ≤ 1) → s ≤ 1
        by_size (inl more) = absurd (by_more (cases_lt 2 s) more)
        by_size (inr le) = le

    place : i + l ≡ at - 1
    place = omega (arith, end, single, some)

    not_before : from < i → ⊥
    not_before lt =
        false≢true (sym (before (omega (arith, lt))) ∙ by_letters (cases_lt 0 l))
      where
        by_letters : (0 < l) ⊎ (l ≤ 0) → is_plain_letter (get_or text (i - 1) 0) ≡ true
        by_letters far = places.1 (i - 1) (omega (arith, lt)) (omega (arith, lt, place, places.0.0))

    not_after : i < from → ⊥
    not_after lt =
        let there : i + (from - 1 - i) ≡ from - 1 = omega (arith, lt) in
        false≢true (sym (word.before (omega (arith, lt))) ∙ (sym (ap is_letter (byte (from - 1 - i) ∙ ap (λ m. get_or text m 0) there))
        ∙ letters (from - 1 - i) (omega (arith, lt, place, places.0.0))))

    start : from ≡ i
    start = by_place (cases_lt from i) (cases_lt i from)
      where
        by_place : (from < i) ⊎ (i ≤ from) → (i < from) ⊎ (from ≤ i) → from ≡ i
        by_place (inl lt) any = absurd (not_before lt)
        by_place (inr le) (inl lt) = absurd (not_after lt)
        by_place (inr le) (inr low) = omega (arith, le, low)

    same : slice_range text from (at - 1) ≡ take l rest
    same =
        let size : at - 1 - from ≡ l = omega (arith, place, start) in
        ap (λ m. take m (drop from text)) size ∙ ap (λ m. take l (drop m text)) start ∙ ap (λ v. take l v) (sym left)

-- what is denied after letters and a sign is so by these letters, and perhaps by those before them
pub denied_next : (text rest : List ℕ) (i l s at : ℕ) (is_denied stays : Bool) → rest ≡ drop i text → at ≡ i + (l + s) → 0 < s →
    ((k : ℕ) → k < l → is_letter (get_or rest k 0) ≡ true) → is_plain_letter (get_or rest l 0) ≡ false →
    ((k : ℕ) → 0 < k → k < s → is_plain_letter (get_or rest (l + k) 0) ≡ false) → (0 < i → is_plain_letter (get_or text (i - 1) 0) ≡ false) →
    ((between : ℕ) → IsDenied between text i → is_denied ≡ true) →
    (0 < l → Contains words_of_none (map small (take l rest)) → get_or rest l 0 ≡ 32 → s ≤ 1 → stays ≡ true) →
    (0 < l → is_denied ≡ true → Contains words_of_links (map small (take l rest)) → get_or rest l 0 ≡ 32 → s ≤ 1 → stays ≡ true) →
    (between : ℕ) → IsDenied between text at → stays ≡ true
unfolding IsDenied
denied_next text rest i l s at is_denied stays left end some letters ended inner before above none goes_on zero is =
    let last = word_last words_of_none text rest i l s at is.0 none_are left end some letters ended inner before is.1 in
    none last.some last.is last.blank last.one
denied_next text rest i l s at is_denied stays left end some letters ended inner before above none goes_on (suc between) is =
    let last = word_last words_of_links text rest i l s at is.0 links_are left end some letters ended inner before is.1 in
    goes_on last.some (above between (subst (λ n. IsDenied between text n) last.here is.2)) last.is last.blank last.one

-- nothing is denied in front of a text
pub none_denied : (text : List ℕ) (between : ℕ) → IsDenied between text 0 → ⊥
unfolding IsDenied
none_denied text zero is = omega (arith, (word_places words_of_none text is.0 0 none_are is.1).0.0)
none_denied text (suc between) is = omega (arith, (word_places words_of_links text is.0 0 links_are is.1).0.0)

-- the words of none deny
denial_more : (word : List ℕ) → Contains words_of_none word → Contains words_of_denial word
denial_more word is =
    Contains-append_left words_of_none (codes "didn" ∷ codes "don" ∷ codes "doesn" ∷ codes "can" ∷ codes "couldn" ∷ codes "hadn" ∷ codes "hasn" ∷ codes "haven" ∷
    codes "isn" ∷ codes "aren" ∷ codes "ain" ∷ codes "wasn" ∷ codes "weren" ∷ codes "won" ∷ codes "wouldn" ∷ codes "shouldn" ∷ []) word is

-- what is denied is so by a word that is said
pub denial_said : (text : List ℕ) (between at : ℕ) → IsDenied between text at → HasWord is_letter words_of_denial text
unfolding IsDenied
denial_said text zero at is =
    let word = is.1 in
    let from : ℕ = is.0 in
    let places = word_places words_of_none text from at none_are word in
    let there : from + (at - 1 - from) ≡ at - 1 = omega (arith, places.0.0) in
    let size : from + (at - 1 - from) - from ≡ at - 1 - from = omega arith in
    record {
      at = from;
      count = at - 1 - from;
      fits = omega (arith, places.0.0, places.0.1);
      is = subst (λ m. Contains words_of_denial (map small (take m (drop from text)))) (sym size) (denial_more (map small (slice_range text from (at - 1))) word.is);
      before = word.before;
      after = ap is_letter (ap (λ m. get_or text m 0) there ∙ word.blank);
    }
denial_said text (suc between) at is = denial_said text between is.0 is.2

-- the first byte of what is behind others
pub zero_behind : (rest others : List ℕ) (l : ℕ) → others ≡ drop l rest → get_or rest l 0 ≡ get_or others 0 0
zero_behind rest others l behind =
    let there : l + 0 ≡ l = omega arith in
    sym (ap (λ v. get_or v 0 0) behind ∙ get_or-drop l rest 0 0 ∙ ap (λ n. get_or rest n 0) there)

-- where no word denies anything, none that is said is denied
pub named : (words : List (List ℕ)) (text : List ℕ) → (HasWord is_letter words_of_denial text → ⊥) → HasWord is_plain_letter words text → Names is_plain_letter words text
named words text none has = record { word = has; free = λ between is. none (denial_said text between has.at is) }
