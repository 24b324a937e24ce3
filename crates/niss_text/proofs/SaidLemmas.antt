-- Words that stand by themselves in a text.
use Rattle.std.proofs.Common.{◌≡◌, ℕ, zero, suc, ◌+◌, ◌-◌, ◌<◌, ◌≤◌, ◌⊎◌, inl, inr, ◌==◌, ◌&&◌, nat_lt, Bool, true, false, if◌then◌else◌, List, [], ◌∷◌, length, take, drop, map, get_or, slice_range, refl, sym, subst, ap, ◌∙◌, length-drop, arith}
use Rattle.std.specs.List.{Contains, list_all}
use Rattle.std.proofs.lemmas.Bool.{cases_lt, and_parts, false≢true}
use Rattle.std.proofs.lemmas.Bool.Decides.{nat_tests}
use Rattle.std.proofs.lemmas.List.{drop-drop, drop-take, take-take, get_or-drop, get_or-take, length-take, length-take-le, length-map, get_or-map}
use Rattle.niss_text.specs.Signs.{is_letter, is_within}
use Rattle.niss_text.specs.Doubts.{is_letter as is_plain_letter}
use Rattle.niss_text.specs.Kept.{small}
use Rattle.niss_text.specs.Said.{HasWord, HasNoSlashes, are_spelled}
use Rattle.niss_text.proofs.WordLemmas.{beyond}
use Rattle.niss_text.proofs.ListedWords.{among_one, among_none}

-- one more byte of letters is passed
pub letters_more : (text rest : List ℕ) (far after size : ℕ) (is : Bool) → rest ≡ drop far text → 0 < length rest → after ≡ far + size → is ≡ true →
    (is ≡ true → (size ≡ 1) × (is_letter (get_or rest 0 0) ≡ true)) → ((k : ℕ) → k < far → is_letter (get_or text k 0) ≡ true) →
    (k : ℕ) → k < after → is_letter (get_or text k 0) ≡ true
letters_more text rest far after size is left some next letter one before k lt = by_place (cases_lt k far)
  where
    here : get_or rest 0 0 ≡ get_or text far 0
    here = ap (λ v. get_or v 0 0) left ∙ get_or-drop far text 0 0 ∙ (let none : far + 0 ≡ far = omega arith in ap (λ n. get_or text n 0) none)

    by_place : (k < far) ⊎ (far ≤ k) → is_letter (get_or text k 0) ≡ true
    by_place (inl less) = before k less
    by_place (inr more) =
        let same : far ≡ k = omega (arith, lt, next, (one letter).0, more) in
        subst (λ n. is_letter (get_or text n 0) ≡ true) same (sym (ap is_letter here) ∙ (one letter).1)

-- the letter that a small one is of
pub plain_of_small : (b : ℕ) → is_within 97 122 (small b) ≡ true → is_plain_letter b ≡ true
plain_of_small b is = grind (arith, nat_tests)

pub plain_letter : (b : ℕ) → is_plain_letter b ≡ true → is_letter b ≡ true
plain_letter b is = grind (arith, nat_tests)

pub each_at : (bytes : List ℕ) (k : ℕ) → k < length bytes → list_all (is_within 97 122) bytes ≡ true → is_within 97 122 (get_or bytes k 0) ≡ true
each_at [] k lt all = absurd (omega (arith, lt))
each_at (b ∷ bytes) zero lt all = (and_parts (is_within 97 122 b) (list_all (is_within 97 122) bytes) all).0
each_at (b ∷ bytes) (suc k) lt all = each_at bytes k (omega (arith, lt)) (and_parts (is_within 97 122 b) (list_all (is_within 97 122) bytes) all).1

-- words that have letters alone
pub spelled_word : (words : List (List ℕ)) (word : List ℕ) → are_spelled words ≡ true → Contains words word →
    (1 < length word) × (list_all (is_within 97 122) word ≡ true)
spelled_word [] word all is = absurd (among_none word is)
spelled_word (w ∷ ws) word all is = by_place (λ later. spelled_word ws word parts.1 later) (among_one w ws word is)
  where
    parts : ((nat_lt 1 (length w) && list_all (is_within 97 122) w) ≡ true) × (are_spelled ws ≡ true)
    parts = and_parts (nat_lt 1 (length w) && list_all (is_within 97 122) w) (are_spelled ws) all

    by_place : (Contains ws word → (1 < length word) × (list_all (is_within 97 122) word ≡ true)) → (word ≡ w) ⊎ Contains ws word →
        (1 < length word) × (list_all (is_within 97 122) word ≡ true)
    by_place more (inl same) =
        let own = and_parts (nat_lt 1 (length w)) (list_all (is_within 97 122) w) parts.0 in
        subst (λ v. (1 < length v) × (list_all (is_within 97 122) v ≡ true)) (sym same) (grind (arith, nat_tests, own.0), own.1)
    by_place more (inr later) = more later

-- its bytes in a text are letters of ASCII
pub spelled_at : (words : List (List ℕ)) (bytes : List ℕ) (k : ℕ) → are_spelled words ≡ true → Contains words (map small bytes) → k < length bytes →
    is_plain_letter (get_or bytes k 0) ≡ true
spelled_at words bytes k all is lt =
    plain_of_small (get_or bytes k 0) (subst (λ b. is_within 97 122 b ≡ true) (get_or-map small bytes k 0 0 lt)
    (each_at (map small bytes) k (omega (arith, lt, length-map bytes small)) (spelled_word words (map small bytes) all is).1))

-- a word stands where letters begin and end
pub said_here : (words : List (List ℕ)) (text rest : List ℕ) (i n : ℕ) → rest ≡ drop i text → i ≤ length text → n ≤ length rest → Contains words (map small (take n rest)) →
    (0 < i → is_plain_letter (get_or text (i - 1) 0) ≡ false) → is_plain_letter (get_or rest n 0) ≡ false → (has : HasWord is_plain_letter words text) × (has.at ≡ i)
said_here words text rest i n left low fits is before after = (
  record {
    at = i;
    count = n;
    fits = omega (arith, low, fits, ap length left, length-drop i text);
    is = subst (λ v. Contains words (map small v)) (ap (λ v. take n v) left ∙ ap (λ m. take m (drop i text)) long) is;
    before = before;
    after = sym (ap is_plain_letter (ap (λ v. get_or v n 0) left ∙ get_or-drop i text n 0)) ∙ after;
  },
  refl,
)
  where
    long : n ≡ i + n - i
    long = omega arith

word_long : (rest : List ℕ) (p n : ℕ) → p + n ≤ length rest → length (slice_range rest p (p + n)) ≡ n
word_long rest p n fits =
    let whole : p + n - p ≡ n = omega arith in
    ap (λ m. length (take m (drop p rest))) whole ∙ length-take-le n (drop p rest) (omega (arith, fits, length-drop p rest))

-- each byte of a word is a letter of ASCII, and it has two at least
word_some : (words : List (List ℕ)) (rest : List ℕ) (p n : ℕ) → are_spelled words ≡ true → p + n ≤ length rest → Contains words (map small (slice_range rest p (p + n))) → 1 < n
word_some words rest p n all fits is =
    omega (arith, word_long rest p n fits, length-map (slice_range rest p (p + n)) small, (spelled_word words (map small (slice_range rest p (p + n))) all is).0)

word_byte : (words : List (List ℕ)) (rest : List ℕ) (p n j : ℕ) → are_spelled words ≡ true → p + n ≤ length rest → Contains words (map small (slice_range rest p (p + n))) →
    p ≤ j → j < p + n → is_plain_letter (get_or rest j 0) ≡ true
word_byte words rest p n j all fits is low lt =
    let whole : p + n - p ≡ n = omega arith in
    let there : p + (j - p) ≡ j = omega (arith, low) in
    let here : get_or (slice_range rest p (p + n)) (j - p) 0 ≡ get_or rest j 0 =
    ap (λ m. get_or (take m (drop p rest)) (j - p) 0) whole ∙ get_or-take n (drop p rest) (j - p) 0 (omega (arith, low, lt)) ∙ get_or-drop p rest (j - p) 0
    ∙ ap (λ m. get_or rest m 0) there in
    sym (ap is_plain_letter here) ∙ spelled_at words (slice_range rest p (p + n)) (j - p) all is (omega (arith, word_long rest p n fits, low, lt))

-- two letters of it stand together
pub two_letters : (words : List (List ℕ)) (rest : List ℕ) → are_spelled words ≡ true → (has : HasWord is_letter words rest) →
    (is_letter (get_or rest has.at 0) ≡ true) × (is_letter (get_or rest (has.at + 1) 0) ≡ true)
two_letters words rest all has =
    let some : 1 < has.count = word_some words rest has.at has.count all has.fits has.is in (
      plain_letter (get_or rest has.at 0) (word_byte words rest has.at has.count has.at all has.fits has.is (omega arith) (omega (arith, some))),
      plain_letter (get_or rest (has.at + 1) 0) (word_byte words rest has.at has.count (has.at + 1) all has.fits has.is (omega arith) (omega (arith, some))),
    )

-- a word is left behind letters that are none of the words, and the sign after them
pub left_next : (words : List (List ℕ)) (rest next : List ℕ) (l s : ℕ) → next ≡ drop (l + s) rest → l + s ≤ length rest →
    ((k : ℕ) → k < l → is_letter (get_or rest k 0) ≡ true) → is_plain_letter (get_or rest l 0) ≡ false →
    ((k : ℕ) → 0 < k → k < s → is_plain_letter (get_or rest (l + k) 0) ≡ false) → are_spelled words ≡ true →
    (1 < l → Contains words (map small (take l rest)) → ⊥) → HasWord is_letter words rest → HasWord is_letter words next
left_next words rest next l s is fits letters ended inner all none has = by_place (cases_lt p l)
  where
    p : ℕ
    p = has.at

    n : ℕ
    n = has.count

    some : 1 < n
    some = word_some words rest p n all has.fits has.is

    byte_at : (j : ℕ) → p ≤ j → j < p + n → is_plain_letter (get_or rest j 0) ≡ true
    byte_at j low lt = word_byte words rest p n j all has.fits has.is low lt

    first : p < l → p ≡ 0
    first lt = by_zero (cases_lt 0 p)
      where
        by_zero : (0 < p) ⊎ (p ≤ 0) → p ≡ 0
        by_zero (inl more) = absurd (false≢true (sym (has.before more) ∙ letters (p - 1) (omega (arith, lt))))
        by_zero (inr zero_at) = omega (arith, zero_at)

    whole_word : p ≡ 0 → l ≡ n
    whole_word top = by_size (cases_lt l n)
      where
        by_size : (l < n) ⊎ (n ≤ l) → l ≡ n
        by_size (inl less) = absurd (false≢true (sym ended ∙ byte_at l (omega (arith, top)) (omega (arith, top, less))))
        by_size (inr more) = by_more (cases_lt n l)
          where
            by_more : (n < l) ⊎ (l ≤ n) → l ≡ n
            by_more (inl less) =
                let there : p + n ≡ n = omega (arith, top) in
                absurd (false≢true (sym (subst (λ m. is_letter (get_or rest m 0) ≡ false) there has.after) ∙ letters n less))
            by_more (inr low) = omega (arith, more, low)

    within : p < l → HasWord is_letter words next
    within lt =
        let top : p ≡ 0 = first lt in
        let same : l ≡ n = whole_word top in
        let size : p + n - p ≡ l = omega (arith, same) in
        absurd (none (omega (arith, some, same)) (subst (λ v. Contains words (map small v))
        (ap (λ m. take m (drop p rest)) size ∙ ap (λ m. take l (drop m rest)) top) has.is))

    behind : l ≤ p → l + s ≤ p
    behind low = by_sign (cases_lt p (l + s))
      where
        by_inner : p < l + s → (l < p) ⊎ (p ≤ l) → l + s ≤ p
        by_inner lt (inl more) =
            let there : l + (p - l) ≡ p = omega (arith, low) in
            absurd (false≢true (sym (subst (λ m. is_plain_letter (get_or rest m 0) ≡ false) there (inner (p - l) (omega (arith, more)) (omega (arith, lt, low))))
            ∙ byte_at p (omega arith) (omega (arith, some))))
        by_inner lt (inr less) =
            let there : l ≡ p = omega (arith, low, less) in
            absurd (false≢true (sym (subst (λ m. is_plain_letter (get_or rest m 0) ≡ false) there ended) ∙ byte_at p (omega arith) (omega (arith, some))))

        by_sign : (p < l + s) ⊎ (l + s ≤ p) → l + s ≤ p
        by_sign (inl lt) = by_inner lt (cases_lt l p)
        by_sign (inr le) = le

    further : l + s ≤ p → HasWord is_letter words next
    further le = record {
      at = p - (l + s);
      count = n;
      fits = omega (arith, le, has.fits, ap length is, length-drop (l + s) rest);
      is = subst (λ v. Contains words (map small v)) same has.is;
      before = λ more.
          let there : l + s + (p - (l + s) - 1) ≡ p - 1 = omega (arith, le, more) in
          ap is_letter (ap (λ v. get_or v (p - (l + s) - 1) 0) is ∙ get_or-drop (l + s) rest (p - (l + s) - 1) 0 ∙ ap (λ m. get_or rest m 0) there)
          ∙ has.before (omega (arith, le, more));
      after =
          let there : l + s + (p - (l + s) + n) ≡ p + n = omega (arith, le) in
          ap is_letter (ap (λ v. get_or v (p - (l + s) + n) 0) is ∙ get_or-drop (l + s) rest (p - (l + s) + n) 0 ∙ ap (λ m. get_or rest m 0) there)
          ∙ has.after;
    }
      where
        place : l + s + (p - (l + s)) ≡ p
        place = omega (arith, le)

        size : p + n - p ≡ p - (l + s) + n - (p - (l + s))
        size = omega arith

        same : slice_range rest p (p + n) ≡ slice_range next (p - (l + s)) (p - (l + s) + n)
        same =
            ap (λ m. take m (drop p rest)) size
            ∙ ap (λ v. take (p - (l + s) + n - (p - (l + s))) v) (ap (λ m. drop m rest) (sym place) ∙ sym (drop-drop (p - (l + s)) (l + s) rest)
            ∙ ap (λ v. drop (p - (l + s)) v) (sym is))

    by_place : (p < l) ⊎ (l ≤ p) → HasWord is_letter words next
    by_place (inl lt) = within lt
    by_place (inr le) = further (behind le)

-- no word stands in nothing
pub none_said : (words : List (List ℕ)) (rest : List ℕ) → length rest ≡ 0 → are_spelled words ≡ true → HasWord is_letter words rest → ⊥
none_said words rest none all has = omega (arith, none, has.fits, word_some words rest has.at has.count all has.fits has.is)

-- what is below one more place is below it, or it
pub no_pair : (k i : ℕ) → k + 1 < i + 1 → (k + 1 < i → ⊥) → (k + 1 ≡ i → ⊥) → ⊥
no_pair k i lt below here = by_place (cases_lt (k + 1) i)
  where
    by_place : (k + 1 < i) ⊎ (i ≤ k + 1) → ⊥
    by_place (inl less) = below less
    by_place (inr more) = here (omega (arith, more, lt))

pub none_of_test : (n : ℕ) → (n == 0) ≡ true → n ≡ 0
none_of_test n is = grind (arith, nat_tests)

pub step_of_test : (n : ℕ) → (n == 3) ≡ true → n ≡ 3
step_of_test n is = grind (arith, nat_tests)

-- a letter stands within a text
pub letter_within : (bytes : List ℕ) (k : ℕ) → is_letter (get_or bytes k 0) ≡ true → k < length bytes
letter_within bytes k is = by_place (cases_lt k (length bytes))
  where
    no_letter : (b : ℕ) → b ≡ 0 → is_letter b ≡ true → ⊥
    no_letter b none letter = grind (arith, nat_tests)

    by_place : (k < length bytes) ⊎ (length bytes ≤ k) → k < length bytes
    by_place (inl lt) = lt
    by_place (inr le) = absurd (no_letter (get_or bytes k 0) (beyond bytes k le) is)

-- the last byte of letters and the sign after them is no letter of ASCII
pub passed_last : (text rest : List ℕ) (i l s at : ℕ) → rest ≡ drop i text → 0 < s → is_plain_letter (get_or rest l 0) ≡ false →
    ((k : ℕ) → 0 < k → k < s → is_plain_letter (get_or (drop l rest) k 0) ≡ false) → at ≡ i + (l + s) → is_plain_letter (get_or text (at - 1) 0) ≡ false
passed_last text rest i l s at left some ended inner is = by_size (cases_lt 1 s)
  where
    here : (k : ℕ) → i + k ≡ at - 1 → is_plain_letter (get_or rest k 0) ≡ false → is_plain_letter (get_or text (at - 1) 0) ≡ false
    here k same none =
        sym (ap is_plain_letter (ap (λ v. get_or v k 0) left ∙ get_or-drop i text k 0 ∙ ap (λ n. get_or text n 0) same)) ∙ none

    by_size : (1 < s) ⊎ (s ≤ 1) → is_plain_letter (get_or text (at - 1) 0) ≡ false
    by_size (inl more) =
        here (l + (s - 1)) (omega (arith, is, more)) (sym (ap is_plain_letter (get_or-drop l rest (s - 1) 0)) ∙ inner (s - 1) (omega (arith, more)) (omega (arith, some)))
    by_size (inr one) = here l (omega (arith, is, some, one)) ended

within_part : (bytes : List ℕ) (n k b : ℕ) → get_or (take n bytes) k 0 ≡ b → 0 < b → k < n
within_part bytes n k b is some = by_place (cases_lt k n)
  where
    by_place : (k < n) ⊎ (n ≤ k) → k < n
    by_place (inl lt) = lt
    by_place (inr le) = absurd (omega (arith, some, is, beyond (take n bytes) k (omega (arith, le, length-take n bytes))))

-- no comment begins among the bytes before the first slashes
pub no_slashes : (line rest : List ℕ) (head at moves comment : ℕ) → rest ≡ drop head line →
    ((k : ℕ) → get_or rest k 0 ≡ 47 → get_or rest (k + 1) 0 ≡ 47 → at ≤ k) → head ≤ moves → comment ≤ head + at → HasNoSlashes (slice_range line moves comment)
no_slashes line rest head at moves comment left first low high k one two =
    let lt : k + 1 < comment - moves = within_part (drop moves line) (comment - moves) (k + 1) 47 two (omega arith) in
    let here : (j : ℕ) → j < comment - moves → get_or (slice_range line moves comment) j 0 ≡ get_or rest (moves - head + j) 0 = λ j less.
    get_or-take (comment - moves) (drop moves line) j 0 less ∙ get_or-drop moves line j 0
    ∙ (let there : moves + j ≡ head + (moves - head + j) = omega (arith, low) in ap (λ n. get_or line n 0) there)
    ∙ sym (ap (λ v. get_or v (moves - head + j) 0) left ∙ get_or-drop head line (moves - head + j) 0) in
    let next : moves - head + (k + 1) ≡ moves - head + k + 1 = omega arith in
    omega (
      arith,
      lt,
      low,
      high,
      first (moves - head + k) (sym (here k (omega (arith, lt))) ∙ one)
          (ap (λ n. get_or rest n 0) (sym next) ∙ sym (here (k + 1) lt) ∙ two),
    )

-- no comment begins among bytes that have no slash
pub no_slash : (line : List ℕ) (moves comment : ℕ) → ((k : ℕ) → get_or (drop moves line) k 0 ≡ 47 → ⊥) → HasNoSlashes (slice_range line moves comment)
no_slash line moves comment none k one two =
    let lt : k < comment - moves = within_part (drop moves line) (comment - moves) k 47 one (omega arith) in
    none k (sym (get_or-take (comment - moves) (drop moves line) k 0 lt) ∙ one)

-- what is told by 1 holds
pub told_true : (b : Bool) → ◌≡◌ {A = ℕ} (if b then 1 else 0) 1 → b ≡ true
told_true true one = refl
told_true false one = absurd (omega (arith, one))

-- a word of a part of a line stands in a longer part, if no letter follows the first
pub said_longer : (words : List (List ℕ)) (line : List ℕ) (begin end longer : ℕ) → begin ≤ end → end ≤ longer → longer ≤ length line →
    (end < longer → is_plain_letter (get_or line end 0) ≡ false) → (has : HasWord is_plain_letter words (slice_range line begin end)) →
    (longest : HasWord is_plain_letter words (slice_range line begin longer)) × (longest.at ≡ has.at)
said_longer words line begin end longer order more within apart has = (
  record {
    at = has.at;
    count = has.count;
    fits = omega (arith, has.fits, short, long, more);
    is = subst (λ v. Contains words (map small v)) same has.is;
    before = λ some. ap is_plain_letter (sym (byte (has.at - 1) (omega (arith, has.fits, short, some)))) ∙ has.before some;
    after = by_end (cases_lt (has.at + has.count) (end - begin));
  },
  refl,
)
  where
    short : length (slice_range line begin end) ≡ end - begin
    short = length-take-le (end - begin) (drop begin line) (omega (arith, length-drop begin line, more, within))

    long : length (slice_range line begin longer) ≡ longer - begin
    long = length-take-le (longer - begin) (drop begin line) (omega (arith, length-drop begin line, within))

    byte : (k : ℕ) → k < end - begin → get_or (slice_range line begin end) k 0 ≡ get_or (slice_range line begin longer) k 0
    byte k lt = get_or-take (end - begin) (drop begin line) k 0 lt ∙ sym (get_or-take (longer - begin) (drop begin line) k 0 (omega (arith, lt, more)))

    front : take (end - begin) (slice_range line begin longer) ≡ slice_range line begin end
    front = take-take (end - begin) (longer - begin) (drop begin line) (omega (arith, more))

    same : slice_range (slice_range line begin end) has.at (has.at + has.count) ≡ slice_range (slice_range line begin longer) has.at (has.at + has.count)
    same =
        let size : has.at + has.count - has.at ≡ has.count = omega arith in
        let first : (bytes : List ℕ) → slice_range bytes has.at (has.at + has.count) ≡ drop has.at (take (has.at + has.count) bytes) = λ bytes.
        ap (λ m. take m (drop has.at bytes)) size ∙ sym (drop-take has.at has.count bytes) in
        first (slice_range line begin end) ∙ ap (λ v. drop has.at (take (has.at + has.count) v)) (sym front)
        ∙ ap (λ v. drop has.at v) (take-take (has.at + has.count) (end - begin) (slice_range line begin longer) (omega (arith, has.fits, short)))
        ∙ sym (first (slice_range line begin longer))

    by_end : (has.at + has.count < end - begin) ⊎ (end - begin ≤ has.at + has.count) → is_plain_letter (get_or (slice_range line begin longer) (has.at + has.count) 0) ≡ false
    by_end (inl lt) = ap is_plain_letter (sym (byte (has.at + has.count) lt)) ∙ has.after
    by_end (inr le) = by_size (cases_lt end longer)
      where
        there : has.at + has.count ≡ end - begin
        there = omega (arith, has.fits, short, le)

        nothing : (b : ℕ) → b ≡ 0 → is_plain_letter b ≡ false
        nothing b none = grind (arith, nat_tests)

        by_size : (end < longer) ⊎ (longer ≤ end) → is_plain_letter (get_or (slice_range line begin longer) (has.at + has.count) 0) ≡ false
        by_size (inl lt) =
            let place : begin + (has.at + has.count) ≡ end = omega (arith, there, order) in
            ap is_plain_letter (get_or-take (longer - begin) (drop begin line) (has.at + has.count) 0 (omega (arith, there, lt, order))
            ∙ get_or-drop begin line (has.at + has.count) 0 ∙ ap (λ m. get_or line m 0) place) ∙ apart lt
        by_size (inr high) = nothing (get_or (slice_range line begin longer) (has.at + has.count) 0)
            (beyond (slice_range line begin longer) (has.at + has.count) (omega (arith, there, long, high, more)))
