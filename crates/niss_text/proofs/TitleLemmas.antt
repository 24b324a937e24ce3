-- A line that begins with a word before a scramble, and a colon.
use Rattle.std.proofs.Common.{◌≡◌, ℕ, zero, suc, ◌+◌, ◌<◌, ◌≤◌, ◌⊎◌, inl, inr, true, false, List, [], ◌∷◌, length, take, drop, map, get_or, codes, refl, sym, subst, ap, ◌∙◌, arith}
use Rattle.std.specs.List.{Contains}
use Rattle.std.proofs.lemmas.Bool.{cases_lt, cases_eq}
use Rattle.std.proofs.lemmas.Bool.Decides.{nat_tests}
use Rattle.std.proofs.lemmas.List.{get_or-take, get_or-drop, length-map, length-take-le, take-take}
use Rattle.niss_text.specs.Signs.{ends_line, begins_number, is_letter}
use Rattle.niss_text.specs.Doubts.{is_letter as is_plain_letter}
use Rattle.niss_text.specs.Kept.{BeginsWithTitle, small, words_before_scramble}
use Rattle.niss_text.proofs.CommentLemmas.{stands_within}
use Rattle.niss_text.proofs.ListedWords.{among_one, among_none}
use Rattle.niss_text.proofs.SaidLemmas.{spelled_at, spelled_word}

-- a word that stands in front of a text is found there
pub word_found : (text word : List ℕ) (n count : ℕ) → 0 < length word → n ≤ length text → count ≤ length text → (0 < n → map small (take n text) ≡ word) →
    (n ≡ 0 → 0 < length word → map small (take (length word) text) ≡ word → ⊥) → map small (take count text) ≡ word → n ≡ count
word_found text word n count some fits within is all there = by_some (cases_lt 0 n)
  where
    long : (m : ℕ) → m ≤ length text → map small (take m text) ≡ word → m ≡ length word
    long m le same = sym (length-take-le m text le) ∙ sym (length-map (take m text) small) ∙ ap length same

    by_some : (0 < n) ⊎ (n ≤ 0) → n ≡ count
    by_some (inl more) = long n fits (is more) ∙ sym (long count within there)
    by_some (inr none) = absurd (all (omega (arith, none)) some (subst (λ m. map small (take m text) ≡ word) (long count within there) there))

-- each of the words before a scramble has a first letter of its own
first_small : (text : List ℕ) (count b : ℕ) (bytes : List ℕ) → map small (take count text) ≡ b ∷ bytes → small (get_or text 0 0) ≡ b
first_small text zero b bytes is = absurd (omega (arith, ap length is))
first_small [] (suc n) b bytes is = absurd (omega (arith, ap length is))
first_small (a ∷ others) (suc n) b bytes is = ap (λ v. get_or v 0 0) is

which_word : (word : List ℕ) → Contains words_before_scramble word → (word ≡ codes "scramble") ⊎ ((word ≡ codes "attempt") ⊎ (word ≡ codes "extra"))
which_word word is = by_first (among_one (codes "scramble") (codes "attempt" ∷ codes "extra" ∷ []) word is)
  where
    by_last : (word ≡ codes "extra") ⊎ Contains [] word → (word ≡ codes "scramble") ⊎ ((word ≡ codes "attempt") ⊎ (word ≡ codes "extra"))
    by_last (inl same) = inr (inr same)
    by_last (inr none) = absurd (among_none word none)

    by_next : (word ≡ codes "attempt") ⊎ Contains (codes "extra" ∷ []) word → (word ≡ codes "scramble") ⊎ ((word ≡ codes "attempt") ⊎ (word ≡ codes "extra"))
    by_next (inl same) = inr (inl same)
    by_next (inr later) = by_last (among_one (codes "extra") [] word later)

    by_first : (word ≡ codes "scramble") ⊎ Contains (codes "attempt" ∷ codes "extra" ∷ []) word →
        (word ≡ codes "scramble") ⊎ ((word ≡ codes "attempt") ⊎ (word ≡ codes "extra"))
    by_first (inl same) = inl same
    by_first (inr later) = by_next (among_one (codes "attempt") (codes "extra" ∷ []) word later)

-- what the first letter of a word before a scramble says of it
pub record IsByFirst (text word : List ℕ) : Type 0 where
  pub scramble : small (get_or text 0 0) ≡ 115 → word ≡ codes "scramble"
  pub attempt : small (get_or text 0 0) ≡ 97 → word ≡ codes "attempt"
  pub extra : small (get_or text 0 0) ≡ 101 → word ≡ codes "extra"
  pub first : (small (get_or text 0 0) ≡ 115) ⊎ ((small (get_or text 0 0) ≡ 97) ⊎ (small (get_or text 0 0) ≡ 101))

pub word_by_first : (text : List ℕ) (count : ℕ) → Contains words_before_scramble (map small (take count text)) → IsByFirst text (map small (take count text))
word_by_first text count is = by_word (which_word (map small (take count text)) is)
  where
    word : List ℕ
    word = map small (take count text)

    by_word : (word ≡ codes "scramble") ⊎ ((word ≡ codes "attempt") ⊎ (word ≡ codes "extra")) → IsByFirst text word
    by_word (inl same) =
        let b : small (get_or text 0 0) ≡ 115 = first_small text count 115 (codes "cramble") same in record {
          scramble = λ e. same;
          attempt = λ e. absurd (omega (arith, e, b));
          extra = λ e. absurd (omega (arith, e, b));
          first = inl b;
        }
    by_word (inr (inl same)) =
        let b : small (get_or text 0 0) ≡ 97 = first_small text count 97 (codes "ttempt") same in record {
          scramble = λ e. absurd (omega (arith, e, b));
          attempt = λ e. same;
          extra = λ e. absurd (omega (arith, e, b));
          first = inr (inl b);
        }
    by_word (inr (inr same)) =
        let b : small (get_or text 0 0) ≡ 101 = first_small text count 101 (codes "xtra") same in record {
          scramble = λ e. absurd (omega (arith, e, b));
          attempt = λ e. absurd (omega (arith, e, b));
          extra = λ e. same;
          first = inr (inr b);
        }

-- the colon stands in the text, and two letters at least before it
pub title_within : (text : List ℕ) (title : BeginsWithTitle text) → title.count < length text
title_within text title = stands_within text title.count 58 title.colon (omega arith)

pub title_some : (text : List ℕ) (title : BeginsWithTitle text) → 1 < title.count
title_some text title =
    let word : List ℕ = map small (take title.count text) in
    let long : 1 < length word = (spelled_word words_before_scramble word refl title.word).0 in
    omega (arith, long, length-map (take title.count text) small, length-take-le title.count text (omega (arith, title_within text title)))

pub title_letter : (text : List ℕ) (title : BeginsWithTitle text) (k : ℕ) → k < title.count → is_plain_letter (get_or text k 0) ≡ true
title_letter text title k lt =
    sym (ap is_plain_letter (get_or-take title.count text k 0 lt))
    ∙ spelled_at words_before_scramble (take title.count text) k refl title.word
    (omega (arith, lt, length-take-le title.count text (omega (arith, title_within text title))))

-- its first byte is a letter, and begins no number
pub title_first : (text : List ℕ) → BeginsWithTitle text → is_plain_letter (get_or text 0 0) ≡ true
title_first text title = title_letter text title 0 (omega (arith, title_some text title))

letter_is : (b : ℕ) → is_plain_letter b ≡ true → (is_letter b ≡ true) × (begins_number b ≡ false)
letter_is b is = (grind (arith, nat_tests), grind (arith, nat_tests))

pub title_begins : (text : List ℕ) → BeginsWithTitle text → (is_letter (get_or text 0 0) ≡ true) × (begins_number (get_or text 0 0) ≡ false)
title_begins text title = letter_is (get_or text 0 0) (title_first text title)

letter_ends : (b : ℕ) → is_plain_letter b ≡ true → ends_line b ≡ true → ⊥
letter_ends b is ends = grind (arith, nat_tests)

colon_ends : (b : ℕ) → b ≡ 58 → ends_line b ≡ true → ⊥
colon_ends b is ends = grind (arith, nat_tests)

-- it stands in the first line of a text
pub title_line : (text line : List ℕ) (n : ℕ) → line ≡ take n text → (n < length text → ends_line (get_or text n 0) ≡ true) → BeginsWithTitle text → BeginsWithTitle line
title_line text line n is ends title = record {
  count = count;
  word = subst (λ v. Contains words_before_scramble (map small v)) (sym (ap (λ v. take count v) is ∙ take-take count n text (omega (arith, lt)))) title.word;
  colon = ap (λ v. get_or v count 0) is ∙ get_or-take n text count 0 lt ∙ title.colon;
}
  where
    count : ℕ
    count = title.count

    by_end : (n < count) ⊎ (count ≤ n) → (n ≡ count) ⊎ (n ≡ count → ⊥) → count < n
    by_end (inl less) _ = absurd (letter_ends (get_or text n 0) (title_letter text title n less) (ends (omega (arith, less, title_within text title))))
    by_end (inr more) (inl same) = absurd (colon_ends (get_or text n 0) (ap (λ k. get_or text k 0) same ∙ title.colon) (ends (omega (arith, same, title_within text title))))
    by_end (inr more) (inr other) = omega (arith, more, other)

    lt : count < n
    lt = by_end (cases_lt n count) (cases_eq n count)

-- after its word the colon stands
pub title_colon : (text rest after : List ℕ) (n : ℕ) (title : BeginsWithTitle text) → n ≡ title.count → rest ≡ drop n text →
    (32 < get_or rest 0 0 → get_or rest 0 0 < 128 → after ≡ rest) → get_or after 0 0 ≡ 58
title_colon text rest after n title word left same = ap (λ v. get_or v 0 0) (same (omega (arith, here)) (omega (arith, here))) ∙ here
  where
    here : get_or rest 0 0 ≡ 58
    here =
        let none : n + 0 ≡ title.count = omega (arith, word) in
        ap (λ v. get_or v 0 0) left ∙ get_or-drop n text 0 0 ∙ ap (λ k. get_or text k 0) none ∙ title.colon
