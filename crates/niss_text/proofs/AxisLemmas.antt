-- The words of a label, among which slashes stand only in axes.
use Rattle.std.proofs.Common.{◌≡◌, ℕ, ◌+◌, ◌-◌, ◌<◌, ◌≤◌, ◌⊎◌, inl, inr, Bool, true, false, ◌||◌, ◌&&◌, ◌==◌, if◌then◌else◌, List, length, take, drop, get_or, sym, subst, ap, ◌∙◌, arith}
use Rattle.std.proofs.lemmas.Bool.{cases_lt, and_parts, false≢true}
use Rattle.std.proofs.lemmas.Bool.Decides.{nat_tests}
use Rattle.std.proofs.lemmas.List.{get_or-drop, get_or-take, length-take-le}
use Rattle.std.proofs.lemmas.List.Folds.{list_any_at}
use Rattle.niss_text.specs.Signs.{AreWords, parts_words}
use Rattle.niss_text.specs.Doubts.{are_opposite, is_letter as is_plain_letter}
use Rattle.niss_text.specs.Titles.{AreLabelWords}
use Rattle.niss_text.proofs.WordLemmas.{beyond}
unfoldable use Rattle.niss_text.specs.Titles.{parts_axis}

-- how many bytes a turn has by the one after its letter
abbrev size_of : ℕ → ℕ
size_of b = if (b == 50) || (b == 39) then 2 else if b == 226 then 4 else 1

-- what it says of a place that a slash parts an axis there
pub record IsParted (text : List ℕ) (k : ℕ) : Type 0 where
  pub slash : (get_or text k 0 == 47) ≡ true
  pub opposite : are_opposite (get_or text (k - 1) 0) (get_or text (k - 1 + 2) 0) ≡ true
  pub bare : (size_of (get_or text (k - 1 + 1) 0) == 1) ≡ true
  pub unsigned : (size_of (get_or text (k - 1 + 2 + 1) 0) == 1) ≡ true

axis_parts : (text : List ℕ) (k : ℕ) → parts_axis text k ≡ true → IsParted text k
unfolding parts_axis
axis_parts text k is =
    let opposite : Bool = are_opposite (get_or text (k - 1) 0) (get_or text (k - 1 + 2) 0) in
    let bare : Bool = size_of (get_or text (k - 1 + 1) 0) == 1 in
    let unsigned : Bool = size_of (get_or text (k - 1 + 2 + 1) 0) == 1 in
    let first = and_parts (get_or text k 0 == 47) (opposite && (bare && unsigned)) is in
    let second = and_parts opposite (bare && unsigned) first.1 in
    let third = and_parts bare unsigned second.1 in
    record { slash = first.0; opposite = second.0; bare = third.0; unsigned = third.1 }

axis_is : (text : List ℕ) (k : ℕ) → IsParted text k → parts_axis text k ≡ true
unfolding parts_axis
axis_is text k is =
    ap (λ v. v && (are_opposite (get_or text (k - 1) 0) (get_or text (k - 1 + 2) 0)
    && ((size_of (get_or text (k - 1 + 1) 0) == 1) && (size_of (get_or text (k - 1 + 2 + 1) 0) == 1)))) is.slash
    ∙ ap (λ v. v && ((size_of (get_or text (k - 1 + 1) 0) == 1) && (size_of (get_or text (k - 1 + 2 + 1) 0) == 1))) is.opposite
    ∙ ap (λ v. v && (size_of (get_or text (k - 1 + 2 + 1) 0) == 1)) is.bare ∙ is.unsigned

-- the other letter of an axis is one
opposite_letter : (a b : ℕ) → are_opposite a b ≡ true → is_plain_letter b ≡ true
opposite_letter a b is = by_test (a == 85) (a == 68) (a == 82) (a == 76) (a == 70) (a == 66) is
  where
    by_test : (p q r s t u : Bool) → (if p then b == 68 else if q then b == 85 else if r then b == 76 else if s then b == 82 else if t then b == 66 else (u && (b == 70))) ≡ true →
        is_plain_letter b ≡ true
    by_test true q r s t u so = grind (arith, nat_tests)
    by_test false true r s t u so = grind (arith, nat_tests)
    by_test false false true s t u so = grind (arith, nat_tests)
    by_test false false false true t u so = grind (arith, nat_tests)
    by_test false false false false true u so = grind (arith, nat_tests)
    by_test false false false false false true so = grind (arith, nat_tests)
    by_test false false false false false false so = absurd (false≢true so)

slash_is : (b : ℕ) → (b == 47) ≡ true → b ≡ 47
slash_is b is = grind (arith, nat_tests)

-- a letter stands before the slash of an axis
axis_later : (text : List ℕ) (k : ℕ) → IsParted text k → 0 < k
axis_later text k is = by_place (cases_lt 0 k)
  where
    other : ℕ
    other = get_or text (k - 1 + 2) 0

    by_place : (0 < k) ⊎ (k ≤ 0) → 0 < k
    by_place (inl lt) = lt
    by_place (inr le) =
        let same : k - 1 ≡ k = omega (arith, le) in
        absurd (false≢true (subst (λ b. are_opposite b other ≡ true) (slash_is (get_or text k 0) is.slash)
        (subst (λ n. are_opposite (get_or text n 0) other ≡ true) same is.opposite)))

-- one that is whole in front of a text stands there too
axis_cut : (line : List ℕ) (n k : ℕ) → n ≤ length line → k + 1 < n → parts_axis line k ≡ true → parts_axis (take n line) k ≡ true
axis_cut line n k fits low parts = axis_is (take n line) k (record {
  slash = ap (λ b. b == 47) (same k (omega (arith, low))) ∙ is.slash;
  opposite = ap (λ b. are_opposite b (get_or (take n line) (k - 1 + 2) 0)) (same (k - 1) (omega (arith, low)))
      ∙ ap (λ b. are_opposite (get_or line (k - 1) 0) b) (same (k - 1 + 2) (omega (arith, low, later))) ∙ is.opposite;
  bare = ap (λ b. size_of b == 1) (same (k - 1 + 1) (omega (arith, low, later))) ∙ is.bare;
  unsigned = by_end (cases_lt (k - 1 + 2 + 1) n);
})
  where
    is : IsParted line k
    is = axis_parts line k parts

    later : 0 < k
    later = axis_later line k is

    same : (j : ℕ) → j < n → get_or (take n line) j 0 ≡ get_or line j 0
    same j lt = get_or-take n line j 0 lt

    by_end : (k - 1 + 2 + 1 < n) ⊎ (n ≤ k - 1 + 2 + 1) → (size_of (get_or (take n line) (k - 1 + 2 + 1) 0) == 1) ≡ true
    by_end (inl lt) = ap (λ b. size_of b == 1) (same (k - 1 + 2 + 1) lt) ∙ is.unsigned
    by_end (inr le) = ap (λ b. size_of b == 1) (beyond (take n line) (k - 1 + 2 + 1) (omega (arith, le, length-take-le n line fits)))

-- The words of a label go on up to a place of a line: slashes stand there only in axes, which end before it.
abbrev pub HasLabelWords : List ℕ → ℕ → Type 0
HasLabelWords line end = (k : ℕ) → k < end → parts_words (get_or line k 0) ≡ true → (k + 1 < end) × (parts_axis line k ≡ true)

-- words part none
word_there : (text : List ℕ) (n k : ℕ) → n ≤ length text → k < n → AreWords (take n text) → parts_words (get_or text k 0) ≡ true → ⊥
word_there text n k fits lt words parts =
    false≢true (sym words ∙ list_any_at parts_words (take n text) k 0 (omega (arith, lt, length-take-le n text fits))
    (ap parts_words (get_or-take n text k 0 lt) ∙ parts))

pub words_begin : (line : List ℕ) (end : ℕ) → end ≤ length line → AreWords (take end line) → HasLabelWords line end
words_begin line end fits words k lt parts = absurd (word_there line end k fits lt words parts)

-- behind the slash of an axis they go on
pub words_on : (line rest : List ℕ) (end size : ℕ) → HasLabelWords line end → parts_axis line end ≡ true → rest ≡ drop (end + 1) line → size ≤ length rest →
    AreWords (take size rest) → is_plain_letter (get_or rest size 0) ≡ false → HasLabelWords line (end + (1 + size))
words_on line rest end size before parts left fits words after k lt parted = by_place (cases_lt k end) (cases_lt end k)
  where
    is : IsParted line end
    is = axis_parts line end parts

    at : (j : ℕ) → get_or rest j 0 ≡ get_or line (end + 1 + j) 0
    at j = ap (λ v. get_or v j 0) left ∙ get_or-drop (end + 1) line j 0

    some : 0 < size
    some = by_size (cases_lt 0 size)
      where
        by_size : (0 < size) ⊎ (size ≤ 0) → 0 < size
        by_size (inl more) = more
        by_size (inr none) =
            let there : end + 1 + size ≡ end - 1 + 2 = omega (arith, none, axis_later line end is) in
            absurd (false≢true (sym after ∙ ap is_plain_letter (at size ∙ ap (λ n. get_or line n 0) there)
            ∙ opposite_letter (get_or line (end - 1) 0) (get_or line (end - 1 + 2) 0) is.opposite))

    by_place : (k < end) ⊎ (end ≤ k) → (end < k) ⊎ (k ≤ end) → (k + 1 < end + (1 + size)) × (parts_axis line k ≡ true)
    by_place (inl less) any = let far = before k less parted in (omega (arith, far.0), far.1)
    by_place (inr le) (inr few) =
        let same : end ≡ k = omega (arith, le, few) in
        (omega (arith, same, some), subst (λ n. parts_axis line n ≡ true) same parts)
    by_place (inr le) (inl more) =
        let there : end + 1 + (k - end - 1) ≡ k = omega (arith, more) in
        absurd (word_there rest size (k - end - 1) fits (omega (arith, lt, more)) words
        (ap parts_words (at (k - end - 1) ∙ ap (λ n. get_or line n 0) there) ∙ parted))

-- they are the words of a label
pub label_words : (line : List ℕ) (end : ℕ) → end ≤ length line → HasLabelWords line end → AreLabelWords (take end line)
label_words line end fits has k lt parts =
    let long : length (take end line) ≡ end = length-take-le end line fits in
    let less : k < end = omega (arith, lt, long) in
    let far = has k less (ap parts_words (sym (get_or-take end line k 0 less)) ∙ parts) in
    axis_cut line end k fits far.0 far.1
