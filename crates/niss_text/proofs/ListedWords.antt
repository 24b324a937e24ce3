-- Words that have commas between, one by one.
use Rattle.std.proofs.Common.{◌≡◌, ℕ, zero, suc, ◌+◌, ◌<◌, ◌≤◌, ◌⊎◌, inl, inr, ◌==◌, true, false, if◌then◌else◌, List, [], ◌∷◌, length, take, drop, get_or, refl, sym, subst, ap, ◌∙◌, arith}
use Rattle.std.specs.List.{Contains}
use Rattle.std.proofs.lemmas.Bool.{cases_lt}
use Rattle.std.proofs.lemmas.Bool.Decides.{nat_tests}
use Rattle.std.proofs.lemmas.List.{take_all}
unfoldable use Rattle.niss_text.specs.Said.{before_words, listed}

-- what stands among a word and others is that word, or one of the others
pub among_first : {X : Type 0} (first : X) (others : List X) (x : X) → x ≡ first → Contains (first ∷ others) x
among_first first others x is = (0, omega arith, sym is)

pub among_more : {X : Type 0} (first : X) (others : List X) (x : X) → Contains others x → Contains (first ∷ others) x
among_more first others x is = (suc is.0, omega (arith, is.1), is.2)

pub among_one : {X : Type 0} (first : X) (others : List X) (x : X) → Contains (first ∷ others) x → (x ≡ first) ⊎ Contains others x
among_one first others x is = by_place is.0 is.1 is.2
  where
    by_place : (k : ℕ) → k < length (first ∷ others) → get_or (first ∷ others) k x ≡ x → (x ≡ first) ⊎ Contains others x
    by_place zero lt same = inl (sym same)
    by_place (suc k) lt same = inr (k, omega (arith, lt), same)

pub among_none : {X : Type 0} (x : X) → Contains [] x → ⊥
among_none x is = omega (arith, is.1)

-- the last of some words has no comma
pub listed_last : (bytes : List ℕ) → ((k : ℕ) → k < length bytes → get_or bytes k 0 ≡ 44 → ⊥) → listed bytes ≡ bytes ∷ []
unfolding listed before_words
listed_last [] none = refl
listed_last (b ∷ bytes) none =
    let other : (b == 44) ≡ false = grind (arith, nat_tests, none 0 (omega arith)) in
    ap (λ t. if t then [] ∷ listed bytes else before_words b (listed bytes)) other
    ∙ ap (λ v. before_words b v) (listed_last bytes (λ k lt is. none (suc k) (omega (arith, lt)) is))

-- the first one ends before a comma
pub listed_more : (bytes : List ℕ) (n : ℕ) → n < length bytes → ((k : ℕ) → k < n → get_or bytes k 0 ≡ 44 → ⊥) → get_or bytes n 0 ≡ 44 →
    listed bytes ≡ take n bytes ∷ listed (drop (suc n) bytes)
unfolding listed before_words
listed_more [] n lt none comma = absurd (omega (arith, lt))
listed_more (b ∷ bytes) zero lt none comma =
    let is : (b == 44) ≡ true = grind (arith, nat_tests, comma) in
    ap (λ t. if t then [] ∷ listed bytes else before_words b (listed bytes)) is
listed_more (b ∷ bytes) (suc n) lt none comma =
    let other : (b == 44) ≡ false = grind (arith, nat_tests, none 0 (omega arith)) in
    ap (λ t. if t then [] ∷ listed bytes else before_words b (listed bytes)) other
    ∙ ap (λ v. before_words b v) (listed_more bytes n (omega (arith, lt)) (λ k less is. none (suc k) (omega (arith, less)) is) comma)

-- the first of some words
pub first_listed : (bytes word : List ℕ) (n : ℕ) → n ≤ length bytes → ((k : ℕ) → k < n → get_or bytes k 0 ≡ 44 → ⊥) → (n < length bytes → get_or bytes n 0 ≡ 44) →
    word ≡ take n bytes → Contains (listed bytes) word
first_listed bytes word n fits none comma is = by_end (cases_lt n (length bytes))
  where
    by_end : (n < length bytes) ⊎ (length bytes ≤ n) → Contains (listed bytes) word
    by_end (inl lt) = subst (λ v. Contains v word) (sym (listed_more bytes n lt none (comma lt))) (among_first (take n bytes) (listed (drop (suc n) bytes)) word is)
    by_end (inr le) =
        subst (λ v. Contains v word) (sym (listed_last bytes (λ k lt at. none k (omega (arith, lt, le)) at)))
        (among_first bytes [] word (is ∙ take_all n bytes le))

empty_word : (rest : List ℕ) → length rest ≡ 0 → listed rest ≡ [] ∷ []
unfolding listed
empty_word [] none = refl
empty_word (b ∷ rest) none = absurd (omega (arith, none))

-- nothing is none of no words
pub none_listed : (rest word : List ℕ) → length rest ≡ 0 → 0 < length word → Contains (listed rest) word → ⊥
none_listed rest word none some is = by_place (among_one [] [] word (subst (λ v. Contains v word) (empty_word rest none) is))
  where
    by_place : (word ≡ []) ⊎ Contains [] word → ⊥
    by_place (inl same) = omega (arith, some, ap length same)
    by_place (inr never) = among_none word never

-- a word is among those behind the first one, or that one
pub listed_behind : (bytes next word : List ℕ) (n : ℕ) → n ≤ length bytes → ((k : ℕ) → k < n → get_or bytes k 0 ≡ 44 → ⊥) → (n < length bytes → get_or bytes n 0 ≡ 44) →
    (n < length bytes → next ≡ drop (n + 1) bytes) → (length bytes ≤ n → length next ≡ 0) → 0 < length word →
    (Contains (listed next) word → Contains (listed bytes) word) × ((word ≡ take n bytes → ⊥) → Contains (listed bytes) word → Contains (listed next) word)
listed_behind bytes next word n fits none comma more last some = by_end (cases_lt n (length bytes))
  where
    split : n < length bytes → listed bytes ≡ take n bytes ∷ listed next
    split lt =
        let one : n + 1 ≡ suc n = omega arith in
        listed_more bytes n lt none (comma lt) ∙ ap (λ v. take n bytes ∷ listed v) (ap (λ m. drop m bytes) (sym one) ∙ sym (more lt))

    alone : length bytes ≤ n → listed bytes ≡ take n bytes ∷ []
    alone le = listed_last bytes (λ k lt at. none k (omega (arith, lt, le)) at) ∙ ap (λ v. v ∷ []) (sym (take_all n bytes le))

    other : (others : List (List ℕ)) → (word ≡ take n bytes → ⊥) → (word ≡ take n bytes) ⊎ Contains others word → Contains others word
    other others differs (inl same) = absurd (differs same)
    other others differs (inr later) = later

    by_end : (n < length bytes) ⊎ (length bytes ≤ n) →
        (Contains (listed next) word → Contains (listed bytes) word) × ((word ≡ take n bytes → ⊥) → Contains (listed bytes) word → Contains (listed next) word)
    by_end (inl lt) = (
      λ later. subst (λ v. Contains v word) (sym (split lt)) (among_more (take n bytes) (listed next) word later),
      λ differs is. other (listed next) differs (among_one (take n bytes) (listed next) word (subst (λ v. Contains v word) (split lt) is)),
    )
    by_end (inr le) = (
      λ later. absurd (none_listed next word (last le) some later),
      λ differs is. absurd (among_none word (other [] differs (among_one (take n bytes) [] word (subst (λ v. Contains v word) (alone le) is)))),
    )
