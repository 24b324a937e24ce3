-- Turns are no words of a label.
use Rattle.std.proofs.Common.{◌≡◌, ℕ, zero, suc, ◌+◌, ◌-◌, ◌<◌, ◌≤◌, ◌⊎◌, inl, inr, Bool, true, false, List, [], ◌∷◌, length, take, drop, get_or, refl, sym, subst, ap, ◌∙◌, rules, length-drop, arith}
use Rattle.std.specs.List.{list_any}
use Rattle.std.proofs.lemmas.Bool.{cases_lt, false≢true}
use Rattle.std.proofs.lemmas.Bool.Decides.{nat_tests}
use Rattle.std.proofs.lemmas.List.{get_or-drop, get_or-take, length-take-le}
use Rattle.niss_text.specs.Signs.{HasNoMoves}
use Rattle.niss_text.specs.Doubts.{is_capital}
use Rattle.niss_text.specs.Kept.{AreTurns, HasTurns, IsTurnUpTo, follows_turn, is_turn}
use Rattle.niss_text.proofs.CommentLemmas.{stands_within}
unfoldable use Rattle.niss_text.specs.Signs.{is_of_moves}

capital_turn : (b : ℕ) → is_capital b ≡ true → is_turn b ≡ true
capital_turn b is = grind (arith, nat_tests)

capital_some : (b : ℕ) → is_capital b ≡ true → 0 < b
capital_some b is = grind (arith, nat_tests)

follows_is : (a b : ℕ) → follows_turn a b ≡ true → (b ≡ 32) ⊎ (is_turn b ≡ true)
follows_is a b is = grind (arith, nat_tests)

after_blank : (a b : ℕ) → a ≡ 32 → follows_turn a b ≡ true → (b ≡ 32 → ⊥) → is_capital b ≡ true
after_blank a b blank far other = grind (arith, nat_tests)

follows_two : (a b : ℕ) → is_turn a ≡ true → is_turn b ≡ true → follows_turn a b ≡ true → b ≡ 50
follows_two a b first second far = grind (arith, nat_tests)

-- what follows in a word of turns is a 2
pub turn_next : (word : List ℕ) (k : ℕ) → AreTurns word → IsTurnUpTo word (length word) → k + 1 < length word → get_or word (k + 1) 0 ≡ 50
turn_next word k turns all lt =
    follows_two (get_or word k 0) (get_or word (k + 1) 0) (all.0 k (omega (arith, lt))) (all.0 (k + 1) lt) (turns.each k lt)

turn_moves : (b : ℕ) → is_turn b ≡ true → is_of_moves b ≡ true
unfolding is_of_moves
turn_moves b turn = grind (arith, nat_tests)

pub has_turns : (bytes : List ℕ) → AreTurns bytes → HasTurns bytes
has_turns bytes turns zero lt = inr (capital_turn (get_or bytes 0 0) turns.first)
has_turns bytes turns (suc k) lt =
    let one : k + 1 ≡ suc k = omega arith in
    follows_is (get_or bytes k 0) (get_or bytes (suc k) 0)
    (subst (λ n. follows_turn (get_or bytes k 0) (get_or bytes n 0) ≡ true) one (turns.each k (omega (arith, lt))))

-- one more byte of turns is passed
pub turns_more : (text rest : List ℕ) (far after size : ℕ) (skips ends : Bool) → rest ≡ drop far text → 0 < length rest → after ≡ far + size → ends ≡ false →
    (is_turn (get_or rest 0 0) ≡ true → (ends ≡ false) × (size ≡ 1)) → (get_or rest 0 0 ≡ 32 → (skips ≡ true) × (ends ≡ true)) → HasTurns text →
    ((k : ℕ) → k < far → is_turn (get_or text k 0) ≡ true) → (k : ℕ) → k < after → is_turn (get_or text k 0) ≡ true
turns_more text rest far after size skips ends left some next open_still turn blank all before k lt = by_byte (all far (omega (arith, some, ap length left, length-drop far text)))
  where
    here : get_or rest 0 0 ≡ get_or text far 0
    here = ap (λ v. get_or v 0 0) left ∙ get_or-drop far text 0 0 ∙ (let none : far + 0 ≡ far = omega arith in ap (λ n. get_or text n 0) none)

    by_place : is_turn (get_or text far 0) ≡ true → size ≡ 1 → (k < far) ⊎ (far ≤ k) → is_turn (get_or text k 0) ≡ true
    by_place is one (inl less) = before k less
    by_place is one (inr more) = let same : far ≡ k = omega (arith, lt, next, one, more) in subst (λ n. is_turn (get_or text n 0) ≡ true) same is

    by_byte : (get_or text far 0 ≡ 32) ⊎ (is_turn (get_or text far 0) ≡ true) → is_turn (get_or text k 0) ≡ true
    by_byte (inl is) = absurd (false≢true (sym open_still ∙ (blank (here ∙ is)).1))
    by_byte (inr is) = by_place is (turn (ap is_turn here ∙ is)).1 (cases_lt k far)

none_moves : (bytes : List ℕ) (k : ℕ) → HasNoMoves bytes → k < length bytes → is_of_moves (get_or bytes k 0) ≡ false
none_moves [] k none lt = absurd (omega (arith, lt))
none_moves (b ∷ bytes) zero none lt = search (rules, none)
none_moves (b ∷ bytes) (suc k) none lt =
    let later : list_any is_of_moves bytes ≡ false = search (rules, none) in none_moves bytes k later (omega (arith, lt))

-- what is left of turns behind a word and the blanks after it
pub turns_left : (rest next : List ℕ) (n m : ℕ) → AreTurns rest → 0 < n → IsTurnUpTo rest n → next ≡ drop (n + m) rest → n + m ≤ length rest →
    HasNoMoves (take m (drop n rest)) → (get_or next 0 0 ≡ 32 → ⊥) → (length next ≡ 0) ⊎ AreTurns next
turns_left rest next n m turns some word is fits none unblank = by_end (cases_lt (n + m) (length rest))
  where
    at : (k : ℕ) → get_or next k 0 ≡ get_or rest (n + m + k) 0
    at k = ap (λ v. get_or v k 0) is ∙ get_or-drop (n + m) rest k 0

    first : get_or next 0 0 ≡ get_or rest (n + m) 0
    first = at 0 ∙ (let same : n + m + 0 ≡ n + m = omega arith in ap (λ k. get_or rest k 0) same)

    blanks : 0 < m → n + m < length rest → get_or rest (n + m - 1) 0 ≡ 32
    blanks more lt = by_byte (has_turns rest turns (n + m - 1) (omega (arith, lt)))
      where
        inner : get_or (take m (drop n rest)) (m - 1) 0 ≡ get_or rest (n + m - 1) 0
        inner = get_or-take m (drop n rest) (m - 1) 0 (omega (arith, more)) ∙ get_or-drop n rest (m - 1) 0
            ∙ (let same : n + (m - 1) ≡ n + m - 1 = omega (arith, more) in ap (λ k. get_or rest k 0) same)

        by_byte : (get_or rest (n + m - 1) 0 ≡ 32) ⊎ (is_turn (get_or rest (n + m - 1) 0) ≡ true) → get_or rest (n + m - 1) 0 ≡ 32
        by_byte (inl blank) = blank
        by_byte (inr turn) = absurd (false≢true (sym (none_moves (take m (drop n rest)) (m - 1) none
            (omega (arith, more, length-take-le m (drop n rest) (omega (arith, fits, length-drop n rest)))))
            ∙ ap is_of_moves inner ∙ turn_moves (get_or rest (n + m - 1) 0) turn))

    by_blanks : n + m < length rest → (0 < m) ⊎ (m ≤ 0) → is_capital (get_or next 0 0) ≡ true
    by_blanks lt (inl more) =
        let one : n + m - 1 + 1 ≡ n + m = omega (arith, some) in
        ap is_capital first ∙ after_blank (get_or rest (n + m - 1) 0) (get_or rest (n + m) 0) (blanks more lt)
        (subst (λ k. follows_turn (get_or rest (n + m - 1) 0) (get_or rest k 0) ≡ true) one (turns.each (n + m - 1) (omega (arith, lt, some))))
        (λ blank. unblank (first ∙ blank))
    by_blanks lt (inr few) =
        let same : n + m ≡ n = omega (arith, few) in
        absurd (unblank (first ∙ ap (λ k. get_or rest k 0) same ∙ word.1 (omega (arith, lt, same))))

    by_end : (n + m < length rest) ⊎ (length rest ≤ n + m) → (length next ≡ 0) ⊎ AreTurns next
    by_end (inl lt) = inr (record {
      first = by_blanks lt (cases_lt 0 m);
      each = λ k less.
          let one : n + m + (k + 1) ≡ n + m + k + 1 = omega arith in
          subst (λ b. follows_turn (get_or next k 0) b ≡ true) (sym (at (k + 1) ∙ ap (λ j. get_or rest j 0) one))
          (subst (λ a. follows_turn a (get_or rest (n + m + k + 1) 0) ≡ true) (sym (at k))
          (turns.each (n + m + k) (omega (arith, less, ap length is, length-drop (n + m) rest))));
    })
    by_end (inr le) = inl (ap length is ∙ length-drop (n + m) rest ∙ (let none_left : length rest - (n + m) ≡ 0 = omega (arith, le) in none_left))

-- a word in front of turns
pub turns_front : (rest : List ℕ) (n : ℕ) → AreTurns rest → 0 < n → n ≤ length rest → AreTurns (take n rest)
turns_front rest n turns some fits = record {
  first = ap is_capital (get_or-take n rest 0 0 some) ∙ turns.first;
  each = λ k less.
      let long : length (take n rest) ≡ n = length-take-le n rest fits in
      subst (λ b. follows_turn (get_or (take n rest) k 0) b ≡ true) (sym (get_or-take n rest (k + 1) 0 (omega (arith, less, long))))
      (subst (λ a. follows_turn a (get_or rest (k + 1) 0) ≡ true) (sym (get_or-take n rest k 0 (omega (arith, less, long))))
      (turns.each k (omega (arith, less, long, fits))));
}

pub word_front : (rest : List ℕ) (n : ℕ) → n ≤ length rest → IsTurnUpTo rest n → IsTurnUpTo (take n rest) (length (take n rest))
word_front rest n fits word = (
  λ k less. ap is_turn (get_or-take n rest k 0 (omega (arith, less, long))) ∙ word.0 k (omega (arith, less, long)),
  λ less. absurd (omega (arith, less)),
)
  where
    long : length (take n rest) ≡ n
    long = length-take-le n rest fits

-- turns begin with a word
pub word_some : (rest : List ℕ) (n : ℕ) → AreTurns rest → n ≡ 0 → IsTurnUpTo rest n → ⊥
word_some rest n turns none word =
    capital_blank (get_or rest 0 0) (ap (λ k. get_or rest k 0) (sym none)
    ∙ word.1 (omega (arith, none, stands_within rest 0 (get_or rest 0 0) refl (capital_some (get_or rest 0 0) turns.first)))) turns.first
  where
    capital_blank : (b : ℕ) → b ≡ 32 → is_capital b ≡ true → ⊥
    capital_blank b is capital = grind (arith, nat_tests)
