-- A full stop after moves is none of them.
use Rattle.std.proofs.Common.{◌≡◌, ℕ, ◌+◌, ◌-◌, ◌<◌, Bool, true, false, not, ◌&&◌, ◌==◌, nat_lt, List, length, drop, get_or, sym, subst, ap, ◌∙◌, arith}
use Rattle.std.proofs.lemmas.Bool.{and_parts, false≢true}
use Rattle.std.proofs.lemmas.Bool.Decides.{nat_tests}
use Rattle.std.proofs.lemmas.List.{get_or-drop}
use Rattle.niss_text.specs.Signs.{is_digit}
use Rattle.niss_text.specs.Doubts.{is_capital}
use Rattle.niss_text.specs.Kept.{AreInNotation, begins_line, begins_with_turn}
use Rattle.niss_text.proofs.CommentLemmas.{never_so}
use Rattle.niss_text.proofs.WordLemmas.{move_parts}
use Rattle.niss_text.proofs.LayerLemmas.{layers_parts, turn_by_word}
unfoldable use Rattle.niss_text.specs.Kept.{follows_move, is_stop}

byte_is : (b : ℕ) → (b == 46) ≡ true → b ≡ 46
byte_is b is = grind (arith, nat_tests)

pub stop_byte : (text : List ℕ) (k : ℕ) → is_stop text k ≡ true → get_or text k 0 ≡ 46
unfolding is_stop
stop_byte text k is =
    let blank : Bool = not (get_or text (k - 1) 0 == 32) in
    let later = and_parts (nat_lt 0 k) ((get_or text k 0 == 46) && blank) is in
    byte_is (get_or text k 0) (and_parts (get_or text k 0 == 46) blank later.1).0

-- a stop doesn't stand where none does
pub no_stop : (text : List ℕ) (at k : ℕ) → k ≡ at → is_stop text k ≡ true → is_stop text at ≡ false → ⊥
no_stop text at k same is none = false≢true (sym none ∙ subst (λ n. is_stop text n ≡ true) same is)

capital_none : (b : ℕ) → b ≡ 46 → is_capital b ≡ true → ⊥
capital_none b is capital = grind (arith, nat_tests)

digit_none : (b : ℕ) → b ≡ 46 → is_digit b ≡ true → ⊥
digit_none b is digit = grind (arith, nat_tests)

stop_strange : (a : ℕ) → follows_move a 46 ≡ true → ⊥
unfolding follows_move
stop_strange a far = never_so (a == 226) (a == 128) (a == 32) (a == 40) (a == 41) far

some_before : (k : ℕ) → nat_lt 0 k ≡ true → 0 < k
some_before k is = grind (arith, nat_tests)

-- none stands in plain moves
pub plain_stop : (bytes : List ℕ) (k : ℕ) → AreInNotation bytes → k < length bytes → is_stop bytes k ≡ true → ⊥
unfolding is_stop
plain_stop bytes k plain lt is =
    let before : ℕ = get_or bytes (k - 1) 0 in
    let some : 0 < k = some_before k (and_parts (nat_lt 0 k) ((get_or bytes k 0 == 46) && not (before == 32)) is).0 in
    let there : k - 1 + 1 ≡ k = omega (arith, some) in
    stop_strange before (subst (λ b. follows_move before b ≡ true) (stop_byte bytes k is)
    (subst (λ n. follows_move before (get_or bytes n 0) ≡ true) there (plain.each (k - 1) (omega (arith, lt, some)))))

-- plain moves begin with no blank
pub moves_begin_high : (bytes : List ℕ) → AreInNotation bytes → (32 < get_or bytes 0 0) × (get_or bytes 0 0 < 128)
moves_begin_high bytes plain = (high (get_or bytes 0 0) plain.first, low (get_or bytes 0 0) plain.first)
  where
    high : (b : ℕ) → begins_line b ≡ true → 32 < b
    high b is = grind (arith, nat_tests)

    low : (b : ℕ) → begins_line b ≡ true → b < 128
    low b is = grind (arith, nat_tests)

-- no turn begins at one
pub stop_turn : (text : List ℕ) (at : ℕ) → is_stop text at ≡ true → begins_with_turn (drop at text) ≡ false
stop_turn text at is = turn_by_word (drop at text)
    (λ move. capital_none (get_or (drop at text) 0 0) here (move_parts (drop at text) move).0)
    (λ layers. digit_none (get_or (drop at text) 0 0) here (layers_parts (drop at text) layers).digit)
  where
    here : get_or (drop at text) 0 0 ≡ 46
    here =
        let none : at + 0 ≡ at = omega arith in
        get_or-drop at text 0 0 ∙ ap (λ n. get_or text n 0) none ∙ stop_byte text at is
