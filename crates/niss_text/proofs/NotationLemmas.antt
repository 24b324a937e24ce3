-- Bytes of moves in the WCA's notation, one after another.
use Rattle.std.proofs.Common.{◌≡◌, ℕ, zero, suc, ◌+◌, ◌<◌, true, List, length, get_or, refl, sym, subst, arith}
use Rattle.std.proofs.lemmas.Bool.Decides.{nat_tests}
use Rattle.niss_text.specs.Doubts.{is_capital}
use Rattle.niss_text.specs.Kept.{AreInNotation, begins_line}
unfoldable use Rattle.niss_text.specs.Signs.{is_of_moves}
unfoldable use Rattle.niss_text.specs.Kept.{follows_move}

begins_so : (b : ℕ) → begins_line b ≡ true → follows_move 32 b ≡ true
unfolding follows_move
begins_so b is = grind (arith, nat_tests)

-- a line of moves begins with a byte that moves are made of, and so does a capital letter of one
pub line_begins : (b : ℕ) → begins_line b ≡ true → is_of_moves b ≡ true
unfolding is_of_moves
line_begins b is = grind (arith, nat_tests)

pub capital_moves : (b : ℕ) → is_capital b ≡ true → is_of_moves b ≡ true
unfolding is_of_moves
capital_moves b is = grind (arith, nat_tests)

-- each byte of moves follows the one before, the first one a blank
pub moves_follow : (text : List ℕ) (at before : ℕ) → AreInNotation text → at < length text → (at ≡ 0 → before ≡ 32) → ((k : ℕ) → k + 1 ≡ at → before ≡ get_or text k 0) →
    follows_move before (get_or text at 0) ≡ true
moves_follow text zero before moves lt first later =
    subst (λ a. follows_move a (get_or text 0 0) ≡ true) (sym (first refl)) (begins_so (get_or text 0 0) moves.first)
moves_follow text (suc k) before moves lt first later =
    let one : k + 1 ≡ suc k = omega arith in
    subst (λ a. follows_move a (get_or text (suc k) 0) ≡ true) (sym (later k one))
    (subst (λ n. follows_move (get_or text k 0) (get_or text n 0) ≡ true) one (moves.each k (omega (arith, lt))))
