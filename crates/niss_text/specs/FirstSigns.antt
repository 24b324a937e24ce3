-- The first sign of a text, and what stands after signs of a class in front of it.
use Rattle.std.specs.Prelude.{◌≡◌, ℕ, ◌-◌, ◌<◌, ◌≤◌, true, false, List, length, take, drop, slice_index}
use Rattle.niss_text.specs.Signs.{IsSign, HasNoMoves, AreSigns, AreWords, ends_word, is_letter, is_of_letters, is_skipped, is_spacing}
use Rattle.niss_text.specs.Doubts.{is_capital, is_letter as is_plain_letter}
use Rattle.niss_text.specs.Kept.{HasTurns, IsTurnUpTo, is_turn}
use Rattle.niss_text.specs.declared.sign.Class.{Class}
use Rattle.niss_text.specs.declared.sign.Class.TheVariants.{Letters, NoBlanks, Skipped, Words}
use Rattle.niss_text.specs.declared.sign.Kind.TheVariants.{Capital, Colon}
use Rattle.niss_text.specs.declared.sign.Sign.{Sign}

-- A sign is the first one of a text: it has bytes of it, which are what its kind may be. A letter has one byte, each
-- letter of ASCII is told to be one, and none stands within a sign.
pub record IsFirstSign (text : List ℕ) (sign : Sign) : Type 0 where
  pub some : 0 < sign.length
  pub fits : sign.length ≤ length text
  pub is : IsSign sign.kind (take sign.length text)
  pub letter : is_of_letters sign.kind ≡ true → (sign.length ≡ 1) × (is_letter (slice_index text 0) ≡ true)
  pub plain : is_plain_letter (slice_index text 0) ≡ true → is_of_letters sign.kind ≡ true
  pub inner : (k : ℕ) → 0 < k → k < sign.length → is_plain_letter (slice_index text k) ≡ false

-- What the first sign of a text is if its first byte is one of turns, a colon or a blank of ASCII.
pub record IsOfAscii (text : List ℕ) (sign : Sign) : Type 0 where
  pub turn : is_turn (slice_index text 0) ≡ true → (ends_word sign.kind ≡ false) × (sign.length ≡ 1)
  pub capital : is_capital (slice_index text 0) ≡ true → sign.kind ≡ Capital
  pub colon : slice_index text 0 ≡ 58 → sign.kind ≡ Colon
  pub blank : slice_index text 0 ≡ 32 → (is_skipped sign.kind ≡ true) × (ends_word sign.kind ≡ true)

-- What stands after the signs of a class in front of a text is the rest of it. What was passed is of the class: blanks
-- and signs that aren't seen have no moves, words have only what words have, letters are letters, and of turns and blanks
-- all up to the next blank is passed. No sign of the class follows.
pub record IsBehind (class : Class) (text after : List ℕ) : Type 0 where
  pub fits : length after ≤ length text
  pub rest : after ≡ drop (length text - length after) text
  pub skipped : class ≡ Skipped → HasNoMoves (take (length text - length after) text)
  pub spacing : class ≡ Skipped → AreSigns is_spacing (take (length text - length after) text)
  pub words : class ≡ Words → AreWords (take (length text - length after) text)
  pub turns : class ≡ NoBlanks → HasTurns text → IsTurnUpTo text (length text - length after)
  pub unblank : class ≡ Skipped → slice_index after 0 ≡ 32 → ⊥
  pub letters : class ≡ Letters → (k : ℕ) → k < length text - length after → is_letter (slice_index text k) ≡ true
  pub all_letters : class ≡ Letters → is_plain_letter (slice_index after 0) ≡ false
  pub all_words : class ≡ Words → is_plain_letter (slice_index after 0) ≡ false
