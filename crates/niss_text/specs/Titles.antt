-- Moves with what is said of them: words before a colon that are no label, and a turn that is told from words by itself.
use Rattle.std.specs.Prelude.{◌≡◌, ℕ, ◌+◌, ◌-◌, ◌==◌, ◌<◌, ◌⊎◌, Bool, true, false, not, ◌||◌, ◌&&◌, List, length, drop, slice_index, if◌then◌else◌}
use Rattle.niss_text.specs.Signs.{is_within, parts_words}
use Rattle.niss_text.specs.Doubts.{is_axis, is_capital, is_letter}

-- a slash stands at a place of a text between the letters of two opposite faces, which name an axis, as in R/L
unfoldable pub parts_axis : List ℕ → ℕ → Bool
parts_axis text k = (slice_index text k == 47) && is_axis text (k - 1)

-- Bytes are the words of a label: they are words, but for the slashes of axes.
abbrev pub AreLabelWords : List ℕ → Type 0
AreLabelWords bytes = (k : ℕ) → k < length bytes → parts_words (slice_index bytes k) ≡ true → parts_axis bytes k ≡ true

-- a text begins with two turns of faces, or with a half one, each by itself
unfoldable pub begins_with_step : List ℕ → Bool
begins_with_step text = is_capital (slice_index text 0) &&
    (((slice_index text 1 == 50) && not (is_letter (slice_index text 2)))
    || ((slice_index text 1 == 32) && (is_capital (slice_index text 2) && not (is_letter (slice_index text 3)))))

-- a text begins with a blank or an opened bracket, and a turn of a face after it
unfoldable pub turn_follows : List ℕ → Bool
turn_follows text = ((slice_index text 0 == 32) || (slice_index text 0 == 40)) &&
    (is_capital (slice_index text 1) && not (is_letter (slice_index text 2)))

-- such a turn stands in bytes
abbrev pub HasTurn : List ℕ → Type 0
HasTurn bytes = (k : ℕ) × (turn_follows (drop k bytes) ≡ true)

-- a byte of ASCII that is no blank: after a colon it says that this is of a time or a face, as in 0:45
abbrev pub is_joined : ℕ → Bool
is_joined b = is_within 33 126 b

-- Words before a colon are no step with what is said of it: no moves begin them, and none follow a blank in them if the
-- colon is of a time or a face.
pub record IsNoStep (words after : List ℕ) : Type 0 where
  pub front : begins_with_step words ≡ false
  pub joined : is_joined (slice_index after 0) ≡ true → (k : ℕ) → slice_index words k ≡ 32 → begins_with_step (drop (k + 1) words) ≡ false

-- a text begins with a half turn of a face and another turn, with a blank between
unfoldable pub begins_with_pair : List ℕ → Bool
begins_with_pair text = is_capital (slice_index text 0) && ((slice_index text 1 == 50) && ((slice_index text 2 == 32)
    && (is_capital (slice_index text 3) && not (is_letter (slice_index text 4)))))

-- no such turns stand in words
abbrev pub HasNoPair : List ℕ → Type 0
HasNoPair words = (k : ℕ) → k < length words → begins_with_pair (drop k words) ≡ false

-- They are a label, or words that say nothing of moves: a turn follows the colon, and no two stand side by side before it; or they are
-- no step.
abbrev pub IsTitle : (words after : List ℕ) → Type 0
IsTitle words after = HasTurn after × HasNoPair words ⊎ IsNoStep words after

-- a 2, or an apostrophe of those that are told, begins with three bytes
unfoldable pub has_sign : ℕ → ℕ → ℕ → Bool
has_sign a b c =
    if (a == 50) || ((a == 39) || (a == 96)) then true
    else if a == 194 then b == 180
    else if a == 202 then b == 188
    else (a == 226) && ((b == 128) && ((c == 152) || ((c == 153) || (c == 178))))

-- a word is a turn of a face with such a sign
abbrev pub is_marked : List ℕ → Bool
is_marked word = is_capital (slice_index word 0) && has_sign (slice_index word 1) (slice_index word 2) (slice_index word 3)

-- a label is the sign of a list: -, * or U+2022
unfoldable pub is_bullet : List ℕ → Bool
is_bullet label =
    ((length label == 1) && ((slice_index label 0 == 45) || (slice_index label 0 == 42)))
    || ((length label == 3) && ((slice_index label 0 == 226) && ((slice_index label 1 == 128) && (slice_index label 2 == 162))))
