-- Blanks of a text, and places before them.
use Rattle.std.specs.Prelude.{ℕ, ◌-◌, ◌==◌, if◌then◌else◌, Bool, not, ◌||◌, Option, None, Some, List, find, slice_index}
use Rattle.std.specs.List.{range_with_len}
use Rattle.std.specs.Option.{option_map}
use Rattle.niss_text.specs.declared.text_line.TextLine.{TextLine}

abbrev pub is_blank : ℕ → Bool
is_blank b = (b == 9) || (b == 32)

-- How many blanks end a stretch of a text, if it has another byte too, and the place of the last one that isn't a blank.
abbrev pub blanks_before : List ℕ → (begin end : ℕ) → Option ℕ
blanks_before text begin end = find (λ n. not (is_blank (slice_index text (end - 1 - n)))) (range_with_len 0 (end - begin))

abbrev pub last_place : List ℕ → (begin end : ℕ) → Option ℕ
last_place text begin end = option_map (λ n. end - 1 - n) (blanks_before text begin end)

-- the place of the last byte of the moves of a line
abbrev pub last_of_moves : List ℕ → TextLine → Option ℕ
last_of_moves text line = last_place text line.moves line.comment

-- a place, if what is said of it is true
abbrev pub place_if : (ℕ → Bool) → Option ℕ → Option ℕ
place_if test None = None
place_if test (Some at) = if test at then Some at else None
