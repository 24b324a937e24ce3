-- A turn that the text of an attempt shows beside one of its steps, though it isn't among their moves.
use Rattle.std.specs.Prelude.{◌≡◌, ℕ, zero, suc, ◌+◌, ◌-◌, ◌==◌, nat_lt, min, if◌then◌else◌, Bool, true, false, not, ◌&&◌, ◌||◌, Option, None, Some, List, [], ◌∷◌, ◌++◌, length, drop, flat_map, filter, find, slice_get, slice_index, slice_range}
use Rattle.std.specs.List.{range_with_len}
use Rattle.std.specs.Option.{option_map, option_or, option_to_list}
use Rattle.niss_moves.specs.Facelets.{face_letter}
use Rattle.niss_moves.specs.declared.turn.Face.{Face}
use Rattle.niss_moves.specs.declared.turn.Face.TheVariants.{U, D, R, L, F, B}
use Rattle.niss_moves.specs.declared.turn.Power.{Power}
use Rattle.niss_moves.specs.declared.turn.Power.TheVariants.{Quarter, Half, Counter}
use Rattle.niss_moves.specs.declared.turn.Turn.{Turn}
use Rattle.niss_text.specs.Moves.{is_wanted}
use Rattle.niss_text.specs.Signs.{is_digit, is_within}
use Rattle.niss_text.specs.declared.moves.MovesOf.TheVariants.{EachStep}
use Rattle.niss_text.specs.declared.text_line.TextLine.{TextLine}
use Rattle.niss_attempts.specs.BareLetter.{letter_between}
use Rattle.niss_attempts.specs.Blanks.{last_of_moves, last_place, place_if}
use Rattle.niss_attempts.specs.Doubts.{doubt}
use Rattle.niss_attempts.specs.declared.doubts.Doubt.{Doubt}
use Rattle.niss_attempts.specs.declared.doubts.Reason.TheVariants.{Insertion, Comment, Signs}
use Rattle.niss_attempts.specs.declared.doubts.shown_turn.Border.{Border}

-- what stands after the letter of a turn, or a blank
abbrev pub suffix_byte : Power → ℕ
suffix_byte Quarter = 32
suffix_byte Half = 50
suffix_byte Counter = 39

-- a turn between blanks
abbrev pub turn_bytes : Turn → List ℕ
turn_bytes t = 32 ∷ face_letter t.face ∷ suffix_byte t.power ∷ 32 ∷ []

-- the letter of a face, capital or small, and that of some face
abbrev pub is_letter_of : Face → ℕ → Bool
is_letter_of f b = (b == face_letter f) || (b == face_letter f + 32)

abbrev pub is_face_letter : ℕ → Bool
is_face_letter b =
    is_letter_of U b || (is_letter_of D b || (is_letter_of R b || (is_letter_of L b || (is_letter_of F b || is_letter_of B b))))

-- A byte is of a word: a letter or a digit of ASCII, or one of `:;<=`, which make a face with a letter.
abbrev pub is_of_word : ℕ → Bool
is_of_word b = is_within 48 61 b || (is_within 65 90 b || is_within 97 122 b)

-- A letter before such a byte is of a word too, unless that is a 2 or a 3, which may be of a turn.
abbrev pub goes_on : ℕ → Bool
goes_on b = is_of_word b && not ((b == 50) || (b == 51))

-- A letter at a place of a text isn't within a word.
abbrev pub is_apart : List ℕ → ℕ → Bool
is_apart text at = not (is_of_word (slice_index text (at - 1)) || goes_on (slice_index text (at + 1)))

-- The letter of a face stands at a place of a text, and isn't within a word.
unfoldable pub stands_at : List ℕ → Face → ℕ → Bool
stands_at text f at = is_letter_of f (slice_index text at) && is_apart text at

-- the places of a line's comment, as far as it goes in a text, and the first of them at which a face stands
abbrev pub comment_places : List ℕ → TextLine → List ℕ
comment_places text line = range_with_len line.comment (min line.end (length text) - line.comment)

abbrev pub said_in : List ℕ → TextLine → Face → Option ℕ
said_in text line f = find (stands_at text f) (comment_places text line)

-- signs that look like letters, or stand for one
abbrev pub is_stray : ℕ → Bool
is_stray b = (b == 33) || ((b == 38) || ((b == 63) || (b == 124)))

-- brackets around nothing
abbrev pub is_empty_bracket : List ℕ → Bool
is_empty_bracket bytes = (slice_index bytes 0 == 40) && (slice_index bytes 1 == 41)

-- The moves of a line end in brackets around nothing, the second of which stands at this place, and begin before these.
abbrev pub ends_bracket : List ℕ → TextLine → ℕ → Bool
ends_bracket text line at = nat_lt line.moves (at - 1) && is_empty_bracket (slice_range text (at - 1) (at + 1))

abbrev pub last_bracket : List ℕ → TextLine → Option ℕ
last_bracket text line = option_map (λ at. at - 1) (place_if (ends_bracket text line) (last_of_moves text line))

-- The place of a sign after the moves of a line: a stray one or a digit with which what follows these begins, or brackets
-- around nothing at their end.
abbrev pub sign_after : List ℕ → TextLine → Option ℕ
sign_after text line =
    let b = slice_index text line.comment in
    if nat_lt line.comment line.end && (is_stray b || is_digit b) then Some line.comment else None

abbrev pub last_sign : List ℕ → TextLine → Option ℕ
last_sign text line = option_or (sign_after text line) (last_bracket text line)

-- The place of a sign before the moves of a line: a stray one, between which and these only blanks stand, on the label's
-- side; or brackets around nothing at their beginning.
abbrev pub first_bracket : List ℕ → TextLine → Option ℕ
first_bracket text line = if is_empty_bracket (slice_range text line.moves line.comment) then Some line.moves else None

abbrev pub first_sign : List ℕ → TextLine → Option ℕ
first_sign text line =
    option_or (place_if (λ at. is_stray (slice_index text at)) (last_place text line.label_begin line.moves)) (first_bracket text line)

-- the steps among lines, the one of a number, and the one after which a step of that number stands
abbrev pub steps_among : List TextLine → List TextLine
steps_among lines = filter (is_wanted EachStep) lines

abbrev pub step_at : List TextLine → ℕ → Option TextLine
step_at lines k = slice_get (steps_among lines) k

abbrev pub step_above : List TextLine → ℕ → Option TextLine
step_above lines zero = None
step_above lines (suc k) = step_at lines k

-- the signs beside the moves of a line, and of all steps; whether there is a single one
abbrev pub signs_of : List ℕ → TextLine → List ℕ
signs_of text line = option_to_list (first_sign text line) ++ option_to_list (last_sign text line)

abbrev pub signs_among : List ℕ → List TextLine → List ℕ
signs_among text lines = flat_map (signs_of text) (steps_among lines)

abbrev pub has_one_sign : List ℕ → List TextLine → Bool
has_one_sign text lines = length (signs_among text lines) == 1

-- the same of a line, if there is one
abbrev pub said_in_step : List ℕ → Option TextLine → Face → Option ℕ
said_in_step text None f = None
said_in_step text (Some line) f = said_in text line f

abbrev pub last_sign_of : List ℕ → Option TextLine → Option ℕ
last_sign_of text None = None
last_sign_of text (Some line) = last_sign text line

abbrev pub first_sign_of : List ℕ → Option TextLine → Option ℕ
first_sign_of text None = None
first_sign_of text (Some line) = first_sign text line

-- the sign between two steps, if it is the only one
abbrev pub sign_between : List ℕ → (above below : Option TextLine) → (is_one : Bool) → Option ℕ
sign_between text above below false = None
sign_between text above below true = option_or (last_sign_of text above) (first_sign_of text below)

-- the doubt of what is said, that moves belong there, else of a letter that may be of words, else of a sign
abbrev pub shown_by : (said letter sign : Option ℕ) → Option Doubt
shown_by said letter sign = option_or (option_or (option_map (doubt Insertion) said) (option_map (doubt Comment) letter)) (option_map (doubt Signs) sign)

-- The doubt of a turn that the text shows between two steps: by its face in the comment of the first, else of the second,
-- else by a letter that it takes back, else by the only sign.
abbrev pub shown_between : List ℕ → (above below : Option TextLine) → (is_one : Bool) → Turn → Option Doubt
shown_between text above below is_one t =
    shown_by (option_or (said_in_step text above t.face) (said_in_step text below t.face)) (letter_between text above below t)
    (sign_between text above below is_one)

-- the same before the step of a number, or after the last one
abbrev pub shown_at : List ℕ → List TextLine → ℕ → Turn → Option Doubt
shown_at text lines k t = shown_between text (step_above lines k) (step_at lines k) (has_one_sign text lines) t

-- This is what stands before the step of a number, or after the last one, with the lines after that step.
pub record IsBorder (text : List ℕ) (lines : List TextLine) (k : ℕ) (border : Border) : Type 0 where
  pub text_is : border.text.now ≡ text
  pub number_is : border.number ≡ k
  pub above_is : border.above ≡ step_above lines k
  pub below_is : border.below ≡ step_at lines k
  pub one_is : border.has_one_sign ≡ has_one_sign text lines
  pub rest_is : steps_among border.rest.now ≡ drop (k + 1) (steps_among lines)
