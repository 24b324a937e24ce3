-- A letter that stands by itself at an end of the moves of a step, which may be of words.
use Rattle.std.specs.Prelude.{ℕ, ◌+◌, ◌-◌, ◌==◌, nat_lt, if◌then◌else◌, Bool, ◌&&◌, ◌||◌, Option, None, Some, List, slice_index}
use Rattle.std.specs.Option.{option_or}
use Rattle.niss_moves.specs.Facelets.{face_letter}
use Rattle.niss_moves.specs.declared.turn.Face.{Face}
use Rattle.niss_moves.specs.declared.turn.Power.{Power}
use Rattle.niss_moves.specs.declared.turn.Power.TheVariants.{Quarter, Half, Counter}
use Rattle.niss_moves.specs.declared.turn.Turn.{Turn}
use Rattle.niss_text.specs.declared.text_line.TextLine.{TextLine}
use Rattle.niss_attempts.specs.Blanks.{is_blank, last_of_moves, place_if}

-- The last byte of the moves of a line stands by itself: at their begin, or after a blank.
abbrev pub is_bare_last : List ℕ → TextLine → ℕ → Bool
is_bare_last text line at = (at == line.moves) || is_blank (slice_index text (at - 1))

abbrev pub bare_last : List ℕ → TextLine → Option ℕ
bare_last text line = place_if (is_bare_last text line) (last_of_moves text line)

-- The first one does: it is the only one, or a blank follows.
abbrev pub is_bare_first : List ℕ → TextLine → Bool
is_bare_first text line = nat_lt line.moves line.comment && ((line.comment - line.moves == 1) || is_blank (slice_index text (line.moves + 1)))

abbrev pub bare_first : List ℕ → TextLine → Option ℕ
bare_first text line = if is_bare_first text line then Some line.moves else None

-- the same of a line, if there is one
abbrev pub bare_last_of : List ℕ → Option TextLine → Option ℕ
bare_last_of text None = None
bare_last_of text (Some line) = bare_last text line

abbrev pub bare_first_of : List ℕ → Option TextLine → Option ℕ
bare_first_of text None = None
bare_first_of text (Some line) = bare_first text line

-- a place at which the capital letter of a face stands
abbrev pub letter_if : List ℕ → Face → Option ℕ → Option ℕ
letter_if text f place = place_if (λ at. slice_index text at == face_letter f) place

-- what is there, of a turn counterclockwise
abbrev pub if_counter : Power → Option ℕ → Option ℕ
if_counter Quarter place = None
if_counter Half place = None
if_counter Counter place = place

-- The place of the letter between two steps that a turn counterclockwise takes back: that with which the first one ends, else that
-- with which the second one begins.
abbrev pub letter_between : List ℕ → (above below : Option TextLine) → Turn → Option ℕ
letter_between text above below t =
    if_counter t.power (option_or (letter_if text t.face (bare_last_of text above)) (letter_if text t.face (bare_first_of text below)))
