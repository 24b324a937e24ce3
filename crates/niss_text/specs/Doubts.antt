-- What makes one doubt that a line is read as it was meant.
use Rattle.std.specs.Prelude.{◌≡◌, ℕ, ◌==◌, ◌+◌, ◌-◌, ◌<◌, ◌≤◌, ◌⊎◌, ◌&&◌, ◌||◌, Bool, true, false, not, if◌then◌else◌, List, slice_index, slice_range, codes}
use Rattle.niss_text.specs.Signs.{is_digit, is_within}
use Rattle.niss_text.specs.declared.doubts.Doubt.{Doubt}
use Rattle.niss_text.specs.declared.doubts.Doubt.TheVariants.{Nothing, AnotherScramble, SeveralSolutions, Side, Letters, SmallLetters, Comment, Repetition, Insertion, StepOrScramble, Signs}
use Rattle.niss_text.specs.declared.sights.Sight.{Sight}
use Rattle.niss_text.specs.declared.sights.Sight.TheVariants.{Small, Capital, Joined, Parted, Prime, Repeated, Marked, Comma, Gap, Joint, Pair}
use Rattle.niss_text.specs.declared.text_line.TextLine.{TextLine}

abbrev pub number_of : Doubt → ℕ
number_of Nothing = 0
number_of AnotherScramble = 1
number_of SeveralSolutions = 2
number_of Side = 3
number_of Letters = 4
number_of SmallLetters = 5
number_of Comment = 6
number_of Repetition = 7
number_of Insertion = 8
number_of StepOrScramble = 11
number_of Signs = 12

-- a letter of ASCII
abbrev pub is_letter : ℕ → Bool
is_letter b = is_within 65 90 b || is_within 97 122 b

-- an apostrophe of ASCII, or the last byte of one beyond it
abbrev pub is_prime : ℕ → Bool
is_prime b = (b == 39) || ((b == 96) || ((b == 152) || ((b == 153) || ((b == 178) || ((b == 180) || (b == 188))))))

-- what the sign of a move ends with
abbrev pub ends_move : ℕ → Bool
ends_move b = is_letter b || (is_digit b || is_prime b)

-- a small letter of an outer turn: u, d, r, l, f, b
abbrev pub is_small : ℕ → Bool
is_small b = (b == 117) || ((b == 100) || ((b == 114) || ((b == 108) || ((b == 102) || (b == 98)))))

-- a capital letter of an outer turn: U, D, R, L, F, B
abbrev pub is_capital : ℕ → Bool
is_capital b = (b == 85) || ((b == 68) || ((b == 82) || ((b == 76) || ((b == 70) || (b == 66)))))

-- a closed bracket
abbrev pub closes : ℕ → Bool
closes b = (b == 41) || (b == 93)

-- a sign before a number of times at a place: x, X, * or ^, or the two bytes of U+00D7
abbrev pub is_times : ℕ → Bool
is_times b = (b == 120) || ((b == 88) || ((b == 42) || (b == 94)))

abbrev pub is_cross : List ℕ → ℕ → Bool
is_cross text k = (slice_index text k == 195) && (slice_index text (k + 1) == 151)

-- where the last byte of such a sign stands
abbrev pub last_of_times : List ℕ → ℕ → ℕ
last_of_times text k = if slice_index text k == 195 then k + 1 else k

-- a closed bracket stands before a place, or a digit after it; there may be one blank between
unfoldable pub is_after_bracket : List ℕ → ℕ → Bool
is_after_bracket text k = closes (slice_index text (k - 1)) || ((slice_index text (k - 1) == 32) && closes (slice_index text (k - 2)))

unfoldable pub is_before_digit : List ℕ → ℕ → Bool
is_before_digit text k = is_digit (slice_index text (k + 1)) || ((slice_index text (k + 1) == 32) && is_digit (slice_index text (k + 2)))

-- moves in brackets are said at a place to be made several times, as by )x2
unfoldable pub is_repeated : List ℕ → ℕ → Bool
is_repeated text k = (is_times (slice_index text k) || is_cross text k) && (is_after_bracket text k && is_before_digit text (last_of_times text k))

-- one digit in square brackets at a place, after which a letter stands, or a blank and a letter
unfoldable pub is_marked : List ℕ → ℕ → Bool
is_marked text k = (slice_index text k == 91) && (is_digit (slice_index text (k + 1)) && ((slice_index text (k + 2) == 93)
    && (is_letter (slice_index text (k + 3)) || ((slice_index text (k + 3) == 32) && is_letter (slice_index text (k + 4))))))

-- a comma or a semicolon
abbrev pub is_comma : ℕ → Bool
is_comma b = (b == 44) || (b == 59)

-- what ends a move of a capital letter, or moves in brackets
abbrev pub ends_capital : ℕ → Bool
ends_capital b = is_capital b || (is_digit b || (is_prime b || closes b))

-- a move ends before a place, or a letter stands after it; there may be one blank between
unfoldable pub is_after_move : List ℕ → ℕ → Bool
is_after_move text k = ends_capital (slice_index text (k - 1)) || ((slice_index text (k - 1) == 32) && ends_capital (slice_index text (k - 2)))

unfoldable pub is_before_letter : List ℕ → ℕ → Bool
is_before_letter text k = is_letter (slice_index text (k + 1)) || ((slice_index text (k + 1) == 32) && is_letter (slice_index text (k + 2)))

-- a comma between a move and a letter
unfoldable pub is_between : List ℕ → ℕ → Bool
is_between text k = is_comma (slice_index text k) && (is_after_move text k && is_before_letter text k)

-- a blank at a place, and no comma beside it
unfoldable pub is_gap : List ℕ → ℕ → Bool
is_gap text k = (slice_index text k == 32) && not (is_comma (slice_index text (k - 1)) || is_comma (slice_index text (k + 1)))

-- a y between blanks at a place, which joins words in Spanish
unfoldable pub is_joint : List ℕ → ℕ → Bool
is_joint text k = (slice_index text k == 121) && ((slice_index text (k - 1) == 32) && (slice_index text (k + 1) == 32))

-- how many bytes a turn has whose letter stands at a place: with a 2, an apostrophe or U+2019, or none of them
abbrev pub turn_size : List ℕ → ℕ → ℕ
turn_size text k = if (slice_index text (k + 1) == 50) || (slice_index text (k + 1) == 39) then 2 else if slice_index text (k + 1) == 226 then 4 else 1

-- letters of opposite faces
abbrev pub are_opposite : ℕ → ℕ → Bool
are_opposite a b =
    if a == 85 then b == 68
    else if a == 68 then b == 85
    else if a == 82 then b == 76
    else if a == 76 then b == 82
    else if a == 70 then b == 66
    else (a == 66) && (b == 70)

-- the letters of two opposite faces stand at a place without signs, with one byte between: they name an axis
abbrev pub is_axis : List ℕ → ℕ → Bool
is_axis text k = are_opposite (slice_index text k) (slice_index text (k + 2)) && ((turn_size text k == 1) && (turn_size text (k + 2) == 1))

-- two turns of faces stand at a place, with a blank between, and no letter beside them, which name no axis
unfoldable pub is_pair : List ℕ → ℕ → Bool
is_pair text k = (is_capital (slice_index text k) && not (is_letter (slice_index text (k - 1)))) && ((slice_index text (k + turn_size text k) == 32)
    && ((is_capital (slice_index text (k + turn_size text k + 1)) && not (is_letter (slice_index text (k + turn_size text k + 2)))) && not (is_axis text k)))

-- What is seen at a place of a text, after the first one of a part of it: a small letter of an outer turn, a capital
-- one, a letter right after the sign of a move (but the w of a wide turn), a letter after something else, an
-- apostrophe, a number of times after brackets, a digit in square brackets before moves, a comma between a move and a letter, a blank
-- without a comma beside it, a y between blanks, or the first of two turns with a blank between.
unfoldable pub sees : List ℕ → Sight → ℕ → Bool
sees text Small k = is_small (slice_index text k)
sees text Capital k = is_capital (slice_index text k)
sees text Joined k = ends_move (slice_index text (k - 1)) && (is_letter (slice_index text k) && not (slice_index text k == 119))
sees text Parted k = not (ends_move (slice_index text (k - 1))) && is_letter (slice_index text k)
sees text Prime k = is_prime (slice_index text k)
sees text Repeated k = is_repeated text k
sees text Marked k = is_marked text k
sees text Comma k = is_between text k
sees text Gap k = is_gap text k
sees text Joint k = is_joint text k
sees text Pair k = is_pair text k

-- such a thing is seen nowhere in a part of a text
abbrev pub HasNone : List ℕ → Sight → ℕ → ℕ → Type 0
HasNone text sight from to = (k : ℕ) → from ≤ k → k < to → sees text sight k ≡ false

-- no letter of a part of a text stands right after the sign of a move
abbrev pub IsParted : List ℕ → ℕ → ℕ → Type 0
IsParted text from to = (k : ℕ) → from < k → k < to → sees text Joined k ≡ false

-- Letters of a part of a text that stand together are written as moves are: each letter stands so, and there is an
-- apostrophe.
pub record IsAsWritten (text : List ℕ) (from to : ℕ) : Type 0 where
  pub apart : (j : ℕ) → from < j → j < to → sees text Parted j ≡ true → IsParted text from to
  pub unprimed : ((j : ℕ) → from ≤ j → j < to → sees text Prime j ≡ false) → IsParted text from to

-- What makes one doubt a step beside its letters, and where: it is no other scramble and no step or scramble, and nothing
-- is said at the line's end. Small letters are in doubt where one stands and no capital one does. If nothing is, there are
-- none without a capital one, no digit in square brackets among the moves, no y that joins them, and no two turns after
-- them.
pub record DoubtsStep (text : List ℕ) (line : TextLine) (doubt : Doubt) (at : ℕ) : Type 0 where
  pub place : (line.begin ≤ at) × (at ≤ line.end)
  pub others : number_of doubt ≡ 4 → ⊥
  pub one : (number_of doubt ≡ 1 → ⊥) × (number_of doubt ≡ 11 → ⊥)
  pub nowhere : doubt ≡ Nothing → at ≡ line.end
  pub small : doubt ≡ SmallLetters → sees text Small at ≡ true
  pub no_capital : doubt ≡ SmallLetters → HasNone text Capital line.moves line.comment
  pub capital : doubt ≡ Nothing → HasNone text Capital line.moves line.comment → HasNone text Small line.moves line.comment
  pub unmarked : doubt ≡ Nothing → HasNone text Marked (line.moves + 1) line.comment
  pub unjoined : doubt ≡ Nothing → HasNone text Joint (line.moves + 1) line.comment
  pub unpaired : doubt ≡ Nothing → HasNone text Pair line.comment line.end

-- a line is a step, and nothing stands after its moves
pub record IsUncommentedStep (line : TextLine) : Type 0 where
  pub kind : line.kind ≡ 3
  pub comment : line.comment ≡ line.end

-- a head stands before the moves of a line, or a label does
abbrev pub HasTitle : TextLine → Type 0
HasTitle line = (line.begin < line.head_end) ⊎ (line.label_begin < line.label_end)

-- A line is a step that may be of a scramble: nothing stands after its moves, or what stands before them may call it one.
pub record MayBeScramble (line : TextLine) : Type 0 where
  pub kind : line.kind ≡ 3
  pub said : (line.comment ≡ line.end) ⊎ HasTitle line

-- the head of a line, or its label, is the word for a scramble
abbrev pub IsCalledScramble : List ℕ → TextLine → Type 0
IsCalledScramble text line = (slice_range text line.begin line.head_end ≡ codes "Scramble:")
    ⊎ (slice_range text line.label_begin line.label_end ≡ codes "Scramble")

-- What is said to make a line doubtful stands there, and nothing at its end. Nothing is said of a line before a
-- scramble, of another scramble only in one, of several solutions only in a step, of moves in comments in either or in
-- a note, of small letters only in a scramble, or in a step without a capital one. A line of the scramble or of the solution of which
-- nothing is said has no letters together that aren't written as moves, and no number of times after brackets; one of
-- the scramble has no small letter of a turn either, and one of the solution none without a capital one, and no digit
-- in square brackets among its moves. In both no comma stands among moves of which others are parted by blanks. Only a line of
-- a scramble may have a step too, and only a step may be of one, which is called so or after which nothing is said. One that is
-- called so is told.
pub record IsDoubted (text : List ℕ) (line : TextLine) : Type 0 where
  pub place : (line.begin ≤ line.doubt_at) × (line.doubt_at ≤ line.end)
  pub number : (line.doubt ≤ 8) ⊎ ((11 ≤ line.doubt) × (line.doubt ≤ 12))
  pub nowhere : line.doubt ≡ 0 → line.doubt_at ≡ line.end
  pub before : line.kind < 2 → line.doubt ≡ 0
  pub another : line.doubt ≡ 1 → line.kind ≡ 2
  pub several : line.doubt ≡ 2 → line.kind ≡ 3
  pub comment : line.doubt ≡ 6 → (2 ≤ line.kind) × (line.kind ≤ 4)
  pub small : line.doubt ≡ 5 → ((2 ≤ line.kind) × (line.kind ≤ 3)) × (sees text Small line.doubt_at ≡ true)
  pub no_capital : line.doubt ≡ 5 → line.kind ≡ 3 → HasNone text Capital line.moves line.comment
  pub letters : line.doubt ≡ 4 → sees text Joined line.doubt_at ≡ true
  pub scramble : line.doubt ≡ 0 → line.kind ≡ 2 → IsAsWritten text line.moves line.comment
  pub solution : line.doubt ≡ 0 → line.kind ≡ 3 → line.is_solution ≡ 1 → IsAsWritten text line.moves line.comment
  pub no_small : line.doubt ≡ 0 → line.kind ≡ 2 → HasNone text Small line.moves line.comment
  pub capital : line.doubt ≡ 0 → line.kind ≡ 3 → line.is_solution ≡ 1 → HasNone text Capital line.moves line.comment →
      HasNone text Small line.moves line.comment
  pub once : line.doubt ≡ 0 → line.kind ≡ 2 → HasNone text Repeated line.moves line.comment
  pub once_solved : line.doubt ≡ 0 → line.kind ≡ 3 → line.is_solution ≡ 1 → HasNone text Repeated line.moves line.comment
  pub commas : line.doubt ≡ 0 → (line.kind ≡ 2) ⊎ ((line.kind ≡ 3) × (line.is_solution ≡ 1)) →
      HasNone text Comma line.moves (line.comment - 2) ⊎ HasNone text Gap line.moves line.comment
  pub of_scramble : line.doubt ≡ 11 → (line.kind ≡ 2) ⊎ MayBeScramble line
  pub called : line.kind ≡ 3 → IsCalledScramble text line → line.doubt ≡ 11
  pub unmarked : line.doubt ≡ 0 → line.kind ≡ 3 → line.is_solution ≡ 1 → HasNone text Marked (line.moves + 1) line.comment
  pub unjoined : line.doubt ≡ 0 → line.kind ≡ 3 → line.is_solution ≡ 1 → HasNone text Joint (line.moves + 1) line.comment
  pub unpaired : line.doubt ≡ 0 → line.kind ≡ 3 → line.is_solution ≡ 1 → HasNone text Pair line.comment line.end
