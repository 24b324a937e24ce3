-- The lines of a text, one after another, where their parts stand, and what is told of them.
use Rattle.std.specs.Prelude.{◌≡◌, ℕ, zero, suc, ◌==◌, ◌+◌, ◌-◌, ◌<◌, ◌≤◌, ◌⊎◌, ◌||◌, ◌&&◌, Bool, true, false, if◌then◌else◌, List, [], ◌∷◌, length, get_or, slice_index, slice_range, nat_lt}
use Rattle.niss_text.specs.Signs.{ends_line, HasNoMoves}
use Rattle.niss_text.specs.Doubts.{IsDoubted}
use Rattle.niss_text.specs.Kept.{HasOnlyWords, LosesNone, AreInNotation, ArePlain, ArePlainBefore, begins_with_turn, words_of_any_head, words_of_head}
use Rattle.niss_text.specs.Said.{HasNoSlashes, IsLabelled, IsSided, SaysSolution, label_in}
use Rattle.niss_text.specs.declared.text_line.TextLine.{TextLine}

-- A line that begins there. Its parts stand in this order, and none overlaps another. Only a step is on the inverse.
-- What is said of it by 0 or 1 is said by nothing else.
pub record IsLine (from : ℕ) (line : TextLine) : Type 0 where
  pub begins : line.begin ≡ from
  pub head : line.begin ≤ line.head_end
  pub label : line.head_end ≤ line.label_begin
  pub words : line.label_begin ≤ line.label_end
  pub title : line.label_end ≤ line.moves
  pub moves : line.moves ≤ line.comment
  pub comment : line.comment ≤ line.end
  pub inverse : (line.is_inverse ≡ 0) ⊎ (line.kind ≡ 3)
  pub kind : line.kind ≤ 4
  pub flags : (line.is_solution ≤ 1) × (line.is_headed ≤ 1) × (line.says_solution ≤ 1) × (line.is_inverse ≤ 1)

-- Two lines are of one kind and in one group, have their parts in the same places, and say the same.
pub record IsPlacedAs (line other : TextLine) : Type 0 where
  pub attempt : other.attempt ≡ line.attempt
  pub group : other.group ≡ line.group
  pub flags : (other.is_solution ≡ line.is_solution) × ((other.is_headed ≡ line.is_headed) × (other.says_solution ≡ line.says_solution))
  pub kind : other.kind ≡ line.kind
  pub head : other.head_end ≡ line.head_end
  pub label : (other.label_begin ≡ line.label_begin) × (other.label_end ≡ line.label_end)
  pub moves : (other.moves ≡ line.moves) × (other.comment ≡ line.comment)

-- What is told of a line of a text: what makes one doubt it, whether it is on the inverse, and whether it has a head,
-- which has no letters but those of some words. Its label has a word for a solution, and none for a step before that,
-- if it is told to say that one follows. It loses no move before its moves, which are no label where they begin it;
-- nothing that moves are made of stands in a blank one after its head; no comment begins among the moves; what is said
-- after them doesn't begin with a move by itself; and a line that is moves in the WCA's notation is of a scramble or a
-- step, all of it, or all up to the slashes if a comment follows moves that begin with the turn of a face.
pub record IsToldBy (words : List (List ℕ)) (text : List ℕ) (line : TextLine) : Type 0 where
  pub doubted : IsDoubted text line
  pub sided : IsSided text line
  pub headed : line.is_headed ≡ (if nat_lt line.begin line.head_end then 1 else 0)
  pub says : line.says_solution ≡ 1 → SaysSolution (label_in text line)
  pub kept : LosesNone words text line.begin line.head_end line.label_begin line.label_end line.moves
  pub labelled : IsLabelled text (slice_range text line.label_begin line.end) line.label_begin line.moves
  pub blank : line.kind ≡ 0 → HasNoMoves (slice_range text line.head_end line.end)
  pub comment : begins_with_turn (slice_range text line.comment line.end) ≡ false
  pub uncommented : HasNoSlashes (slice_range text line.moves line.comment)
  pub plain : AreInNotation (slice_range text line.begin line.end) →
      ((line.kind ≡ 2) ⊎ (line.kind ≡ 3)) × ((line.moves ≡ line.begin) × (line.comment ≡ line.end))
  pub commented : (count : ℕ) → ArePlainBefore (slice_range text line.begin line.end) count →
      ((line.kind ≡ 2) ⊎ (line.kind ≡ 3)) × ((line.moves ≡ line.begin) × (line.comment ≡ line.begin + count))

-- what is told of a line of any text: only with known scrambles a head may have other words
abbrev pub IsTold : List ℕ → TextLine → Type 0
IsTold text line = IsToldBy words_of_head text line

-- how many bytes of two end a line: a return and a line feed both, either of them alone, or none
abbrev pub end_of : ℕ → ℕ → ℕ
end_of a b = if ends_line a then (if (a == 13) && (b == 10) then 2 else 1) else 0

-- how many bytes end a line there: none if the text ends
abbrev pub end_size : List ℕ → ℕ → ℕ
end_size text at = end_of (slice_index text at) (slice_index text (at + 1))

-- that many bytes of a text from there on don't end a line
abbrev pub IsUnbroken : List ℕ → ℕ → ℕ → Type 0
IsUnbroken text from size = (k : ℕ) → k < size → ends_line (slice_index text (from + k)) ≡ false

-- there a line of a text ends: by what ends lines, or since the text ends
abbrev pub IsEnd : List ℕ → ℕ → Type 0
IsEnd text at = at < length text → ends_line (slice_index text at) ≡ true

-- That many lines stand in a text from one place to another: each has a byte at least, if only of what ends it.
unfoldable pub Counts : List ℕ → ℕ → ℕ → ℕ → Type 0
Counts text from zero to = from ≡ to
Counts text from (suc count) to =
    (from < length text) × ((size : ℕ) × IsUnbroken text from size × IsEnd text (from + size) × Counts text (from + size + end_size text (from + size)) count to)

-- So many lines stand in a text up to an end, all in all: that many before a place, and the others from there on.
abbrev pub Remain : (text : List ℕ) (all before at end : ℕ) → Type 0
Remain text all before at end = (rest : ℕ) × (before + rest ≡ all) × Counts text at rest end

-- The lines of a text from one place to another, with heads of some words: each of bytes that don't end it, and up to
-- what does.
unfoldable pub CoversBy : List (List ℕ) → List ℕ → ℕ → List TextLine → ℕ → Type 0
CoversBy words text from [] to = from ≡ to
CoversBy words text from (line ∷ lines) to =
    IsLine from line × (IsToldBy words text line × ((size : ℕ) × (line.end ≡ from + size) × IsUnbroken text from size
    × IsEnd text line.end × CoversBy words text (line.end + end_size text line.end) lines to))

-- the lines of any text
abbrev pub Covers : List ℕ → ℕ → List TextLine → ℕ → Type 0
Covers text from lines to = CoversBy words_of_head text from lines to

-- whether moves are in a line, by its kind: it is of a scramble or a step
abbrev pub has_moves : TextLine → Bool
has_moves line = (line.kind == 2) || (line.kind == 3)

-- A head may stand in a line from one place to another: there are no letters but those of some words.
pub record MayBeHead (allowed : List (List ℕ)) (text : List ℕ) (from to : ℕ) : Type 0 where
  pub order : from ≤ to
  pub unbroken : IsUnbroken text from (to - from)
  pub words : HasOnlyWords allowed (slice_range text from to)

-- Lines of a text from one place to another, in each of which no moves are, as it is told. Nothing stands between them,
-- before the first and after the last but heads, of some words.
unfoldable pub Passes : List (List ℕ) → List ℕ → ℕ → List TextLine → ℕ → Type 0
Passes words text from [] to = MayBeHead words text from to
Passes words text from (line ∷ lines) to =
    MayBeHead words text from line.begin × (IsLine line.begin line × (IsToldBy words text line × ((has_moves line ≡ false) × ((size : ℕ) × (line.end ≡ line.begin + size)
    × IsUnbroken text line.begin size × IsEnd text line.end × Passes words text (line.end + end_size text line.end) lines to))))

-- What stands in a text from one place to another has no moves: lines without any, and heads of some words.
abbrev pub HasNoneBy : List (List ℕ) → List ℕ → ℕ → ℕ → Type 0
HasNoneBy words text from to = (lines : List TextLine) × Passes words text from lines to

-- Some of the lines of a text from one place to another, in order: each from some place in its line to what ends that.
-- What stands between them, before the first and after the last has no moves.
unfoldable pub TakesBy : List (List ℕ) → List ℕ → ℕ → List TextLine → ℕ → Type 0
TakesBy words text from [] to = HasNoneBy words text from to
TakesBy words text from (line ∷ lines) to =
    HasNoneBy words text from line.begin × (IsLine line.begin line × (IsTold text line × ((size : ℕ) × (line.end ≡ line.begin + size) × IsUnbroken text line.begin size
    × IsEnd text line.end × TakesBy words text (line.end + end_size text line.end) lines to)))

-- both in a text of known scrambles
abbrev pub HasNoneBetween : List ℕ → ℕ → ℕ → Type 0
HasNoneBetween text from to = HasNoneBy words_of_any_head text from to

abbrev pub Takes : List ℕ → ℕ → List TextLine → ℕ → Type 0
Takes text from lines to = TakesBy words_of_any_head text from lines to

-- A line of a text goes from one place to another, and is plain moves, or those up to the slashes of a comment.
pub record IsPlainLine (text : List ℕ) (begin end : ℕ) : Type 0 where
  pub first : (begin ≡ 0) ⊎ ((k : ℕ) × (begin ≡ k + 1) × (ends_line (slice_index text k) ≡ true))
  pub unbroken : IsUnbroken text begin (end - begin)
  pub ended : IsEnd text end
  pub within : end ≤ length text
  pub plain : ArePlain (slice_range text begin end) ⊎ ((count : ℕ) × ArePlainBefore (slice_range text begin end) count)

-- each line of a text that is plain moves is one of these
abbrev pub TellsPlain : List ℕ → List TextLine → Type 0
TellsPlain text lines = (begin end : ℕ) → IsPlainLine text begin end →
    (k : ℕ) × (k < length lines) × ((none : TextLine) → ((get_or lines k none).begin ≡ begin) × ((get_or lines k none).end ≡ end))

-- The attempts of lines are numbered in order, from that many on: a line is of the next one, or of the same as the line
-- before. After the lines these are so many.
unfoldable pub AreNumbered : ℕ → List TextLine → ℕ → Type 0
AreNumbered seen [] all = seen ≡ all
AreNumbered seen (line ∷ lines) all =
    ((line.attempt ≡ seen) × AreNumbered (seen + 1) lines all) ⊎ ((line.attempt + 1 ≡ seen) × AreNumbered seen lines all)

-- Lines that are written after that many others, up to all of them, go on with their numbers: those from any first one on
-- are numbered with the new ones as they were without.
abbrev pub NumbersOn : (old new : List TextLine) (written all number after : ℕ) → Type 0
NumbersOn old new written all number after = (seen first : ℕ) → first ≤ written → AreNumbered seen (slice_range old first written) number →
    all ≤ length new → AreNumbered seen (slice_range new first all) after

-- Those are a text's first lines, in order, and so are the numbers of their attempts.
abbrev pub Begins : List ℕ → List TextLine → Type 0
Begins text lines = (to : ℕ) × Covers text 0 lines to

abbrev pub BeginNumbered : List TextLine → Type 0
BeginNumbered lines = (all : ℕ) × AreNumbered 0 lines all
