-- What a text is read as: pieces, one after another, of which each is written in its place or left out.
use Rattle.std.specs.Prelude.{◌≡◌, ℕ, ◌+◌, ◌<◌, ◌≤◌, Bool, true, false, List, [], ◌∷◌, ◌++◌, length, replicate, take, drop, slice_index, ◌⊎◌}
use Rattle.niss_text.specs.declared.piece.Piece.{Piece}
use Rattle.niss_text.specs.declared.piece.Place.{Place}
use Rattle.niss_text.specs.declared.piece.Place.TheVariants.{Begin, Numbered, Moves, Among}
use Rattle.niss_text.specs.declared.piece.Piece.TheVariants.{Kept, Blank, LineEnd, Comma, Apostrophe, Unseen, Label, LineNumber, MoveCount, Comment}
use Rattle.niss_text.specs.Signs.{IsOneOf, is_blank, is_line_end, is_comma, is_apostrophe, is_unseen, is_colon, is_letter, ends_line, begins_number, begins_changed}
use Rattle.niss_text.specs.Titles.{AreLabelWords}
use Rattle.niss_text.specs.Kept.{AreTurns, BeginNoMoves, BeginsWithTitle, HasOnlyWords, IsCount, IsTitleEnd, words_of_title}

-- A piece of a text, with its bytes.
pub record Part : Type 0 where
  pub kind : Piece
  pub bytes : List ℕ

abbrev pub part : Piece → List ℕ → Part
part kind bytes = record { kind = kind; bytes = bytes }

-- no byte of these ends a line
abbrev pub IsWithinLine : List ℕ → Type 0
IsWithinLine bytes = (k : ℕ) → k < length bytes → ends_line (slice_index bytes k) ≡ false

-- Words of a label that are no turns end with a colon, before which a number of moves may stand.
pub record EndsWithColon (bytes : List ℕ) : Type 0 where
  pub words : List ℕ
  pub title : List ℕ
  pub colon : List ℕ
  pub whole : words ++ (title ++ colon) ≡ bytes
  pub are_words : AreLabelWords words
  pub no_turns : AreTurns words → ⊥
  pub end : IsTitleEnd title
  pub is : is_colon colon ≡ true

-- A label is words with a colon at their end, or has no letters but those of the words before a scramble, and of that before
-- a total.
abbrev pub IsLabel : List ℕ → Type 0
IsLabel bytes = EndsWithColon bytes ⊎ HasOnlyWords words_of_title bytes

-- What each kind of piece may be. A sign that is written otherwise or not is one of those that its kind has, and has
-- no byte of moves. A label begins with a letter, as moves may, but it is words with a colon, or has only those of a
-- head. A number of a line has no letter and no opened bracket, one of moves no letter but those of its word. A
-- label, a number of a line and a comment end within it.
abbrev pub IsPiece : Piece → List ℕ → Type 0
IsPiece Kept bytes = length bytes ≡ 1
IsPiece Blank bytes = IsOneOf is_blank bytes
IsPiece LineEnd bytes = IsOneOf is_line_end bytes
IsPiece Comma bytes = IsOneOf is_comma bytes
IsPiece Apostrophe bytes = IsOneOf is_apostrophe bytes
IsPiece Unseen bytes = IsOneOf is_unseen bytes
IsPiece Label bytes = (is_letter (slice_index bytes 0) ≡ true) × IsLabel bytes × IsWithinLine bytes
IsPiece LineNumber bytes = (begins_number (slice_index bytes 0) ≡ true) × BeginNoMoves bytes × IsWithinLine bytes
IsPiece MoveCount bytes = IsCount bytes
IsPiece Comment bytes = (slice_index bytes 0 ≡ 47) × (slice_index bytes 1 ≡ 47) × IsWithinLine bytes

-- A byte may stay in front of a text: no sign begins there that is written otherwise, and no comment.
pub record MayStay (text : List ℕ) : Type 0 where
  pub unchanged : begins_changed text ≡ false
  pub uncommented : slice_index text 0 ≡ 47 → slice_index text 1 ≡ 47 → ⊥

-- a text ends, or begins with what ends a line
abbrev pub EndsLine : List ℕ → Type 0
EndsLine text = 0 < length text → ends_line (slice_index text 0) ≡ true

-- The first bytes of a text, that many and at least one, are such a piece. A byte stays only where it may, and a
-- comment goes on up to the end of its line.
pub record IsFirst (text : List ℕ) (kind : Piece) (count : ℕ) : Type 0 where
  pub some : 0 < count
  pub fits : count ≤ length text
  pub is : IsPiece kind (take count text)
  pub stays : kind ≡ Kept → MayStay text
  pub ends : kind ≡ Comment → EndsLine (drop count text)

-- what is written of a piece: what stays, one blank, the grammar's other apostrophe, or nothing
abbrev pub written : Piece → List ℕ → List ℕ
written Kept bytes = bytes
written Blank bytes = 32 ∷ []
written LineEnd bytes = 32 ∷ []
written Comma bytes = 32 ∷ []
written Apostrophe bytes = 226 ∷ 128 ∷ 153 ∷ []
written Unseen bytes = []
written Label bytes = []
written LineNumber bytes = []
written MoveCount bytes = []
written Comment bytes = []

-- the text that pieces make, one after another
unfoldable pub text_of : List Part → List ℕ
text_of [] = []
text_of (p ∷ ps) = p.bytes ++ text_of ps

-- the line that is written of them
unfoldable pub line_of : List Part → List ℕ
line_of [] = []
line_of (p ∷ ps) = written p.kind p.bytes ++ line_of ps

-- the place in the text of each byte of the line: that of its piece, of which the first is here
unfoldable pub places_of : ℕ → List Part → List ℕ
places_of at [] = []
places_of at (p ∷ ps) = replicate (length (written p.kind p.bytes)) at ++ places_of (at + length p.bytes) ps

-- each has bytes, and is what its kind may be
unfoldable pub ArePieces : List Part → Type 0
ArePieces [] = Unit {0}
ArePieces (p ∷ ps) = (0 < length p.bytes) × IsPiece p.kind p.bytes × ArePieces ps

-- A piece stands rightly before other bytes: if it stays it may, and if it is a comment its line ends there.
pub record StandsBefore (p : Part) (after : List ℕ) : Type 0 where
  pub stays : p.kind ≡ Kept → MayStay (p.bytes ++ after)
  pub ends : p.kind ≡ Comment → EndsLine after

-- So each piece stands in the text that they make, with what follows them.
unfoldable pub StayRightly : List Part → List ℕ → Type 0
StayRightly [] rest = Unit {0}
StayRightly (p ∷ ps) rest = StandsBefore p (text_of ps ++ rest) × StayRightly ps rest

-- After a piece one is at the beginning of a line: it ended one, or only parts what stands there.
abbrev pub is_begun : Bool → Piece → Bool
is_begun begun Kept = false
is_begun begun Blank = begun
is_begun begun LineEnd = true
is_begun begun Comma = false
is_begun begun Apostrophe = false
is_begun begun Unseen = begun
is_begun begun Label = false
is_begun begun LineNumber = false
is_begun begun MoveCount = false
is_begun begun Comment = false

-- Each number of a line stands at its beginning, before which are only blanks and signs that aren't seen.
unfoldable pub BeginLines : Bool → List Part → Type 0
BeginLines begun [] = Unit {0}
BeginLines begun (p ∷ ps) = (p.kind ≡ LineNumber → begun ≡ true) × BeginLines (is_begun begun p.kind) ps

-- at the beginning of a line and after its number what stands before its moves may follow
abbrev pub is_before_moves : Place → Bool
is_before_moves Begin = true
is_before_moves Numbered = true
is_before_moves Moves = false
is_before_moves Among = false

-- After a piece one is before the moves of a line: it ended one, or is the number of this one, or only parts what stands there.
abbrev pub stays_before : Bool → Piece → Bool
stays_before before Kept = false
stays_before before Blank = before
stays_before before LineEnd = true
stays_before before Comma = false
stays_before before Apostrophe = false
stays_before before Unseen = before
stays_before before Label = false
stays_before before LineNumber = true
stays_before before MoveCount = false
stays_before before Comment = false

-- Before the moves of a line a word before a scramble, with a colon, is left out as a label.
unfoldable pub LeaveTitles : Bool → List Part → List ℕ → Type 0
LeaveTitles before [] rest = Unit {0}
LeaveTitles before (p ∷ ps) rest = (before ≡ true → BeginsWithTitle (text_of (p ∷ ps) ++ rest) → p.kind ≡ Label) × LeaveTitles (stays_before before p.kind) ps rest

-- a piece that stands before the moves of a line
abbrev pub is_title : Piece → Bool
is_title Kept = false
is_title Blank = false
is_title LineEnd = false
is_title Comma = false
is_title Apostrophe = false
is_title Unseen = false
is_title Label = true
is_title LineNumber = true
is_title MoveCount = false
is_title Comment = false

-- none of some pieces stands before the moves of a line
unfoldable pub HasNoTitle : List Part → Type 0
HasNoTitle [] = Unit {0}
HasNoTitle (p ∷ ps) = (is_title p.kind ≡ false) × HasNoTitle ps
