-- What stands in a line before its moves, in its head and between its parts: none of its moves.
use Rattle.std.specs.Prelude.{◌≡◌, ℕ, ◌+◌, ◌-◌, ◌<◌, ◌⊎◌, ◌==◌, Bool, true, false, not, ◌||◌, ◌&&◌, List, [], ◌∷◌, ◌++◌, length, take, drop, map, nat_lt, slice_index, slice_range, if◌then◌else◌, codes}
use Rattle.std.specs.List.{All, Contains, concat, list_any}
use Rattle.niss_text.specs.Signs.{HasNoMoves, AreSigns, ends_title, is_digit, is_within, begins_count}
use Rattle.niss_text.specs.Doubts.{is_capital, is_letter}

-- a letter of ASCII, and it as a small one
unfoldable pub spells : ℕ → Bool
spells b = is_within 65 90 b || is_within 97 122 b

abbrev pub small : ℕ → ℕ
small b = if is_within 65 90 b then b + 32 else b

-- a byte that moves begin with: a letter of ASCII, or an opened bracket
unfoldable pub begins_moves : ℕ → Bool
begins_moves b = (b == 40) || spells b

abbrev pub HasNoLetters : List ℕ → Type 0
HasNoLetters bytes = list_any spells bytes ≡ false

abbrev pub BeginNoMoves : List ℕ → Type 0
BeginNoMoves bytes = list_any begins_moves bytes ≡ false

-- Bytes have no letters of ASCII but those of some words, in capitals or small letters: they are parts, each of which
-- is such a word or has none.
pub record HasOnlyWords (words : List (List ℕ)) (bytes : List ℕ) : Type 0 where
  pub parts : List (List ℕ)
  pub whole : concat parts ≡ bytes
  pub each : All (λ part. HasNoLetters part ⊎ Contains words (map small part)) parts

-- the words before each of several scrambles
abbrev pub words_before_scramble : List (List ℕ)
words_before_scramble = codes "scramble" ∷ codes "attempt" ∷ codes "extra" ∷ []

-- those of a head but in a list with extras: them, and the word before a total
abbrev pub words_of_title : List (List ℕ)
words_of_title = codes "scramble" ∷ codes "attempt" ∷ codes "extra" ∷ codes "of" ∷ []

-- Bytes begin with a word before a scramble, and a colon of ASCII after it.
pub record BeginsWithTitle (bytes : List ℕ) : Type 0 where
  pub count : ℕ
  pub word : Contains words_before_scramble (map small (take count bytes))
  pub colon : slice_index bytes count ≡ 58

-- the words of a head, and the letter before a number of an extra
abbrev pub words_of_head : List (List ℕ)
words_of_head = codes "scramble" ∷ codes "attempt" ∷ codes "extra" ∷ codes "of" ∷ codes "e" ∷ []

-- what solvers call a scramble that is known
abbrev pub words_of_name : List (List ℕ)
words_of_name = codes "cube" ∷ codes "solve" ∷ []

-- those of a head before a solution of a scramble that is known, too
abbrev pub words_of_any_head : List (List ℕ)
words_of_any_head = codes "cube" ∷ codes "solve" ∷ words_of_head

abbrev pub words_of_count : List (List ℕ)
words_of_count = codes " moves" ∷ codes " move" ∷ []

-- A number of moves begins with a bracket and a digit, and has no letters but those of its word.
abbrev pub IsCount : List ℕ → Type 0
IsCount bytes = (begins_count (slice_index bytes 0) (slice_index bytes 1) ≡ true) × HasOnlyWords words_of_count bytes

-- What may stand between a label and the moves: a number of moves, and after it blanks, signs that aren't seen, and
-- colons, of which nothing is what moves are made of.
pub record IsTitleEnd (bytes : List ℕ) : Type 0 where
  pub count : List ℕ
  pub rest : List ℕ
  pub whole : count ++ rest ≡ bytes
  pub counted : (count ≡ []) ⊎ IsCount count
  pub empty : HasNoMoves rest
  pub signs : AreSigns ends_title rest

-- No move is lost before the moves of a line, which has its parts there: a head has no letters but those of some words,
-- no byte that moves begin with stands between it and the label, and none between that and the moves but in a number of
-- moves.
pub record LosesNone (words : List (List ℕ)) (text : List ℕ) (begin head_end label_begin label_end moves : ℕ) : Type 0 where
  pub head : HasOnlyWords words (slice_range text begin head_end)
  pub margin : BeginNoMoves (slice_range text head_end label_begin)
  pub title : IsTitleEnd (slice_range text label_end moves)

-- the letter of a turn of a face or of a slice: that of an outer one, M, E or S
abbrev pub is_of_move : ℕ → Bool
is_of_move b = is_capital b || ((b == 77) || ((b == 69) || (b == 83)))

-- what may stand after any byte of a move but those in front: a blank, a 2, an apostrophe, or a closed bracket
abbrev pub goes_on : ℕ → Bool
goes_on b = (b == 32) || ((b == 50) || ((b == 39) || ((b == 41) || (b == 226))))

-- A byte of moves in the WCA's notation, each a word of its own, may follow another: after a blank a move or an opened
-- bracket, after that a move, after a closed one a blank, after the letter of an outer turn a w too. U+2019 is whole.
unfoldable pub follows_move : ℕ → ℕ → Bool
follows_move a b =
    if a == 226 then b == 128
    else if a == 128 then b == 153
    else if a == 32 then (b == 32) || ((b == 40) || is_of_move b)
    else if a == 40 then is_of_move b
    else if a == 41 then b == 32
    else goes_on b || ((b == 119) && is_capital a)

-- a byte of U+2019 but the last, or an opened bracket
unfoldable pub needs_more : ℕ → Bool
needs_more b = (b == 226) || ((b == 128) || (b == 40))

-- what a line of moves begins with: a bracket or a move, but an E, which may be of an extra
abbrev pub begins_line : ℕ → Bool
begins_line b = (b == 40) || (is_capital b || ((b == 77) || (b == 83)))

-- Bytes are moves in the WCA's notation: turns of faces, of two layers and of slices, some in brackets, each a word of
-- its own.
pub record AreInNotation (bytes : List ℕ) : Type 0 where
  pub first : begins_line (slice_index bytes 0) ≡ true
  pub each : (k : ℕ) → k + 1 < length bytes → follows_move (slice_index bytes k) (slice_index bytes (k + 1)) ≡ true
  pub last : needs_more (slice_index bytes (length bytes - 1)) ≡ false

-- Such moves begin with the turn of a face: no head does.
pub record ArePlain (bytes : List ℕ) : Type 0 where
  pub first : is_capital (slice_index bytes 0) ≡ true
  pub moves : AreInNotation bytes

-- a letter of an outer turn, or the 2 of a half one
abbrev pub is_turn : ℕ → Bool
is_turn b = is_capital b || (b == 50)

-- a byte of turns may follow another: a blank, a letter after one, or a 2 after a letter
abbrev pub follows_turn : ℕ → ℕ → Bool
follows_turn a b = (b == 32) || (((a == 32) && is_capital b) || (is_capital a && (b == 50)))

-- Words are turns: letters of outer turns, each after a blank or at the beginning, and perhaps a 2 after it.
pub record AreTurns (bytes : List ℕ) : Type 0 where
  pub first : is_capital (slice_index bytes 0) ≡ true
  pub each : (k : ℕ) → k + 1 < length bytes → follows_turn (slice_index bytes k) (slice_index bytes (k + 1)) ≡ true

-- each byte is a blank or one of turns
abbrev pub HasTurns : List ℕ → Type 0
HasTurns bytes = (k : ℕ) → k < length bytes → (slice_index bytes k ≡ 32) ⊎ (is_turn (slice_index bytes k) ≡ true)

-- so many bytes are of turns, and a blank follows them, or nothing
abbrev pub IsTurnUpTo : List ℕ → ℕ → Type 0
IsTurnUpTo bytes count = ((k : ℕ) → k < count → is_turn (slice_index bytes k) ≡ true) × (count < length bytes → slice_index bytes count ≡ 32)

-- The first bytes of a line, that many, are such moves, and the slashes of a comment follow them.
pub record ArePlainBefore (bytes : List ℕ) (count : ℕ) : Type 0 where
  pub moves : ArePlain (take count bytes)
  pub slashes : (slice_index bytes count ≡ 47) × (slice_index bytes (count + 1) ≡ 47)

-- a full stop stands at a place right after something, and that is no blank
unfoldable pub is_stop : List ℕ → ℕ → Bool
is_stop text k = nat_lt 0 k && ((slice_index text k == 46) && not (slice_index text (k - 1) == 32))

-- The first bytes of a line, that many, are two or more such moves, and one full stop stands right after them at its end.
pub record AreStopped (bytes : List ℕ) (count : ℕ) : Type 0 where
  pub moves : AreInNotation (take count bytes)
  pub several : (k : ℕ) × (k < count) × (slice_index bytes k ≡ 32)
  pub stop : is_stop bytes count ≡ true
  pub last : length bytes ≡ count + 1

-- a text ends, or goes on with a blank
unfoldable pub is_over : List ℕ → Bool
is_over [] = true
is_over (b ∷ bytes) = b == 32

-- a text begins with a turn of as many layers as a digit says, such as 3Rw: no letter stands after its w
unfoldable pub begins_with_layers : List ℕ → Bool
begins_with_layers text = is_digit (slice_index text 0) && (is_capital (slice_index text 1) && ((slice_index text 2 == 119) && not (is_letter (slice_index text 3))))

-- a text begins with a move by itself: a capital letter of an outer turn, after which it may have a 2 or an apostrophe
unfoldable pub begins_with_move : List ℕ → Bool
begins_with_move text = is_capital (slice_index text 0) &&
    (is_over (drop 1 text) || (((slice_index text 1 == 50) || (slice_index text 1 == 39)) && is_over (drop 2 text)))

-- it begins with one of both
unfoldable pub begins_with_turn : List ℕ → Bool
begins_with_turn text = begins_with_move text || begins_with_layers text

-- at a place that is one, none of them stands
abbrev pub IsNoMove : List ℕ → Bool → ℕ → Type 0
IsNoMove text is at = is ≡ true → begins_with_turn (drop at text) ≡ false
