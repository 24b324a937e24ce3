-- What the signs and the forms of a text are made of.
use Rattle.std.specs.Prelude.{◌≡◌, ℕ, ◌==◌, Bool, true, false, ◌||◌, ◌&&◌, nat_le, List, [], ◌∷◌, take}
use Rattle.std.specs.List.{All, concat, list_any}
use Rattle.niss_text.specs.declared.sign.Kind.{Kind}
use Rattle.niss_text.specs.declared.sign.Kind.TheVariants.{LineEnd, Blank, Unseen, Comma, Apostrophe, Prime, Colon, Dash, Slash, Open, Close, Digit, Capital, Small, Beyond, Inner, Other}

abbrev pub is_within : ℕ → ℕ → ℕ → Bool
is_within least most b = nat_le least b && nat_le b most

abbrev pub is_digit : ℕ → Bool
is_digit b = is_within 48 57 b

-- a letter of ASCII, or a byte of a sign beyond it
abbrev pub is_letter : ℕ → Bool
is_letter b = is_within 65 90 b || (is_within 97 122 b || nat_le 128 b)

-- a byte that moves are made of: a letter or a digit of ASCII, an apostrophe or a bracket
unfoldable pub is_of_moves : ℕ → Bool
is_of_moves b = is_within 39 41 b || (is_within 48 57 b || (is_within 65 90 b || is_within 97 122 b))

-- no byte of these is one that moves are made of
abbrev pub HasNoMoves : List ℕ → Type 0
HasNoMoves bytes = list_any is_of_moves bytes ≡ false

-- a byte of ASCII that words, and what stands between them, don't have: it is no letter, no digit, no blank and no dash
unfoldable pub parts_words : ℕ → Bool
parts_words b = is_within 0 8 b || ((b == 10) || (is_within 13 31 b || (is_within 33 44 b || (is_within 46 47 b
    || (is_within 58 64 b || (is_within 91 96 b || is_within 123 127 b))))))

-- bytes are letters, digits or signs beyond ASCII, and blanks and dashes
abbrev pub AreWords : List ℕ → Type 0
AreWords bytes = list_any parts_words bytes ≡ false

-- what ends a line: a line feed, a return, or both
unfoldable pub is_line_end : List ℕ → Bool
is_line_end [] = false
is_line_end (a ∷ []) = (a == 10) || (a == 13)
is_line_end (a ∷ b ∷ []) = (a == 13) && (b == 10)
is_line_end (a ∷ b ∷ c ∷ bytes) = false

-- A blank: U+0009, U+000B, U+000C and U+0020; U+00A0 and the dot U+00B7; U+2000 to U+200A, U+2028, U+2029 and U+202F;
-- U+1680, U+205F and U+3000.
unfoldable pub is_blank : List ℕ → Bool
is_blank [] = false
is_blank (a ∷ []) = (a == 9) || ((a == 11) || ((a == 12) || (a == 32)))
is_blank (a ∷ b ∷ []) = (a == 194) && ((b == 160) || (b == 183))
is_blank (a ∷ b ∷ c ∷ []) =
    ((a == 226) && ((b == 128) && (is_within 128 138 c || ((c == 168) || ((c == 169) || (c == 175))))))
    || (((a == 225) && ((b == 154) && (c == 128)))
    || (((a == 226) && ((b == 129) && (c == 159))) || ((a == 227) && ((b == 128) && (c == 128)))))
is_blank (a ∷ b ∷ c ∷ d ∷ bytes) = false

-- a sign that isn't seen: U+200B to U+200D, U+2060 or U+FEFF
unfoldable pub is_unseen : List ℕ → Bool
is_unseen [] = false
is_unseen (a ∷ []) = false
is_unseen (a ∷ b ∷ []) = false
is_unseen (a ∷ b ∷ c ∷ []) =
    ((a == 226) && ((b == 128) && is_within 139 141 c))
    || (((a == 226) && ((b == 129) && (c == 160))) || ((a == 239) && ((b == 187) && (c == 191))))
is_unseen (a ∷ b ∷ c ∷ d ∷ bytes) = false

-- a comma or a semicolon
unfoldable pub is_comma : List ℕ → Bool
is_comma [] = false
is_comma (a ∷ []) = (a == 44) || (a == 59)
is_comma (a ∷ b ∷ bytes) = false

-- an apostrophe but `'` and U+2019, which are written as they stand: U+0060, U+00B4, U+02BC, U+2018 or U+2032
unfoldable pub is_apostrophe : List ℕ → Bool
is_apostrophe [] = false
is_apostrophe (a ∷ []) = a == 96
is_apostrophe (a ∷ b ∷ []) = ((a == 194) && (b == 180)) || ((a == 202) && (b == 188))
is_apostrophe (a ∷ b ∷ c ∷ []) = (a == 226) && ((b == 128) && ((c == 152) || (c == 178)))
is_apostrophe (a ∷ b ∷ c ∷ d ∷ bytes) = false

-- bytes are one sign that is written otherwise than it stands, or not
unfoldable pub is_changed : List ℕ → Bool
is_changed bytes = is_line_end bytes || (is_blank bytes || (is_unseen bytes || (is_comma bytes || is_apostrophe bytes)))

-- a text begins with such a sign, which has three bytes at most
unfoldable pub begins_changed : List ℕ → Bool
begins_changed text = is_changed (take 1 text) || (is_changed (take 2 text) || is_changed (take 3 text))

-- a colon: U+003A or U+FF1A
unfoldable pub is_colon : List ℕ → Bool
is_colon [] = false
is_colon (a ∷ []) = a == 58
is_colon (a ∷ b ∷ []) = false
is_colon (a ∷ b ∷ c ∷ []) = (a == 239) && ((b == 188) && (c == 154))
is_colon (a ∷ b ∷ c ∷ d ∷ bytes) = false

-- Bytes are one sign that isn't written as it stands, and none of them is one that moves are made of.
abbrev pub IsOneOf : (List ℕ → Bool) → List ℕ → Type 0
IsOneOf is_sign bytes = (is_sign bytes ≡ true) × HasNoMoves bytes

-- one blank, or one sign that isn't seen
unfoldable pub is_spacing : List ℕ → Bool
is_spacing bytes = is_blank bytes || is_unseen bytes

-- such a sign, or a colon
unfoldable pub ends_title : List ℕ → Bool
ends_title bytes = is_spacing bytes || is_colon bytes

-- Bytes are such signs, one after another, and none of them is one that moves are made of.
pub record AreSigns (is_sign : List ℕ → Bool) (bytes : List ℕ) : Type 0 where
  pub parts : List (List ℕ)
  pub whole : concat parts ≡ bytes
  pub each : All (IsOneOf is_sign) parts

-- what a sign of each kind may be
abbrev pub IsSign : Kind → List ℕ → Type 0
IsSign LineEnd bytes = IsOneOf is_line_end bytes
IsSign Blank bytes = IsOneOf is_blank bytes
IsSign Unseen bytes = IsOneOf is_unseen bytes
IsSign Comma bytes = IsOneOf is_comma bytes
IsSign Apostrophe bytes = IsOneOf is_apostrophe bytes
IsSign Prime bytes = Unit {0}
IsSign Colon bytes = IsOneOf is_colon bytes
IsSign Dash bytes = AreWords bytes × HasNoMoves bytes
IsSign Slash bytes = Unit {0}
IsSign Open bytes = Unit {0}
IsSign Close bytes = Unit {0}
IsSign Digit bytes = AreWords bytes
IsSign Capital bytes = AreWords bytes
IsSign Small bytes = AreWords bytes
IsSign Beyond bytes = AreWords bytes
IsSign Inner bytes = AreWords bytes
IsSign Other bytes = Unit {0}

-- a sign that is written as it stands
abbrev pub is_kept : Kind → Bool
is_kept LineEnd = false
is_kept Blank = false
is_kept Unseen = false
is_kept Comma = false
is_kept Apostrophe = false
is_kept Prime = true
is_kept Colon = true
is_kept Dash = true
is_kept Slash = true
is_kept Open = true
is_kept Close = true
is_kept Digit = true
is_kept Capital = true
is_kept Small = true
is_kept Beyond = true
is_kept Inner = true
is_kept Other = true

-- a sign that parts what stands beside it
abbrev pub is_skipped : Kind → Bool
is_skipped LineEnd = false
is_skipped Blank = true
is_skipped Unseen = true
is_skipped Comma = false
is_skipped Apostrophe = false
is_skipped Prime = false
is_skipped Colon = false
is_skipped Dash = false
is_skipped Slash = false
is_skipped Open = false
is_skipped Close = false
is_skipped Digit = false
is_skipped Capital = false
is_skipped Small = false
is_skipped Beyond = false
is_skipped Inner = false
is_skipped Other = false

-- a sign that ends a word: a blank, one that isn't seen, or what ends a line
abbrev pub ends_word : Kind → Bool
ends_word LineEnd = true
ends_word Blank = true
ends_word Unseen = true
ends_word Comma = false
ends_word Apostrophe = false
ends_word Prime = false
ends_word Colon = false
ends_word Dash = false
ends_word Slash = false
ends_word Open = false
ends_word Close = false
ends_word Digit = false
ends_word Capital = false
ends_word Small = false
ends_word Beyond = false
ends_word Inner = false
ends_word Other = false

-- a sign of words, or one that stands between them
abbrev pub is_of_words : Kind → Bool
is_of_words LineEnd = false
is_of_words Blank = true
is_of_words Unseen = true
is_of_words Comma = false
is_of_words Apostrophe = false
is_of_words Prime = false
is_of_words Colon = false
is_of_words Dash = true
is_of_words Slash = false
is_of_words Open = false
is_of_words Close = false
is_of_words Digit = true
is_of_words Capital = true
is_of_words Small = true
is_of_words Beyond = true
is_of_words Inner = true
is_of_words Other = false

-- a letter, or a byte of a sign beyond ASCII
abbrev pub is_of_letters : Kind → Bool
is_of_letters LineEnd = false
is_of_letters Blank = false
is_of_letters Unseen = false
is_of_letters Comma = false
is_of_letters Apostrophe = false
is_of_letters Prime = false
is_of_letters Colon = false
is_of_letters Dash = false
is_of_letters Slash = false
is_of_letters Open = false
is_of_letters Close = false
is_of_letters Digit = false
is_of_letters Capital = true
is_of_letters Small = true
is_of_letters Beyond = true
is_of_letters Inner = true
is_of_letters Other = false

-- a line feed or a return
abbrev pub ends_line : ℕ → Bool
ends_line b = b == 10 || b == 13

abbrev pub begins_number : ℕ → Bool
begins_number b = b == 35 || is_digit b

-- an opened bracket, round or square
abbrev pub opens : ℕ → Bool
opens b = b == 40 || b == 91

abbrev pub begins_count : ℕ → ℕ → Bool
begins_count a b = opens a && is_digit b
