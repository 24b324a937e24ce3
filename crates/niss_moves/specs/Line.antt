-- How moves are written, and which bytes spell a line of them.
use Rattle.std.specs.Prelude.{ℕ, List, [], ◌∷◌, ◌++◌, slice_index, codes, ◌≡◌, ◌+◌, ◌≤◌, flat_map, length}
use Rattle.niss_moves.specs.Facelets.{face_letter}
use Rattle.niss_moves.specs.Indices.{face_index, layer_index, axis_index}
use Rattle.niss_moves.specs.Names.{Face, Power, Quarter, Half, Counter, Axis, Slice, Token, Base}
use Rattle.niss_moves.specs.Effects.{inverse}

-- the letters of wide turns, of slices and of rotations
abbrev pub lower_letter : Face → ℕ
lower_letter f = slice_index (codes "udrlfb") (face_index f)

abbrev pub slice_letter : Slice → ℕ
slice_letter l = slice_index (codes "MES") (layer_index l)

abbrev pub rotation_letter : Axis → ℕ
rotation_letter a = slice_index (codes "yxz") (axis_index a)

-- a move without its suffix
abbrev pub base_bytes : Base → List ℕ
base_bytes (Base.Face f) = face_letter f ∷ []
base_bytes (Base.Wide f) = face_letter f ∷ codes "w"
base_bytes (Base.LowerCase f) = lower_letter f ∷ []
base_bytes (Base.Slice l) = slice_letter l ∷ []
base_bytes (Base.Rotation a) = rotation_letter a ∷ []

-- the move of a base with a power
abbrev pub token_of : Base → Power → Token
token_of (Base.Face f) p = Token.Face (record { face = f; power = p })
token_of (Base.Wide f) p = Token.Wide f p
token_of (Base.LowerCase f) p = Token.Wide f p
token_of (Base.Slice l) p = Token.Slice l p
token_of (Base.Rotation a) p = Token.Rotation a p

-- `'`, or U+2019
pub data Apostrophe : Type 0 where
  Plain : Apostrophe
  Typographic : Apostrophe

abbrev pub apostrophe_bytes : Apostrophe → List ℕ
apostrophe_bytes Plain = codes "'"
apostrophe_bytes Typographic = 0xE2 ∷ 0x80 ∷ 0x99 ∷ []

-- what may stand after a base: nothing, `2`, an apostrophe, `2` and an apostrophe
pub data Suffix : Type 0 where
  Nothing : Suffix
  Two : Suffix
  Prime : Apostrophe → Suffix
  TwoPrime : Apostrophe → Suffix

abbrev pub suffix_bytes : Suffix → List ℕ
suffix_bytes Nothing = []
suffix_bytes Two = codes "2"
suffix_bytes (Prime a) = apostrophe_bytes a
suffix_bytes (TwoPrime a) = codes "2" ++ apostrophe_bytes a

abbrev pub suffix_power : Suffix → Power
suffix_power Nothing = Quarter
suffix_power Two = Half
suffix_power (Prime a) = Counter
suffix_power (TwoPrime a) = Half

-- space, tab and carriage return
pub data Blank : Type 0 where
  Space : Blank
  Tab : Blank
  Return : Blank

abbrev pub blank_byte : Blank → ℕ
blank_byte Space = 32
blank_byte Tab = 9
blank_byte Return = 13

-- a blank, or a move as it is spelled: a base and then a suffix, with nothing between
pub data Piece : Type 0 where
  Gap : Blank → Piece
  Spelled : Base → Suffix → Piece

abbrev pub piece_bytes : Piece → List ℕ
piece_bytes (Gap b) = blank_byte b ∷ []
piece_bytes (Spelled b s) = base_bytes b ++ suffix_bytes s

abbrev pub piece_moves : Piece → List Token
piece_moves (Gap b) = []
piece_moves (Spelled b s) = token_of b (suffix_power s) ∷ []

abbrev pub opening : ℕ
opening = slice_index (codes "(") 0

abbrev pub closing : ℕ
closing = slice_index (codes ")") 0

-- a piece outside brackets, or a bracket with its pieces
pub data Item : Type 0 where
  Outside : Piece → Item
  Bracket : List Piece → Item

abbrev pub item_bytes : Item → List ℕ
item_bytes (Outside p) = piece_bytes p
item_bytes (Bracket ps) = opening ∷ flat_map piece_bytes ps ++ closing ∷ []

abbrev pub item_normal : Item → List Token
item_normal (Outside p) = piece_moves p
item_normal (Bracket ps) = []

abbrev pub item_bracketed : Item → List Token
item_bracketed (Outside p) = []
item_bracketed (Bracket ps) = flat_map piece_moves ps

-- The bytes are those of some items. The moves outside brackets are the normal ones, in order, and those inside are
-- the bracketed ones.
pub record Spells (bytes : List ℕ) (normal bracketed : List Token) : Type 0 where
  pub items : List Item
  pub bytes_are : bytes ≡ flat_map item_bytes items
  pub normal_are : normal ≡ flat_map item_normal items
  pub bracketed_are : bracketed ≡ flat_map item_bracketed items

-- the bytes spell a line of at most 256 moves
pub record IsLine (bytes : List ℕ) : Type 0 where
  pub normal : List Token
  pub bracketed : List Token
  pub spells : Spells bytes normal bracketed
  pub fits : length normal + length bracketed ≤ 256

-- the moves of a line
pub record Moves : Type 0 where
  pub normal : List Token
  pub bracketed : List Token

-- the one sequence of a line: its normal moves, and then the inverse of its bracketed ones
abbrev pub joined_moves : Moves → List Token
joined_moves line = line.normal ++ inverse line.bracketed
