-- How moves, cleaned lines among them, are written out.
use Rattle.std.specs.Prelude.{ℕ, ◌-◌, List, [], ◌∷◌, ◌++◌, length, slice_get, if◌then◌else◌, ◌==◌, Option, None, Some}
use Rattle.std.specs.Prelude.{codes, map}
use Rattle.niss_moves.specs.Facelets.{face_letter}
use Rattle.niss_moves.specs.Line.{slice_letter, rotation_letter, opening}
use Rattle.niss_moves.specs.Names.{Power, Quarter, Half, Counter, Token, Turn, Rotation}
use Rattle.niss_moves.specs.Rotations.{spelling}

-- nothing, `2` or `'`
abbrev pub power_bytes : Power → List ℕ
power_bytes Quarter = []
power_bytes Half = codes "2"
power_bytes Counter = codes "'"

-- a wide turn is written with `w`
abbrev pub word : Token → List ℕ
word (Token.Face t) = face_letter t.face ∷ power_bytes t.power
word (Token.Wide f p) = face_letter f ∷ codes "w" ++ power_bytes p
word (Token.Slice l p) = slice_letter l ∷ power_bytes p
word (Token.Rotation a p) = rotation_letter a ∷ power_bytes p

-- One space stands before a word and before `(`, but not at the beginning of the text or after `(`.
abbrev pub gap_after : Option ℕ → List ℕ
gap_after None = []
gap_after (Some b) = if b == opening then [] else codes " "

abbrev pub gap : List ℕ → List ℕ
gap text = gap_after (slice_get text (length text - 1))

-- the text with a word appended
abbrev pub with_word : List ℕ → List ℕ → List ℕ
with_word text w = text ++ gap text ++ w

-- the text with words appended
abbrev pub with_words : List ℕ → List (List ℕ) → List ℕ
with_words text [] = text
with_words text (w ∷ ws) = with_words (with_word text w) ws

abbrev pub turn_words : List Turn → List (List ℕ)
turn_words ts = map (λ t. word (Token.Face t)) ts

-- the spelling of a rotation; the identity has no word
abbrev pub rotation_words : Rotation → List (List ℕ)
rotation_words r = map word (spelling r)

-- face turns and the rotation after them
abbrev pub cleaned_words : List Turn → Rotation → List (List ℕ)
cleaned_words ts r = turn_words ts ++ rotation_words r

-- the text with words in a bracket appended, if there is a word
abbrev pub with_bracket : List ℕ → List (List ℕ) → List ℕ
with_bracket text [] = text
with_bracket text (w ∷ ws) = with_words (with_word text (codes "(")) (w ∷ ws) ++ codes ")"
