-- The words by which solvers say what a line is, and where its moves are made.
use Rattle.std.specs.Prelude.{◌≡◌, ℕ, zero, suc, ◌==◌, ◌+◌, ◌-◌, ◌<◌, ◌≤◌, ◌&&◌, ◌⊎◌, nat_lt, Bool, true, false, if◌then◌else◌, List, [], ◌∷◌, ◌++◌, length, map, take, slice_index, slice_range, codes}
use Rattle.std.specs.List.{Contains, list_all}
use Rattle.niss_text.specs.Signs.{is_letter, is_digit, is_within}
use Rattle.niss_text.specs.Doubts.{is_letter as is_plain_letter}
use Rattle.niss_text.specs.Kept.{begins_with_move, small}
use Rattle.niss_text.specs.Pieces.{EndsWithColon}
use Rattle.niss_text.specs.declared.line.Head.{Head}
use Rattle.niss_text.specs.declared.line.Head.TheVariants.{None, Number, Word}
use Rattle.niss_text.specs.declared.text_line.TextLine.{TextLine}
use Rattle.niss_text.specs.declared.words.Wanted.{Wanted}
use Rattle.niss_text.specs.declared.words.Wanted.TheVariants.{Step, Solution, Solutions, Final, Scramble, Inverse, Switch, Denial}

-- a byte in front of words
unfoldable pub before_words : ℕ → List (List ℕ) → List (List ℕ)
before_words b [] = (b ∷ []) ∷ []
before_words b (word ∷ words) = (b ∷ word) ∷ words

-- words that have commas between
unfoldable pub listed : List ℕ → List (List ℕ)
listed [] = [] ∷ []
listed (b ∷ bytes) = if b == 44 then [] ∷ listed bytes else before_words b (listed bytes)

-- the words for a step
abbrev pub words_of_step : List (List ℕ)
words_of_step =
    codes "eo" ∷ codes "dr" ∷ codes "htr" ∷ codes "fr" ∷ codes "finish" ∷ codes "skeleton" ∷ codes "slice" ∷ []

-- the words for the inverse, and those that make it something else than the side of the moves
abbrev pub words_of_inverse : List (List ℕ)
words_of_inverse = codes "inverse" ∷ codes "inv" ∷ []

abbrev pub words_of_switch : List (List ℕ)
words_of_switch = codes "normal" ∷ codes "niss" ∷ codes "switch" ∷ codes "premove" ∷ codes "premoves" ∷ []

-- the words by which solvers say that there is nothing of what follows, and those that may stand between
abbrev pub words_of_none : List (List ℕ)
words_of_none = codes "no" ∷ codes "not" ∷ codes "nothing" ∷ codes "none" ∷ codes "never" ∷ codes "without" ∷ []

abbrev pub words_of_links : List (List ℕ)
words_of_links =
    codes "on" ∷ codes "in" ∷ codes "from" ∷ codes "with" ∷ codes "the" ∷ codes "a" ∷ codes "an" ∷ codes "any" ∷
    codes "anything" ∷ codes "good" ∷ codes "better" ∷ codes "eo" ∷ codes "dr" ∷ codes "htr" ∷ codes "find" ∷ codes "found" ∷
    codes "using" ∷ codes "t" ∷ []

-- the words of none, and those before the apostrophe of others, such as "didn't"
abbrev pub words_of_denial : List (List ℕ)
words_of_denial = words_of_none ++
    (codes "didn" ∷ codes "don" ∷ codes "doesn" ∷ codes "can" ∷ codes "couldn" ∷ codes "hadn" ∷ codes "hasn" ∷ codes "haven" ∷
    codes "isn" ∷ codes "aren" ∷ codes "ain" ∷ codes "wasn" ∷ codes "weren" ∷ codes "won" ∷ codes "wouldn" ∷ codes "shouldn" ∷ [])

-- the words for a solution in some languages, in UTF-8
abbrev pub words_of_solution : List (List ℕ)
words_of_solution =
    codes "solution" ∷ codes "sol" ∷ codes "submitted" ∷ (codes "l" ++ (195 ∷ 182 ∷ []) ++ codes "sung") ∷
    (codes "l" ++ (195 ∷ 182 ∷ []) ++ codes "sning") ∷ (codes "soluci" ++ (195 ∷ 179 ∷ []) ++ codes "n") ∷
    codes "solucion" ∷ codes "soluzione" ∷ (codes "solu" ++ (195 ∷ 167 ∷ 195 ∷ 163 ∷ []) ++ codes "o") ∷
    (codes "rozwi" ++ (196 ∷ 133 ∷ []) ++ codes "zanie") ∷ codes "oplossing" ∷
    ((195 ∷ 167 ∷ 195 ∷ 182 ∷ []) ++ codes "z" ++ (195 ∷ 188 ∷ []) ++ codes "m") ∷
    ((195 ∷ 135 ∷ 195 ∷ 182 ∷ []) ++ codes "z" ++ (195 ∷ 188 ∷ []) ++ codes "m") ∷
    (209 ∷ 128 ∷ 208 ∷ 181 ∷ 209 ∷ 136 ∷ 208 ∷ 181 ∷ 208 ∷ 189 ∷ 208 ∷ 184 ∷ 208 ∷ 181 ∷ []) ∷
    (208 ∷ 160 ∷ 208 ∷ 181 ∷ 209 ∷ 136 ∷ 208 ∷ 181 ∷ 208 ∷ 189 ∷ 208 ∷ 184 ∷ 208 ∷ 181 ∷ []) ∷
    (232 ∷ 167 ∷ 163 ∷ 230 ∷ 179 ∷ 149 ∷ []) ∷ (232 ∷ 167 ∷ 163 ∷ 231 ∷ 173 ∷ 148 ∷ []) ∷
    (237 ∷ 146 ∷ 128 ∷ 236 ∷ 157 ∷ 180 ∷ []) ∷ []

-- those for a scramble
abbrev pub words_of_scramble : List (List ℕ)
words_of_scramble =
    codes "scramble" ∷ codes "scr" ∷ codes "mischung" ∷ codes "verdrehung" ∷
    (codes "m" ++ (195 ∷ 169 ∷ []) ++ codes "lange") ∷ codes "melange" ∷ codes "mezcla" ∷ codes "mescolata" ∷
    codes "embaralhamento" ∷
    (209 ∷ 129 ∷ 208 ∷ 186 ∷ 209 ∷ 128 ∷ 208 ∷ 176 ∷ 208 ∷ 188 ∷ 208 ∷ 177 ∷ 208 ∷ 187 ∷ []) ∷
    (208 ∷ 161 ∷ 208 ∷ 186 ∷ 209 ∷ 128 ∷ 208 ∷ 176 ∷ 208 ∷ 188 ∷ 208 ∷ 177 ∷ 208 ∷ 187 ∷ []) ∷
    (230 ∷ 137 ∷ 147 ∷ 228 ∷ 185 ∷ 177 ∷ []) ∷ (230 ∷ 137 ∷ 147 ∷ 228 ∷ 186 ∷ 130 ∷ []) ∷
    (227 ∷ 130 ∷ 185 ∷ 227 ∷ 130 ∷ 175 ∷ 227 ∷ 131 ∷ 169 ∷ 227 ∷ 131 ∷ 179 ∷ 227 ∷ 131 ∷ 150 ∷ 227 ∷ 131 ∷ 171 ∷ []) ∷
    (236 ∷ 138 ∷ 164 ∷ 237 ∷ 129 ∷ 172 ∷ 235 ∷ 158 ∷ 168 ∷ 235 ∷ 184 ∷ 148 ∷ []) ∷ []

abbrev pub words_of : Wanted → List (List ℕ)
words_of Step = words_of_step
words_of Solution = words_of_solution
words_of Solutions = codes "solutions" ∷ []
words_of Final = codes "final" ∷ []
words_of Scramble = words_of_scramble
words_of Inverse = words_of_inverse
words_of Switch = words_of_switch
words_of Denial = words_of_denial

-- something tells a scramble from others
abbrev pub is_a_head : Head → Bool
is_a_head None = false
is_a_head Number = true
is_a_head Word = true

-- each word has two letters or more, and all are small ones of ASCII
abbrev pub are_spelled : List (List ℕ) → Bool
are_spelled words = list_all (λ word. nat_lt 1 (length word) && list_all (is_within 97 122) word) words

-- One of some words stands in bytes, in capitals or small letters, and beside it no byte of a word.
pub record HasWord (is_of_word : ℕ → Bool) (words : List (List ℕ)) (bytes : List ℕ) : Type 0 where
  pub at : ℕ
  pub count : ℕ
  pub fits : at + count ≤ length bytes
  pub is : Contains words (map small (slice_range bytes at (at + count)))
  pub before : 0 < at → is_of_word (slice_index bytes (at - 1)) ≡ false
  pub after : is_of_word (slice_index bytes (at + count)) ≡ false

-- A label says that the solution follows: by a word for it, before which no step is named of which it is.
pub record SaysSolution (label : List ℕ) : Type 0 where
  pub said : HasWord is_plain_letter words_of_solution label
  pub of_none : HasWord is_letter words_of_step (take said.at label) → ⊥

-- One of some words stands from one place of a text up to a blank before another, with no letter before it.
pub record IsWordBefore (words : List (List ℕ)) (text : List ℕ) (from at : ℕ) : Type 0 where
  pub is : Contains words (map small (slice_range text from (at - 1)))
  pub blank : slice_index text (at - 1) ≡ 32
  pub before : 0 < from → is_letter (slice_index text (from - 1)) ≡ false

-- What stands at a place is denied by the words before it: by one of none, with so many between that may stand there.
unfoldable pub IsDenied : ℕ → List ℕ → ℕ → Type 0
IsDenied zero text at = (from : ℕ) × IsWordBefore words_of_none text from at
IsDenied (suc between) text at = (from : ℕ) × IsWordBefore words_of_links text from at × IsDenied between text from

-- One of some words stands in bytes, and isn't denied.
pub record Names (is_of_word : ℕ → Bool) (words : List (List ℕ)) (bytes : List ℕ) : Type 0 where
  pub word : HasWord is_of_word words bytes
  pub free : (between : ℕ) → IsDenied between bytes word.at → ⊥

-- no word of bytes denies anything
abbrev pub DeniesNothing : List ℕ → Type 0
DeniesNothing bytes = HasWord is_plain_letter words_of_denial bytes → ⊥

-- the parts of a line in its text: its label, its moves, and what is said after them
abbrev pub label_in : List ℕ → TextLine → List ℕ
label_in text line = slice_range text line.label_begin line.label_end

abbrev pub moves_in : List ℕ → TextLine → List ℕ
moves_in text line = slice_range text line.moves line.comment

abbrev pub comment_in : List ℕ → TextLine → List ℕ
comment_in text line = slice_range text line.comment line.end

-- No bracket opens but that of a number.
abbrev pub HasNoBracket : List ℕ → Type 0
HasNoBracket bytes = (k : ℕ) → slice_index bytes k ≡ 40 → is_digit (slice_index bytes (k + 1)) ≡ true

-- no comment begins among bytes
abbrev pub HasNoSlashes : List ℕ → Type 0
HasNoSlashes bytes = (k : ℕ) → slice_index bytes k ≡ 47 → slice_index bytes (k + 1) ≡ 47 → ⊥

-- Where a move by itself begins after the head of a line, with its number, the moves do, unless words with a colon
-- stand before them.
abbrev pub IsLabelled : (text rest : List ℕ) (label moves : ℕ) → Type 0
IsLabelled text rest label moves = begins_with_move rest ≡ true →
    (moves ≡ label) ⊎ ((colon : ℕ) × ((label < colon) × (colon ≤ moves)) × EndsWithColon (slice_range text label colon))

-- A step is on the inverse: its label or its comment has a word for that which isn't denied, by itself among letters of
-- ASCII, neither has one for something else with no letter and no byte beyond ASCII beside it, unless it denies
-- something, and its moves have no brackets.
pub record IsOnInverse (text : List ℕ) (line : TextLine) : Type 0 where
  pub kind : line.kind ≡ 3
  pub said : Names is_plain_letter words_of_inverse (label_in text line)
      ⊎ Names is_plain_letter words_of_inverse (comment_in text line)
  pub label : DeniesNothing (label_in text line) → HasWord is_letter words_of_switch (label_in text line) → ⊥
  pub comment : DeniesNothing (comment_in text line) → HasWord is_letter words_of_switch (comment_in text line) → ⊥
  pub unbracketed : HasNoBracket (moves_in text line)

-- It is so beyond doubt: the word has no byte beyond ASCII beside it either, none for something else stands there by
-- itself among letters of ASCII, and none that denies it, and no bracket opens among the moves.
pub record IsPlainlyOnInverse (text : List ℕ) (line : TextLine) : Type 0 where
  pub kind : line.kind ≡ 3
  pub said : HasWord is_letter words_of_inverse (label_in text line)
      ⊎ HasWord is_letter words_of_inverse (comment_in text line)
  pub label : HasWord is_plain_letter words_of_switch (label_in text line) → ⊥
  pub comment : HasWord is_plain_letter words_of_switch (comment_in text line) → ⊥
  pub undenied : DeniesNothing (label_in text line) × DeniesNothing (comment_in text line)
  pub unbracketed : (k : ℕ) → slice_index (moves_in text line) k ≡ 40 → ⊥

-- A line is told to be on the inverse if it is so beyond doubt, and only if it is. One without moves after the scramble is
-- in no doubt for a side or a repetition that the words before it, after the line's head, deny.
pub record IsSided (text : List ℕ) (line : TextLine) : Type 0 where
  pub only : line.is_inverse ≡ 1 → IsOnInverse text line
  pub all : IsPlainlyOnInverse text line → line.is_inverse ≡ 1
  pub free : line.kind ≡ 4 → (line.doubt ≡ 3) ⊎ (line.doubt ≡ 7) → (between : ℕ) →
      IsDenied between (slice_range text line.head_end line.end) (line.doubt_at - line.head_end) → ⊥
