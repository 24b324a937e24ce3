-- The parts of a text of solutions, each of a scramble that is known, or of none that can be told.
use Rattle.std.specs.Prelude.{◌≡◌, ℕ, zero, suc, ◌+◌, ◌-◌, ◌*◌, ◌==◌, ◌<◌, ◌≤◌, ◌⊎◌, ◌||◌, ◌&&◌, not, min, ⊤, Bool, true, false, if◌then◌else◌, Option, None, Some, MatchOption, is_some, List, [], ◌∷◌, length, get_or, slice_range}
use Rattle.std.specs.List.{All, list_any}
use Rattle.niss_text.specs.Signs.{is_digit}
use Rattle.niss_text.specs.Doubts.{is_letter}
use Rattle.niss_text.specs.Kept.{HasOnlyWords, words_of_any_head}
use Rattle.niss_text.specs.Lines.{AreNumbered, Counts, HasNoneBetween, Takes}
use Rattle.niss_text.specs.declared.known.KnownPart.{KnownPart}
use Rattle.niss_text.specs.declared.parts.Part.{Part}
use Rattle.niss_text.specs.declared.text_line.TextLine.{TextLine}

-- each is of one of that many scrambles, or has the highest number
unfoldable pub AreKnown : ℕ → List KnownPart → Type 0
AreKnown count [] = ⊤
AreKnown count (part ∷ parts) = ((part.scramble < count) ⊎ (part.scramble ≡ 18446744073709551615)) × AreKnown count parts

-- The lines of the parts, from one line to another: those of each follow those of the part before, and begin with those
-- of its solution.
unfoldable pub HaveLines : ℕ → List KnownPart → ℕ → Type 0
HaveLines from [] to = from ≡ to
HaveLines from (part ∷ parts) to =
    (part.first_line ≡ from) × (from ≤ part.solution_end) × (part.solution_end ≤ part.end_line) × HaveLines part.end_line parts to

-- a number, or none, with one more digit, as far as numbers go
abbrev pub with_digit : Option ℕ → ℕ → ℕ
with_digit None digit = min (min (0 * 10) 18446744073709551615 + (digit - 48)) 18446744073709551615
with_digit (Some number) digit = min (min (number * 10) 18446744073709551615 + (digit - 48)) 18446744073709551615

-- a number with the digits that follow it
unfoldable pub number_on : ℕ → List ℕ → ℕ
number_on number [] = number
number_on number (b ∷ bs) = if is_digit b then number_on (with_digit (Some number) b) bs else number

-- the first number of some bytes
unfoldable pub first_number : List ℕ → Option ℕ
first_number [] = None
first_number (b ∷ bs) = if is_digit b then Some (number_on (with_digit None b) bs) else first_number bs

-- the letter of extras, such as E1
abbrev pub is_extra : ℕ → Bool
is_extra b = (b == 101) || (b == 69)

-- The number of a head: its first one; but it has none if its first letter is that of extras, and no number stands before
-- that.
unfoldable pub head_number : List ℕ → Option ℕ
head_number [] = None
head_number (b ∷ bs) = if is_digit b then Some (number_on (with_digit None b) bs)
    else (if is_extra b then None else (if is_letter b then first_number bs else head_number bs))

-- the scramble of a number, from 0: none of none, nor of 0
abbrev pub scramble_with : Option ℕ → ℕ
scramble_with None = 18446744073709551615
scramble_with (Some zero) = 18446744073709551615
scramble_with (Some (suc n)) = n

-- No two parts are of the same scramble, but of none.
abbrev pub AreApart : List KnownPart → Type 0
AreApart parts = (i j : ℕ) (none : KnownPart) → i < j → j < length parts → (get_or parts i none).scramble ≡ (get_or parts j none).scramble →
    (get_or parts i none).scramble ≡ 18446744073709551615

-- Of so many parts none but that in a place says the scramble that this one says.
abbrev pub IsAlone : (said : ℕ → ℕ) (count place : ℕ) → Type 0
IsAlone said count k = (j : ℕ) → j < count → said j ≡ said k → j ≡ k

-- Of which of the scrambles the parts are, by what each says. In order, each is of that in its place. Else each is of
-- none, or of the scramble that it alone says; and it is of that one, if there is such a scramble.
pub record AreAssigned (is_in_order : Bool) (count : ℕ) (said : ℕ → ℕ) (parts : List KnownPart) : Type 0 where
  pub in_order : is_in_order ≡ true → (k : ℕ) (none : KnownPart) → k < length parts → k < count → (get_or parts k none).scramble ≡ k
  pub only : is_in_order ≡ false → (k : ℕ) (none : KnownPart) → k < length parts →
      ((get_or parts k none).scramble ≡ 18446744073709551615) ⊎ (((get_or parts k none).scramble ≡ said k) × IsAlone said (length parts) k)
  pub all : is_in_order ≡ false → (k : ℕ) (none : KnownPart) → k < length parts → said k < count → IsAlone said (length parts) k →
      (get_or parts k none).scramble ≡ said k

-- No two parts have the number of a scramble that is counted once.
abbrev pub AreCounted : List KnownPart → List ℕ → Type 0
AreCounted parts counts = (s : ℕ) → s < length counts → get_or counts s 0 ≡ 1 → (i j : ℕ) (none : KnownPart) → i < j → j < length parts →
    (get_or parts i none).scramble ≡ s → (get_or parts j none).scramble ≡ s → ⊥

-- The scramble of the part in a place: that in its place if the parts are in order, else that of its number, if no
-- other part has it.
abbrev pub IsOwn : (is_in_order : Bool) → List KnownPart → List ℕ → (place scramble : ℕ) → Type 0
IsOwn true parts counts k s = s ≡ k
IsOwn false parts counts k s = (s < length counts) × (get_or counts s 0 ≡ 1) × ((none : KnownPart) → (get_or parts k none).scramble ≡ s)

-- A scramble whose number one part alone has is counted once.
abbrev pub IsCountedAlone : List KnownPart → List ℕ → Type 0
IsCountedAlone parts counts = (k : ℕ) (none : KnownPart) → k < length parts → (get_or parts k none).scramble < length counts →
    IsAlone (λ j. (get_or parts j none).scramble) (length parts) k → get_or counts (get_or parts k none).scramble 0 ≡ 1

-- the number of the head of a line: none if it has no head
abbrev pub number_of_line : List ℕ → TextLine → Option ℕ
number_of_line text line = if line.is_headed == 0 then None else head_number (slice_range text line.begin line.head_end)

-- A name stands in the text, and has no letters but those of the words of a head; an empty one is none.
pub record IsName (text : List ℕ) (begin end : ℕ) : Type 0 where
  pub order : begin ≤ end
  pub within : end ≤ length text
  pub words : HasOnlyWords words_of_any_head (slice_range text begin end)

-- what stands before the labels of lines are names
abbrev pub HaveHeads : List ℕ → List TextLine → Type 0
HaveHeads text lines = All (λ line. IsName text line.begin line.head_end) lines

-- what parts have for names are such
abbrev pub HaveNames : List ℕ → List KnownPart → Type 0
HaveNames text parts = All (λ part. IsName text part.name_begin part.name_end) parts

-- the first of some lines that has a head, if there is one
unfoldable pub first_headed : List TextLine → Option TextLine
first_headed [] = None
first_headed (line ∷ lines) = if line.is_headed == 0 then first_headed lines else Some line

-- The name of a part of some lines is the head of the first one that has one; it has none if there is none.
abbrev pub IsNamed : List TextLine → Part → Type 0
IsNamed lines part = MatchOption (first_headed lines)
    ((part.has_head ≡ false) × (part.name_begin ≡ 0) × (part.name_end ≡ 0))
    (λ line. (part.has_head ≡ true) × (part.name_begin ≡ line.begin) × (part.name_end ≡ line.head_end))

-- A part that follows a place of a text has something in it: no moves stand before it, nor between its begin and what is
-- under its heads; that goes on to its end, with so many lines at most; and its name stands there too, if it has one.
pub record HasBody (text : List ℕ) (from most : ℕ) (part : Part) : Type 0 where
  pub before : HasNoneBetween text from part.begin
  pub heads : HasNoneBetween text part.begin part.body
  pub lines : ℕ
  pub few : lines ≤ most
  pub counts : Counts text part.body lines part.end
  pub within : part.end ≤ length text
  pub named : (part.name_end ≡ 0) ⊎ ((part.begin ≤ part.name_begin) × (part.name_end ≤ part.end))

-- A part is read from a place of a text on, of so many lines: what it leaves out there has no moves, and that is all of it
-- if there is nothing in it.
pub record IsRead (text : List ℕ) (from count : ℕ) (part : Part) : Type 0 where
  pub something : (part.has_head || part.has_moves) ≡ true → HasBody text from count part
  pub nothing : (part.has_head || part.has_moves) ≡ false → HasNoneBetween text from part.end

-- The attempts of a part are numbered: the lines of its solution are of the first one, 0, and those of others follow in order,
-- from 1 on.
pub record AreInAttempts (lines : List TextLine) (first_line solution_end end_line : ℕ) : Type 0 where
  pub solution : All (λ line. line.attempt ≡ 0) (slice_range lines first_line solution_end)
  pub all : ℕ
  pub others : AreNumbered 1 (slice_range lines solution_end end_line) all

-- The parts of a text from one place to another, with the lines that are told of it: each goes from where it begins to some
-- end, its name stands there, if it has one, and its lines are taken of what stands there, in attempts that are numbered. No
-- moves stand between parts.
unfoldable pub PartsTake : List ℕ → List TextLine → ℕ → List KnownPart → ℕ → Type 0
PartsTake text lines from [] to = HasNoneBetween text from to
PartsTake text lines from (part ∷ parts) to =
    (end : ℕ) × HasNoneBetween text from part.begin × ((part.name_end ≡ 0) ⊎ ((part.begin ≤ part.name_begin) × (part.name_end ≤ end)))
    × Takes text part.begin (slice_range lines part.first_line part.end_line) end
    × AreInAttempts lines part.first_line part.solution_end part.end_line × PartsTake text lines end parts to

-- what is read of a part has the number of its name
abbrev pub IsNumbered : List ℕ → Part → Type 0
IsNumbered text part = part.number ≡ head_number (slice_range text part.name_begin part.name_end)

-- the number of the name of a part of a text
abbrev pub number_of_name : List ℕ → KnownPart → Option ℕ
number_of_name text part = head_number (slice_range text part.name_begin part.name_end)

-- each part says the scramble of its name's number
abbrev pub AreSaid : List ℕ → List KnownPart → Type 0
AreSaid text parts = All (λ part. part.scramble ≡ scramble_with (number_of_name text part)) parts

-- the name of one of the parts has a number
abbrev pub have_numbers : List ℕ → List KnownPart → Bool
have_numbers text parts = list_any (λ part. is_some (number_of_name text part)) parts

-- parts have the same names as others
abbrev pub AreNamedAs : List KnownPart → List KnownPart → Type 0
AreNamedAs parts others = (k : ℕ) (none : KnownPart) →
    ((get_or others k none).name_begin ≡ (get_or parts k none).name_begin) × ((get_or others k none).name_end ≡ (get_or parts k none).name_end)

-- Parts are in order if no name has a number, and they are as many as the scrambles.
abbrev pub are_in_order : List ℕ → ℕ → List KnownPart → Bool
are_in_order text count parts = not (have_numbers text parts) && (length parts == count)

-- The name of the part in a place has the number of a scramble, counted from 1, and no other part's name has it.
pub record SaysAlone (text : List ℕ) (parts : List KnownPart) (k scramble : ℕ) : Type 0 where
  pub says : (none : KnownPart) → number_of_name text (get_or parts k none) ≡ Some (scramble + 1)
  pub alone : (j : ℕ) (none : KnownPart) → j < length parts → number_of_name text (get_or parts j none) ≡ Some (scramble + 1) → j ≡ k

-- Which scramble each part of a text is of, if so many are known: of parts in order that in its place. Else a part is of
-- none, or of the one whose number its name alone says; and it is of that one, if there is such a scramble.
pub record AreOf (text : List ℕ) (count : ℕ) (parts : List KnownPart) : Type 0 where
  pub in_order : are_in_order text count parts ≡ true → (k : ℕ) (none : KnownPart) → k < length parts → (get_or parts k none).scramble ≡ k
  pub only : are_in_order text count parts ≡ false → (k : ℕ) (none : KnownPart) → k < length parts →
      ((get_or parts k none).scramble ≡ 18446744073709551615) ⊎ SaysAlone text parts k (get_or parts k none).scramble
  pub all : are_in_order text count parts ≡ false → (k scramble : ℕ) (none : KnownPart) → k < length parts → scramble < count →
      SaysAlone text parts k scramble → (get_or parts k none).scramble ≡ scramble

-- what a line with a head may be told to be: blank, or with moves, as a line of a scramble is, or with words
abbrev pub MayBeHeaded : ℕ → Type 0
MayBeHeaded kind = (kind ≡ 0) ⊎ ((kind ≡ 2) ⊎ (kind ≡ 4))

-- A line is another one whose head ends there, of which nothing else is told but its kind.
pub record IsHeaded (line : TextLine) (head_end number : ℕ) (it : TextLine) : Type 0 where
  pub headed : (it.is_headed ≡ 1) × (it.head_end ≡ head_end)
  pub kind : it.kind ≡ number
  pub placed : (it.begin ≡ line.begin) × (it.end ≡ line.end)
  pub words : (it.label_begin ≡ head_end) × (it.label_end ≡ line.end)
  pub none : (it.moves ≡ line.end) × (it.comment ≡ line.end)
  pub flags : (it.is_solution ≡ 0) × (it.says_solution ≡ 0) × (it.is_inverse ≡ 0)
  pub undoubted : (it.doubt ≡ 0) × (it.doubt_at ≡ line.end)

-- A line is as it was, or a head is told of it that it hadn't, with the number of one of so many scrambles.
abbrev pub IsOrHeaded : (text : List ℕ) (count : ℕ) (line it : TextLine) → Type 0
IsOrHeaded text count line it =
    (it ≡ line) ⊎ ((line.is_headed ≡ 0) × (it.is_headed ≡ 1) × (scramble_with (number_of_line text it) < count))

-- so is each of some lines
abbrev pub AreOrHeaded : (text : List ℕ) (count : ℕ) (lines new : List TextLine) → Type 0
AreOrHeaded text count lines new = (k : ℕ) (none : TextLine) → IsOrHeaded text count (get_or lines k none) (get_or new k none)
