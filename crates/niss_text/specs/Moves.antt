-- The moves of some lines of a text, as one line.
use Rattle.std.specs.Prelude.{◌≡◌, ℕ, ◌+◌, ◌-◌, ◌*◌, ◌==◌, ◌≤◌, ◌⊎◌, nat_lt, Bool, ◌&&◌, not, if◌then◌else◌, Option, None, Some, List, [], ◌∷◌, ◌++◌, length, take, drop, map, slice_get, slice_range}
use Rattle.std.specs.List.{All, filter, list_any}
use Rattle.niss_text.specs.Signs.{is_digit}
use Rattle.niss_text.specs.Pieces.{Part, ArePieces, StayRightly, HasNoTitle, text_of, line_of, places_of}
use Rattle.niss_text.specs.LeftOut.{left_none, both, left_of_all, bits_of}
use Rattle.niss_text.specs.declared.left_out.LeftOut.{LeftOut}
use Rattle.niss_text.specs.declared.text_line.TextLine.{TextLine}
use Rattle.niss_text.specs.declared.plain.PlainAnswer.{PlainAnswer}
use Rattle.niss_text.specs.declared.moves.MovesOf.{MovesOf}
use Rattle.niss_text.specs.declared.moves.MovesPart.{MovesPart}
use Rattle.niss_text.specs.declared.moves.MovesOf.TheVariants.{Scramble, Steps, Solution, EachStep}

-- the moves that callers name by the numbers from 0 on, and those of a number
abbrev pub numbered_moves : List MovesOf
numbered_moves = Scramble ∷ Steps ∷ Solution ∷ EachStep ∷ []

abbrev pub moves_of_number : ℕ → Option MovesOf
moves_of_number n = slice_get numbered_moves n

-- the lines whose moves are wanted: those of the scramble, all steps, or those of the solution
abbrev pub is_wanted : MovesOf → TextLine → Bool
is_wanted Scramble line = line.kind == 2
is_wanted Steps line = line.kind == 3
is_wanted Solution line = (line.kind == 3) && not (line.is_solution == 0)
is_wanted EachStep line = line.kind == 3

-- a line of a text, and the pieces of its moves
pub record LineMoves : Type 0 where
  pub line : TextLine
  pub parts : List Part

-- What stands from `moves` to `comment`, as far as that is in the text, is these pieces; none is what stands before moves.
pub record AreMoves (text : List ℕ) (m : LineMoves) : Type 0 where
  pub are_pieces : ArePieces m.parts
  pub stay : StayRightly m.parts []
  pub untitled : HasNoTitle m.parts
  pub whole : text_of m.parts ≡ slice_range text m.line.moves m.line.comment

abbrev pub is_inverse : TextLine → Bool
is_inverse line = not (line.is_inverse == 0)

-- what stands before and after the moves of a line: brackets if they are said to be on the inverse
abbrev pub opening : TextLine → List ℕ
opening line = if is_inverse line then 40 ∷ [] else []

abbrev pub closing : TextLine → List ℕ
closing line = if is_inverse line then 41 ∷ [] else []

-- their places: where the moves begin and end
abbrev pub opening_place : TextLine → List ℕ
opening_place line = if is_inverse line then line.moves ∷ [] else []

abbrev pub closing_place : TextLine → List ℕ
closing_place line = if is_inverse line then line.comment ∷ [] else []

-- the moves of a line with their brackets
abbrev pub bytes_of_moves : LineMoves → List ℕ
bytes_of_moves m = opening m.line ++ line_of m.parts ++ closing m.line

abbrev pub places_of_moves : LineMoves → List ℕ
places_of_moves m = opening_place m.line ++ places_of m.line.moves m.parts ++ closing_place m.line

-- what parts the moves of two lines: a blank, or a line feed if each step is a line of its own
abbrev pub gap_of : MovesOf → ℕ
gap_of Scramble = 32
gap_of Steps = 32
gap_of Solution = 32
gap_of EachStep = 10

-- what stands between the moves of a line and those of one that ends there
abbrev pub gap_after : ℕ → Option ℕ → List ℕ
gap_after gap None = []
gap_after gap (Some end) = gap ∷ []

abbrev pub place_after : Option ℕ → List ℕ
place_after None = []
place_after (Some end) = end ∷ []

-- the moves of lines after one that ends there, if there is one, parted by this byte
unfoldable pub bytes_after : ℕ → Option ℕ → List LineMoves → List ℕ
bytes_after gap before [] = []
bytes_after gap before (m ∷ ms) = (gap_after gap before ++ bytes_of_moves m) ++ bytes_after gap (Some m.line.end) ms

unfoldable pub places_after : Option ℕ → List LineMoves → List ℕ
places_after before [] = []
places_after before (m ∷ ms) = (place_after before ++ places_of_moves m) ++ places_after (Some m.line.end) ms

-- what a line has before and after its moves: the number of a line, a label, a comment
abbrev pub left_around : List ℕ → TextLine → LeftOut
left_around text line = record left_none {
  labels = nat_lt line.label_begin line.label_end;
  comments = nat_lt line.comment line.end;
  line_numbers = list_any is_digit (slice_range text line.head_end line.label_begin);
}

abbrev pub left_of_moves : List ℕ → LineMoves → LeftOut
left_of_moves text m = both (left_around text m.line) (left_of_all m.parts)

-- what one of the lines leaves out
unfoldable pub left_of_lines : List ℕ → List LineMoves → LeftOut
left_of_lines text [] = left_none
left_of_lines text (m ∷ ms) = both (left_of_moves text m) (left_of_lines text ms)

-- where the moves of a line stand in what is written, after that many bytes and a line that ends there
abbrev pub part_of : List ℕ → ℕ → ℕ → Option ℕ → LineMoves → MovesPart
part_of text gap at before m = record {
  begin = at + length (gap_after gap before);
  end = at + length (gap_after gap before ++ bytes_of_moves m);
  left_out = bits_of (left_of_moves text m);
}

-- where those of each line stand
unfoldable pub parts_after : List ℕ → ℕ → ℕ → Option ℕ → List LineMoves → List MovesPart
parts_after text gap at before [] = []
parts_after text gap at before (m ∷ ms) =
    part_of text gap at before m ∷ parts_after text gap (at + length (gap_after gap before ++ bytes_of_moves m)) (Some m.line.end) ms

-- The moves of the wanted ones of some lines are this line, in order, with these places, and this is left out. Where
-- those of each stand is told, as far as there is room.
pub record AreJoined (text : List ℕ) (of : MovesOf) (lines : List TextLine) (bytes places : List ℕ) (left : LeftOut) (room : ℕ)
    (parts : List MovesPart) : Type 0 where
  pub moves : List LineMoves
  pub are_moves : All (AreMoves text) moves
  pub are_wanted : map (λ m. m.line) moves ≡ filter (is_wanted of) lines
  pub bytes_are : bytes_after (gap_of of) None moves ≡ bytes
  pub places_are : places_after None moves ≡ places
  pub left_is : left_of_lines text moves ≡ left
  pub parts_are : take (length moves) parts ≡ take room (parts_after text (gap_of of) 0 None moves)

-- how many bytes the moves of these lines have at most: three for each, and three for what is put around them
unfoldable pub most_bytes : List TextLine → ℕ
most_bytes [] = 0
most_bytes (line ∷ lines) = 3 * (line.comment - line.moves) + 3 + most_bytes lines

-- What a call does that writes the moves of some lines in rooms for bytes, for places, and for where those of each line
-- stand.
pub record WritesMoves (text : List ℕ) (lines : List TextLine) (of : MovesOf) (out_old out_new places_old places_new : List ℕ)
    (parts_old parts_new : List MovesPart) (answer : PlainAnswer) : Type 0 where
  pub joins : answer.status ≡ 0 → (left : LeftOut) × (bits_of left ≡ answer.left_out)
      × AreJoined text of lines (take answer.length out_new) (take answer.length places_new) left (length parts_old) parts_new
  pub room : most_bytes (filter (is_wanted of) lines) ≤ length out_old → most_bytes (filter (is_wanted of) lines) ≤ length places_old →
      answer.status ≡ 0
  pub known : (answer.status ≡ 0) ⊎ (answer.status ≡ 4)
  pub within : (answer.length ≤ length out_old) × (answer.length ≤ length places_old)
  pub behind : drop answer.length out_new ≡ drop answer.length out_old
  pub behind_places : drop answer.length places_new ≡ drop answer.length places_old
  pub behind_parts : drop (length (filter (is_wanted of) lines)) parts_new ≡ drop (length (filter (is_wanted of) lines)) parts_old

-- what is returned if a number is that of no moves: `Usage`
abbrev pub refusal : PlainAnswer
refusal = record { status = 2; left_out = 0; length = 0 }

-- The same call by a number: if it is that of no moves, nothing is written.
abbrev pub WritesIfMoves : Option MovesOf → (text : List ℕ) (lines : List TextLine) (out_old out_new places_old places_new : List ℕ)
    (parts_old parts_new : List MovesPart) → PlainAnswer → Type 0
WritesIfMoves (Some of) text lines out_old out_new places_old places_new parts_old parts_new answer =
    WritesMoves text lines of out_old out_new places_old places_new parts_old parts_new answer
WritesIfMoves None text lines out_old out_new places_old places_new parts_old parts_new answer =
    (answer ≡ refusal) × (out_new ≡ out_old) × (places_new ≡ places_old) × (parts_new ≡ parts_old)
