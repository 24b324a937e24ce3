-- A part of a text that is written after the beginning of a line.
use Rattle.std.specs.Prelude.{◌≡◌, ℕ, true, Option, List, [], ◌++◌, length}
use Rattle.niss_text.specs.Pieces.{Part, ArePieces, StayRightly, BeginLines, HasNoTitle, LeaveTitles, is_before_moves, text_of, line_of, places_of}
use Rattle.niss_text.specs.LeftOut.{both, left_of_all}
use Rattle.niss_text.specs.Moves.{AreMoves, gap_after, place_after, bytes_of_moves, places_of_moves, left_of_moves, part_of}
use Rattle.niss_text.specs.declared.left_out.LeftOut.{LeftOut}
use Rattle.niss_text.specs.declared.pen.Beginning.{Beginning}
use Rattle.niss_text.specs.declared.piece.Place.TheVariants.{Among}
use Rattle.niss_text.specs.declared.moves.MovesPart.{MovesPart}
use Rattle.niss_text.specs.declared.text_line.TextLine.{TextLine}

-- The part is these pieces. The line that is written of them follows the bytes and places before, and this is left out.
-- Among moves none is a title; elsewhere each title with a colon is left out.
pub record PutsPart (part : List ℕ) (from : Beginning) (before bytes places_before places : List ℕ) (left : LeftOut) : Type 0 where
  pub parts : List Part
  pub are_pieces : ArePieces parts
  pub stay : StayRightly parts []
  pub begin : BeginLines true parts
  pub untitled : from.place ≡ Among → HasNoTitle parts
  pub titles : (from.place ≡ Among → ⊥) → LeaveTitles (is_before_moves from.place) parts []
  pub whole : text_of parts ≡ part
  pub bytes_are : before ++ line_of parts ≡ bytes
  pub places_are : places_before ++ places_of from.at parts ≡ places
  pub left_is : left_of_all parts ≡ left

-- The moves of a line are written after those of one that ends there, if there is one, and stand there.
pub record AddsLine (text : List ℕ) (line : TextLine) (gap : ℕ) (before : Option ℕ) (bytes_before bytes places_before places : List ℕ)
    (left_before left : LeftOut) (last : MovesPart) : Type 0 where
  pub parts : List Part
  pub are_moves : AreMoves text (record { line = line; parts = parts })
  pub bytes_are : bytes_before ++ (gap_after gap before ++ bytes_of_moves (record { line = line; parts = parts })) ≡ bytes
  pub places_are : places_before ++ (place_after before ++ places_of_moves (record { line = line; parts = parts })) ≡ places
  pub left_is : both left_before (left_of_moves text (record { line = line; parts = parts })) ≡ left
  pub last_is : part_of text gap (length bytes_before) before (record { line = line; parts = parts }) ≡ last
