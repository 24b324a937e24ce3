-- A text as one line.
use Rattle.std.specs.Prelude.{◌≡◌, ℕ, true, List, []}
use Rattle.niss_text.specs.Pieces.{Part, ArePieces, StayRightly, BeginLines, LeaveTitles, text_of, line_of, places_of}
use Rattle.niss_text.specs.LeftOut.{left_of_all, bits_of}

-- A text is read as this line, of which each byte has its place, and this is left out of it.
pub record IsPlain (text line places : List ℕ) (left : ℕ) : Type 0 where
  pub parts : List Part
  pub are_pieces : ArePieces parts
  pub stay : StayRightly parts []
  pub begin : BeginLines true parts
  pub titles : LeaveTitles true parts []
  pub whole : text_of parts ≡ text
  pub line_is : line_of parts ≡ line
  pub places_are : places_of 0 parts ≡ places
  pub left_is : bits_of (left_of_all parts) ≡ left
