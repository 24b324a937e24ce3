-- What a line hasn't of its text, or has a blank for.
use Rattle.std.specs.Prelude.{ℕ, ◌+◌, true, false, ◌||◌, if◌then◌else◌, List, [], ◌∷◌}
use Rattle.niss_text.specs.Pieces.{Part}
use Rattle.niss_text.specs.declared.piece.Piece.{Piece}
use Rattle.niss_text.specs.declared.piece.Piece.TheVariants.{Kept, Blank, LineEnd, Comma, Apostrophe, Unseen, Label, LineNumber, MoveCount, Comment}
use Rattle.niss_text.specs.declared.left_out.LeftOut.{LeftOut}

abbrev pub left_none : LeftOut
left_none = record {
  labels = false;
  move_counts = false;
  comments = false;
  line_numbers = false;
  commas = false;
  unseen = false;
}

-- what a piece leaves out
abbrev pub left_of : Piece → LeftOut
left_of Kept = left_none
left_of Blank = left_none
left_of LineEnd = left_none
left_of Apostrophe = left_none
left_of Comma = record left_none { commas = true }
left_of Unseen = record left_none { unseen = true }
left_of Label = record left_none { labels = true }
left_of LineNumber = record left_none { line_numbers = true }
left_of MoveCount = record left_none { move_counts = true }
left_of Comment = record left_none { comments = true }

-- what one of two leaves out
abbrev pub both : LeftOut → LeftOut → LeftOut
both a b = record {
  labels = a.labels || b.labels;
  move_counts = a.move_counts || b.move_counts;
  comments = a.comments || b.comments;
  line_numbers = a.line_numbers || b.line_numbers;
  commas = a.commas || b.commas;
  unseen = a.unseen || b.unseen;
}

-- what one of some pieces leaves out
unfoldable pub left_of_all : List Part → LeftOut
left_of_all [] = left_none
left_of_all (p ∷ ps) = both (left_of p.kind) (left_of_all ps)

-- the same as the bits of a number
abbrev pub bits_of : LeftOut → ℕ
bits_of left =
    (if left.labels then 1 else 0) + (if left.move_counts then 2 else 0) + (if left.comments then 4 else 0)
    + ((if left.line_numbers then 8 else 0) + (if left.commas then 16 else 0) + (if left.unseen then 32 else 0))
