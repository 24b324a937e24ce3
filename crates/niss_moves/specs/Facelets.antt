-- The facelets of the six faces, the 54 places in the order of the facelet text (as Kociemba's facelet level has it), and that text.
use Rattle.std.specs.Prelude.{ℕ, zero, suc, ◌-◌, ◌/◌, ◌%◌, List, [], ◌∷◌, ◌++◌, map, if◌then◌else◌, slice_index}
use Rattle.std.specs.Prelude.{codes}
use Rattle.niss_moves.specs.Places.{Coord, Neg, Zero, Pos, negated, Vector, Place, same_place, same_vector}
use Rattle.niss_moves.specs.Names.{Face, U, D, R, L, F, B}
use Rattle.niss_moves.specs.Indices.{face_index}

-- the cell of a face at a column from left to right and a row from top to bottom
abbrev pub face_cell : Face → (column row : Coord) → Vector
face_cell U c r = record { x = c; y = Pos; z = r }
face_cell R c r = record { x = Pos; y = negated r; z = negated c }
face_cell F c r = record { x = c; y = negated r; z = Pos }
face_cell D c r = record { x = c; y = Neg; z = negated r }
face_cell L c r = record { x = Neg; y = negated r; z = c }
face_cell B c r = record { x = negated c; y = negated r; z = Neg }

-- the direction in which a face looks: the cell of its centre
abbrev pub outward : Face → Vector
outward f = face_cell f Zero Zero

-- the place in the middle of a face
abbrev pub centre : Face → Place
centre f = record { cell = outward f; direction = outward f }

-- column or row 0, 1 or 2 as a coordinate
abbrev pub coord_of : ℕ → Coord
coord_of zero = Neg
coord_of (suc zero) = Zero
coord_of _ = Pos

-- the facelets of a face are numbered from 1 to 9, by rows
abbrev pub facelet : Face → ℕ → Place
facelet f n = record {
  cell = face_cell f (coord_of ((n - 1) % 3)) (coord_of ((n - 1) / 3));
  direction = outward f;
}

abbrev pub face_places : Face → List Place
face_places f = map (facelet f) (1 ∷ 2 ∷ 3 ∷ 4 ∷ 5 ∷ 6 ∷ 7 ∷ 8 ∷ 9 ∷ [])

-- the 54 sticker places
abbrev pub places : List Place
places = face_places U ++ face_places R ++ face_places F ++ face_places D ++ face_places L ++ face_places B

-- the letter of a face
abbrev pub face_letter : Face → ℕ
face_letter f = slice_index (codes "UDRLFB") (face_index f)

-- the letter of the face on which a place is
abbrev pub letter_at : Place → ℕ
letter_at q =
    if same_vector q.direction (outward U) then face_letter U
    else (if same_vector q.direction (outward R) then face_letter R
    else (if same_vector q.direction (outward F) then face_letter F
    else (if same_vector q.direction (outward D) then face_letter D
    else (if same_vector q.direction (outward L) then face_letter L
    else face_letter B))))

-- of the places in ps, the letter of the one that e brings to q
unfoldable pub letter_of : (Place → Place) → List Place → Place → ℕ
letter_of e [] q = slice_index (codes "?") 0
letter_of e (p ∷ ps) q = if same_place (e p) q then letter_at p else letter_of e ps q

-- the 54 letters of a map
unfoldable pub letters : (Place → Place) → List ℕ
letters e = map (letter_of e places) places
