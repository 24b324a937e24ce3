-- The 24 rotations of the whole cube, and any sequence as face turns and a rotation.
use Rattle.std.specs.Prelude.{◌≡◌, List, [], ◌∷◌, ◌++◌, Option, None, Some, map}
use Rattle.niss_moves.specs.Effects.{effect, inverse_power, moved_by}
use Rattle.niss_moves.specs.Places.{Place}
use Rattle.niss_moves.specs.Facelets.{centre}
use Rattle.niss_moves.specs.Names.{Face, U, D, R, L, F, B, Power, Quarter, Half, Counter, Turn, Axis, Ud, Rl, Fb}
use Rattle.niss_moves.specs.Names.{Token, Rotation, M, E, S}

-- the rotation about an axis that brings a face to the top, if it isn't there
abbrev pub to_top : Face → Option (Axis × Power)
to_top U = None
to_top F = Some (Rl, Quarter)
to_top D = Some (Rl, Half)
to_top B = Some (Rl, Counter)
to_top L = Some (Fb, Quarter)
to_top R = Some (Fb, Counter)

-- a rotation about the vertical axis, if there is one
abbrev pub about_vertical : Option Power → Option (Axis × Power)
about_vertical None = None
about_vertical (Some p) = Some (Ud, p)

-- the move of a rotation about an axis, if there is one
abbrev pub rotation_if : Option (Axis × Power) → List Token
rotation_if None = []
rotation_if (Some r) = Token.Rotation r.0 r.1 ∷ []

-- The one spelling of each of the 24 rotations: what brings a face to the top, then a turn about the vertical axis.
abbrev pub spelling : Rotation → List Token
spelling r = rotation_if (to_top r.top) ++ rotation_if (about_vertical r.vertical)

-- The rotation moves the six centres as the sequence does.
abbrev pub IsRotationOf : List Token → Rotation → Type 0
IsRotationOf ts r = (f : Face) → effect (spelling r) (centre f) ≡ effect ts (centre f)

-- The face that a quarter rotation brings to the place of a face. So the rotation and then a turn of the second is a
-- turn of the first and then the rotation: `x U` is `F x`.
abbrev pub face_before_quarter : Axis → Face → Face
face_before_quarter Rl U = F
face_before_quarter Rl F = D
face_before_quarter Rl D = B
face_before_quarter Rl B = U
face_before_quarter Ud F = R
face_before_quarter Ud R = B
face_before_quarter Ud B = L
face_before_quarter Ud L = F
face_before_quarter Fb U = L
face_before_quarter Fb L = D
face_before_quarter Fb D = R
face_before_quarter Fb R = U
face_before_quarter _ f = f

-- the same for one, two or three quarters
abbrev pub face_before_power : Axis → Power → Face → Face
face_before_power axis Quarter f = face_before_quarter axis f
face_before_power axis Half f = face_before_quarter axis (face_before_quarter axis f)
face_before_power axis Counter f =
    face_before_quarter axis (face_before_quarter axis (face_before_quarter axis f))

-- the same for a rotation about an axis, if there is one
abbrev pub face_before_if : Option (Axis × Power) → Face → Face
face_before_if None f = f
face_before_if (Some r) f = face_before_power r.0 r.1 f

-- the same for the 24 rotations
abbrev pub face_before : Rotation → Face → Face
face_before r f = face_before_if (to_top r.top) (face_before_if (about_vertical r.vertical) f)

-- The rotation is another one and then one about an axis.
pub record IsNext (r : Rotation) (axis : Axis) (p : Power) (next : Rotation) : Type 0 where
  pub effect : (q : Place) → effect (spelling next) q ≡ moved_by (Token.Rotation axis p) (effect (spelling r) q)
  pub faces : (f : Face) → face_before next f ≡ face_before r (face_before_power axis p f)

-- a turn of the same power of a renamed face
abbrev pub renamed_turn : (Face → Face) → Turn → Turn
renamed_turn name t = record { face = name t.face; power = t.power }

-- a move of the kinds from which the others are made: a face turn, or a rotation of the whole cube
pub data BasicMove : Type 0 where
  FaceTurn : Face → Power → BasicMove
  WholeRotation : Axis → Power → BasicMove

abbrev pub token_of_basic : BasicMove → Token
token_of_basic (FaceTurn f p) = Token.Face (record { face = f; power = p })
token_of_basic (WholeRotation axis p) = Token.Rotation axis p

-- each move as basic moves
abbrev pub expanded : Token → List BasicMove
expanded (Token.Face t) = FaceTurn t.face t.power ∷ []
expanded (Token.Wide R p) = FaceTurn L p ∷ WholeRotation Rl p ∷ []
expanded (Token.Wide L p) = FaceTurn R p ∷ WholeRotation Rl (inverse_power p) ∷ []
expanded (Token.Wide U p) = FaceTurn D p ∷ WholeRotation Ud p ∷ []
expanded (Token.Wide D p) = FaceTurn U p ∷ WholeRotation Ud (inverse_power p) ∷ []
expanded (Token.Wide F p) = FaceTurn B p ∷ WholeRotation Fb p ∷ []
expanded (Token.Wide B p) = FaceTurn F p ∷ WholeRotation Fb (inverse_power p) ∷ []
expanded (Token.Slice M p) =
    FaceTurn R p ∷ FaceTurn L (inverse_power p) ∷ WholeRotation Rl (inverse_power p) ∷ []
expanded (Token.Slice E p) =
    FaceTurn U p ∷ FaceTurn D (inverse_power p) ∷ WholeRotation Ud (inverse_power p) ∷ []
expanded (Token.Slice S p) = FaceTurn F (inverse_power p) ∷ FaceTurn B p ∷ WholeRotation Fb p ∷ []
expanded (Token.Rotation axis p) = WholeRotation axis p ∷ []

-- The face turns of basic moves and of what follows them: a face turn stands before the face turns that follow, and a
-- rotation renames them.
abbrev pub faces_with : List BasicMove → List Turn → List Turn
faces_with [] rest = rest
faces_with (FaceTurn f p ∷ moves) rest = record { face = f; power = p } ∷ faces_with moves rest
faces_with (WholeRotation axis p ∷ moves) rest =
    map (renamed_turn (face_before_power axis p)) (faces_with moves rest)

-- the face turns of a sequence
abbrev pub faces : List Token → List Turn
faces [] = []
faces (t ∷ ts) = faces_with (expanded t) (faces ts)
