-- How the cube is held after moves, and then others.
use Rattle.std.proofs.Common.{◌≡◌, refl, ap, sym, ◌∙◌, Bool, true, false, List, [], ◌∷◌, ◌++◌, Option, None, Some}
use Rattle.std.specs.Prelude.{find, unwrap_or}
use Rattle.niss_moves.specs.Canonical.{same_face}
use Rattle.niss_moves.proofs.CallerLemmas.{Alike, Faces, Tokens, Turns, When, effect-append, every_axis, every_face, every_power, every_slice, every_token, every_turn, holds}
use Rattle.niss_moves.specs.Effects.{effect, inverse_power, moved_by}
use Rattle.niss_moves.specs.Facelets.{centre}
use Rattle.niss_moves.specs.Places.{Place}
use Rattle.niss_moves.specs.Rotations.{IsRotationOf, about_vertical, face_before, face_before_power, rotation_if, spelling, to_top}
use Rattle.niss_moves.specs.declared.rotation.Rotation.{Rotation}
use Rattle.niss_moves.specs.declared.token.Token.{Token}
use Rattle.niss_moves.specs.declared.turn.Axis.{Axis}
use Rattle.niss_moves.specs.declared.turn.Face.{Face}
use Rattle.niss_moves.specs.declared.turn.Face.TheVariants.{U, D, R, L, F, B}
use Rattle.niss_moves.specs.declared.turn.Power.{Power}

-- A rotation brings the centre of each face to that of another.
abbrev turns_all : Token → Bool
turns_all (Token.Rotation axis p) = true
turns_all _ = false

abbrev goes_to : Token → Face → Face
goes_to (Token.Rotation axis p) f = face_before_power axis (inverse_power p) f
goes_to _ f = f

brings : (t : Token) → turns_all t ≡ true → (f : Face) → moved_by t (centre f) ≡ centre (goes_to t f)
unfolding every_token every_power every_face every_axis every_slice
brings = holds (Tokens (λ t. When (turns_all t) (Faces (λ f. Alike (moved_by t (centre f)) (centre (goes_to t f)))))) refl

brings_if : (o : Option (Axis × Power)) (f : Face) → (g : Face) × (effect (rotation_if o) (centre f) ≡ centre g)
brings_if None f = (f, refl)
brings_if (Some r) f = (goes_to (Token.Rotation r.0 r.1) f, brings (Token.Rotation r.0 r.1) refl f)

brings_centre : (r : Rotation) (f : Face) → (g : Face) × (effect (spelling r) (centre f) ≡ centre g)
brings_centre r f =
    let top = to_top r.top in
    let beside = about_vertical r.vertical in
    let first = brings_if top f in
    let last = brings_if beside first.0 in
    (last.0, effect-append (rotation_if top) (rotation_if beside) (centre f) ∙ ap (effect (rotation_if beside)) first.1 ∙ last.1)

-- What is left of moves and then others is the rotation of the first and then that of the others.
pub held_after : (s t : List Token) (r left both : Rotation) → ((q : Place) → effect (spelling both) q ≡ effect (spelling left) (effect (spelling r) q))
    → IsRotationOf t left → IsRotationOf s r → IsRotationOf (s ++ t) both
held_after s t r left both is of_t of_s f =
    let g = brings_centre r f in
    is (centre f) ∙ ap (effect (spelling left)) g.1 ∙ of_t g.0 ∙ ap (effect t) (sym g.1 ∙ of_s f) ∙ sym (effect-append s t (centre f))

-- Of the faces the one is found that a rotation brings a face's centre to.
abbrev pub is_name : Rotation → Face → Face → Bool
is_name r f g = same_face (face_before r g) f

abbrev pub all_faces : List Face
all_faces = U ∷ D ∷ R ∷ L ∷ F ∷ B ∷ []

abbrev pub found_name : Rotation → Face → Face
found_name r f = unwrap_or (find (is_name r f) all_faces) f

with_vertical : (p : Power) (top f : Face) → let r : Rotation = record { top = top; vertical = Some p } in effect (spelling r) (centre f) ≡ centre (found_name r f)
unfolding every_turn every_face every_power
with_vertical p top f = holds (Turns (λ t. Faces (λ f. let r : Rotation = record { top = t.face; vertical = Some t.power } in
    Alike (effect (spelling r) (centre f)) (centre (found_name r f))))) refl (record { face = top; power = p }) f

without_vertical : (top f : Face) → let r : Rotation = record { top = top; vertical = None } in effect (spelling r) (centre f) ≡ centre (found_name r f)
unfolding every_face
without_vertical = holds (Faces (λ top. Faces (λ f. let r : Rotation = record { top = top; vertical = None } in
    Alike (effect (spelling r) (centre f)) (centre (found_name r f))))) refl

by_vertical : (top : Face) (v : Option Power) (f : Face) → let r : Rotation = record { top = top; vertical = v } in effect (spelling r) (centre f) ≡ centre (found_name r f)
by_vertical top (Some p) f = with_vertical p top f
by_vertical top None f = without_vertical top f

pub named_rightly : (r : Rotation) (f : Face) → effect (spelling r) (centre f) ≡ centre (found_name r f)
named_rightly r f = by_vertical r.top r.vertical f
