-- Sequences that do no more than a rotation of the whole cube, told by their face turns; and how many moves these are.
use Rattle.niss_moves.proofs.Names.{refl, ap, sym, ◌∙◌, arith, ◌≡◌, ◌+◌, List, [], ◌∷◌, ◌++◌, length, map, ◌↔◌, true, U, D, R, L, F, B}
use Rattle.niss_moves.proofs.Names.{list_all-from_AllPass, sum_by-cons, get_or, places, effect_of_turns, turned, centre, Turn, Face}
use Rattle.niss_moves.proofs.Names.{inverse, Token, Rotation, Place, M, E, S, expanded}
use Rattle.std.specs.List.{sum_by}
use Rattle.std.proofs.lemmas.List.{length-map, get_or_default}
use Rattle.niss_moves.specs.Effects.{effect}
use Rattle.niss_moves.specs.Places.{is_place, same_place, SameMap}
use Rattle.niss_moves.specs.Rotations.{faces, faces_with, spelling, IsRotationOf}
unfoldable use Rattle.niss_moves.specs.Cleaning.{rotation_left}
use Rattle.niss_moves.specs.Solving.{IsRotated, is_rotated, weight}
use Rattle.niss_moves.proofs.Effects.{effect-append, turn_after, one_spelling, inverse_after}
use Rattle.niss_moves.proofs.Home.{before, no_faces, faces-append, faces_and_rotation, rotation_is_left, keep_centre}
use Rattle.niss_moves.proofs.Finite.{Places, Alike, holds, same_place_of, places_are_listed}

-- Two rotations are one.
both : Rotation → Rotation → Rotation
both r n = rotation_left (spelling r ++ spelling n)

both-effect : (r n : Rotation) (q : Place) → effect (spelling (both r n)) q ≡ effect (spelling n) (effect (spelling r) q)
unfolding both
both-effect r n q =
    let s : List Token = spelling r ++ spelling n in
    let none : faces s ≡ [] = faces-append (spelling r) (spelling n) (no_faces n.top n.vertical) ∙ no_faces r.top r.vertical in
    sym (faces_and_rotation s (both r n) (rotation_is_left s) q ∙ ap (λ ts. effect (spelling (both r n)) (effect_of_turns ts q)) none)
    ∙ effect-append (spelling r) (spelling n) q

-- Face turns after a rotation are renamed face turns before it.
turns_after : (r : Rotation) (ts : List Turn) (q : Place) → effect_of_turns ts (effect (spelling r) q) ≡ effect (spelling r) (effect_of_turns (map (before r) ts) q)
turns_after r [] q = refl
turns_after r (t ∷ ts) q = ap (effect_of_turns ts) (turn_after r t q) ∙ turns_after r ts (turned (before r t) q)

-- One sequence and then another, by the face turns of each and the rotations that are left.
module _ (s t : List Token) (r n : Rotation) (of_s : IsRotationOf s r) (of_t : IsRotationOf t n) where
  -- what the face turns do, the second ones as the cube is held after the first sequence
  abbrev turns_do : Place → Place
  turns_do q = effect_of_turns (map (before r) (faces t)) (effect_of_turns (faces s) q)

  both_do : (q : Place) → effect (s ++ t) q ≡ effect (spelling (both r n)) (turns_do q)
  both_do q =
      effect-append s t q ∙ ap (effect t) (faces_and_rotation s r of_s q) ∙ faces_and_rotation t n of_t (effect (spelling r) (effect_of_turns (faces s) q))
      ∙ ap (effect (spelling n)) (turns_after r (faces t) (effect_of_turns (faces s) q)) ∙ sym (both-effect r n (turns_do q))

  keeps_centres : (f : Face) → turns_do (centre f) ≡ centre f
  keeps_centres f = ap (effect_of_turns (map (before r) (faces t))) (keep_centre (faces s) f) ∙ keep_centre (map (before r) (faces t)) f

  undone_is_rotated : SameMap turns_do (λ q. q) → IsRotated (s ++ t)
  undone_is_rotated h = (both r n, λ q p. both_do q ∙ ap (effect (spelling (both r n))) (h q p))

  rotated_is_undone : IsRotated (s ++ t) → SameMap turns_do (λ q. q)
  rotated_is_undone w q p =
      let m : Rotation = both r n in
      let one : m ≡ w.0 = one_spelling m w.0 (λ f. ap (effect (spelling m)) (sym (keeps_centres f)) ∙ sym (both_do (centre f)) ∙ w.1 (centre f) (centre_is_place f)) in
      let same : effect (spelling m) (turns_do q) ≡ effect (spelling m) q = sym (both_do q) ∙ w.1 q p ∙ ap (λ r. effect (spelling r) q) (sym one) in
      sym (inverse_after (spelling m) (turns_do q)) ∙ ap (effect (inverse (spelling m))) same ∙ inverse_after (spelling m) q
    where
      centre_is_place : (f : Face) → is_place (centre f) ≡ true
      centre_is_place U = refl
      centre_is_place D = refl
      centre_is_place R = refl
      centre_is_place L = refl
      centre_is_place F = refl
      centre_is_place B = refl

pub solved_by_turns : (s t : List Token) (r : Rotation) → IsRotationOf s r →
    IsRotated (s ++ t) ↔ SameMap (λ q. effect_of_turns (map (before r) (faces t)) (effect_of_turns (faces s) q)) (λ q. q)
solved_by_turns s t r of_s =
    (rotated_is_undone s t r (rotation_left t) of_s (rotation_is_left t), undone_is_rotated s t r (rotation_left t) of_s (rotation_is_left t))

-- The test decides it.
pub rotated_is_tested : (s : List Token) → (is_rotated s ≡ true) ↔ IsRotated s
unfolding is_rotated
rotated_is_tested s = (
  (λ h. (rotation_left s, λ q p. holds (Places λ q. Alike (effect s q) (effect (spelling (rotation_left s)) q)) h q p)),
  (λ w.
      let one : rotation_left s ≡ w.0 = one_spelling (rotation_left s) w.0 (λ f. rotation_is_left s f ∙ w.1 (centre f) (is_centre f)) in
      list_all-from_AllPass (λ q. same_place (effect s q) (effect (spelling (rotation_left s)) q)) places
      (λ i d l.
      let q : Place = get_or places i d in
      same_place_of _ _ (w.1 q ((places_are_listed q).1 (i, l, get_or_default places i q d l)) ∙ ap (λ r. effect (spelling r) q) (sym one)))),
)
  where
    is_centre : (f : Face) → is_place (centre f) ≡ true
    is_centre U = refl
    is_centre D = refl
    is_centre R = refl
    is_centre L = refl
    is_centre F = refl
    is_centre B = refl

-- As many face turns as the moves count.
weight-is : (t : Token) (rest : List Turn) → length (faces_with (expanded t) rest) ≡ weight t + length rest
weight-is (Token.Face t) rest = omega arith
weight-is (Token.Wide U p) rest = omega (arith, length-map {A = Turn} {B = Turn})
weight-is (Token.Wide D p) rest = omega (arith, length-map {A = Turn} {B = Turn})
weight-is (Token.Wide R p) rest = omega (arith, length-map {A = Turn} {B = Turn})
weight-is (Token.Wide L p) rest = omega (arith, length-map {A = Turn} {B = Turn})
weight-is (Token.Wide F p) rest = omega (arith, length-map {A = Turn} {B = Turn})
weight-is (Token.Wide B p) rest = omega (arith, length-map {A = Turn} {B = Turn})
weight-is (Token.Slice M p) rest = omega (arith, length-map {A = Turn} {B = Turn})
weight-is (Token.Slice E p) rest = omega (arith, length-map {A = Turn} {B = Turn})
weight-is (Token.Slice S p) rest = omega (arith, length-map {A = Turn} {B = Turn})
weight-is (Token.Rotation a p) rest = omega (arith, length-map {A = Turn} {B = Turn})

pub counted_by_faces : (s : List Token) → sum_by weight s ≡ length (faces s)
counted_by_faces [] = refl
counted_by_faces (t ∷ s) =
    sum_by-cons weight t s ∙ ap (λ n. weight t + n) (counted_by_faces s) ∙ sym (weight-is t (faces s))
