-- Effects of single moves, over all places; of a sequence and its inverse; of rotations, and how they rename the turns after them.
use Rattle.niss_moves.proofs.Names.{refl, ap, sym, ◌∙◌, ◌≡◌, true, List, [], ◌∷◌, ◌++◌, map, inverse, Power, Token, Quarter, Place, Some}
use Rattle.niss_moves.proofs.Names.{Bool, false, ◌&&◌, Option, None, if◌then◌else◌, unwrap_or, face_order, rotations, turned}
use Rattle.niss_moves.proofs.Names.{effect_of_turns, centre, Turn, Face, Rotation, U, D, R, L, F, B, Axis, same_face, reverse, expanded}
use Rattle.niss_moves.proofs.Names.{to_top, reverse-append, map-append, and_parts, list_all, IsNext, rotation_by}
use Rattle.niss_moves.specs.Places.{IsPlace, same_place, is_place, Vector, same_vector, along}
use Rattle.niss_moves.specs.Effects.{effect, HasMeaning, moved_by, inverse_token, inverse_power, quarters, Move, moved, face_move, times}
use Rattle.niss_moves.specs.Rotations.{token_of_basic, face_before, face_before_power, spelling, IsRotationOf, renamed_turn, about_vertical}
use mathlib.Core.Bool.{beq}
unfoldable use Rattle.niss_moves.specs.Cleaning.{rotation_left}
use Rattle.std.specs.List.{find}
use Rattle.niss_moves.proofs.Finite.{every_place, every_token, every_vector, every_coord, every_power, every_face, every_slice, every_axis}
use Rattle.niss_moves.proofs.Finite.{Tokens, Anywhere, Places, Alike, Yes, holds, at_vector, same_vector_is, same_face_is, turn, rotation}
use Rattle.niss_moves.proofs.Finite.{every_turn, at_turn, at_face, at_power, at_axis, every_rotation, at_rotation}

pub effect-append : (s t : List Token) (q : Place) → effect (s ++ t) q ≡ effect t (effect s q)
effect-append [] t q = refl
effect-append (x ∷ s) t q = effect-append s t (moved_by x q)

undoes : (t : Token) (q : Place) → moved_by (inverse_token t) (moved_by t q) ≡ q
unfolding every_place every_vector every_coord every_power every_face every_axis every_slice every_token
undoes = holds (Tokens (λ t. Anywhere (λ q. Alike (moved_by (inverse_token t) (moved_by t q)) q))) refl

twice_power : (p : Power) → inverse_power (inverse_power p) ≡ p
twice_power Quarter = refl
twice_power _ = refl

twice_token : (t : Token) → inverse_token (inverse_token t) ≡ t
twice_token (Token.Face t) = ap (λ p. Token.Face (record t { power = p })) (twice_power t.power)
twice_token (Token.Wide f p) = ap (Token.Wide f) (twice_power p)
twice_token (Token.Slice f p) = ap (Token.Slice f) (twice_power p)
twice_token (Token.Rotation f p) = ap (Token.Rotation f) (twice_power p)

pub inverse-append : (s t : List Token) → inverse (s ++ t) ≡ inverse t ++ inverse s
inverse-append s t = ap reverse (map-append inverse_token s t) ∙ reverse-append (map inverse_token s) (map inverse_token t)

inverse-inverse : (s : List Token) → inverse (inverse s) ≡ s
inverse-inverse [] = refl
inverse-inverse (t ∷ s) =
    ap inverse (inverse-append (t ∷ []) s) ∙ inverse-append (inverse s) (inverse_token t ∷ []) ∙ (λ i. twice_token t i ∷ inverse-inverse s i)

-- first the sequence, then its inverse
pub inverse_after : (s : List Token) (q : Place) → effect (inverse s) (effect s q) ≡ q
inverse_after [] q = refl
inverse_after (t ∷ s) q =
    ap (λ x. effect x (effect s (moved_by t q))) (inverse-append (t ∷ []) s) ∙ effect-append (inverse s) (inverse_token t ∷ []) _ ∙ ap (moved_by (inverse_token t)) (inverse_after s (moved_by t q)) ∙ undoes t q

pub inverse_before : (s : List Token) (q : Place) → effect s (effect (inverse s) q) ≡ q
inverse_before s q = ap (λ x. effect x (effect (inverse s) q)) (sym (inverse-inverse s)) ∙ inverse_after (inverse s) q

pub meaning : (n b : List Token) → HasMeaning (n ++ inverse b) n b
meaning n b q = ap (effect b) (effect-append n (inverse b) q) ∙ inverse_before b (effect n q)

pub inverse_whole : (n b : List Token) → b ++ inverse n ≡ inverse (n ++ inverse b)
inverse_whole n b = sym (inverse-append n (inverse b) ∙ ap (λ x. x ++ inverse n) (inverse-inverse b))

-- what the two calls leave
pub joined : (e o m n b v w : List Token) → e ≡ [] → n ≡ v → b ≡ w → o ≡ e ++ n → m ≡ o ++ inverse b → m ≡ v ++ inverse w
joined e o m n b v w ee en eb eo em =
    em ∙ ap (λ x. x ++ inverse b) (eo ∙ ap (λ x. x ++ n) ee ∙ en) ∙ ap (λ x. v ++ inverse x) eb

pub meaning_of : (m n b : List Token) → m ≡ n ++ inverse b → HasMeaning m n b
meaning_of m n b e q = ap (λ x. effect b (effect x q)) e ∙ meaning n b q

pub inverse_of : (m n b : List Token) → m ≡ b ++ inverse n → m ≡ inverse (n ++ inverse b)
inverse_of m n b e = e ∙ inverse_whole n b

-- the effect that a meaning comes to
meaning_undone : (s n b : List Token) → HasMeaning s n b → (q : Place) → effect s q ≡ effect (inverse b) (effect n q)
meaning_undone s n b h q = sym (inverse_after b (effect s q)) ∙ ap (effect (inverse b)) (h q)

pub one_meaning : (s t normal bracketed : List Token) → HasMeaning s normal bracketed → HasMeaning t normal bracketed → (q : Place) → effect s q ≡ effect t q
one_meaning s t n b h k q = meaning_undone s n b h q ∙ sym (meaning_undone t n b k q)

-- the inverse of a line, after any sequence of its meaning
pub inverse_undoes_line : (m n b s : List Token) (q : Place) → HasMeaning s n b → m ≡ inverse (n ++ inverse b) → effect m (effect s q) ≡ q
inverse_undoes_line m n b s q h e =
    rw e (ap (effect (inverse (n ++ inverse b))) (one_meaning s (n ++ inverse b) n b h (meaning n b) q) ∙ inverse_after (n ++ inverse b) q)

-- Each move has the effect of the basic moves that it is expanded to.
pub effect_of_expanded : (t : Token) (q : Place) → effect (map token_of_basic (expanded t)) q ≡ moved_by t q
unfolding every_place every_vector every_coord every_power every_face every_axis every_slice every_token
effect_of_expanded = holds (Tokens (λ t. Anywhere (λ q. Alike (effect (map token_of_basic (expanded t)) q) (moved_by t q)))) refl

-- A move brings places to places.
pub places_stay : (t : Token) (q : Place) → IsPlace q → IsPlace (moved_by t q)
unfolding every_power every_face every_axis every_slice every_token
places_stay = holds (Tokens (λ t. Places (λ q. Yes (is_place (moved_by t q))))) refl

-- A rotation brings the cell and the direction of a place where it brings any vector.
abbrev vector_if : Option (Axis × Power) → Vector → Vector
vector_if None v = v
vector_if (Some r) v = quarters r.0 (times r.1) v

abbrev rotated_vector : Rotation → Vector → Vector
rotated_vector r v = vector_if (about_vertical r.vertical) (vector_if (to_top r.top) v)

abbrev on_place : (Vector → Vector) → Place → Place
on_place g q = record { cell = g q.cell; direction = g q.direction }

effect_of_rotation : (f : Face) (o : Option Power) (q : Place) → effect (spelling (rotation f o)) q ≡ on_place (rotated_vector (rotation f o)) q
effect_of_rotation U None q = refl
effect_of_rotation U (Some p) q = refl
effect_of_rotation _ None q = refl
effect_of_rotation _ (Some p) q = refl

-- a rotation and one more about an axis, by the faces that come to the top and to the front
unfoldable pub next_rotation : Rotation → Axis → Power → Rotation
next_rotation r a p = rotation_by (face_before r (face_before_power a p U)) (face_before r (face_before_power a p F))

abbrev TurnsOn : Rotation → Axis → Power → Rotation → Bool
TurnsOn r a p n = every_vector (λ v. same_vector (rotated_vector n v) (quarters a (times p) (rotated_vector r v)))

abbrev RenamesOn : Rotation → Axis → Power → Rotation → Bool
RenamesOn r a p n = every_face (λ f. same_face (face_before n f) (face_before r (face_before_power a p f)))

next_test : every_rotation (λ r. every_axis (λ a. every_power (λ p. TurnsOn r a p (next_rotation r a p) && RenamesOn r a p (next_rotation r a p)))) ≡ true
unfolding every_vector every_coord every_power every_face every_axis every_rotation next_rotation
next_test = refl

pub is_next : (r : Rotation) (a : Axis) (p : Power) → IsNext r a p (next_rotation r a p)
is_next r a p =
    let n = next_rotation r a p in
    let h = and_parts (TurnsOn r a p n) (RenamesOn r a p n) (at_power _ (at_axis _ (at_rotation _ next_test r) a) p) in
    let v : (v : Vector) → rotated_vector n v ≡ quarters a (times p) (rotated_vector r v) = λ v. same_vector_is _ _ (at_vector _ h.0 v) in
    record {
      effect = λ q.
          rw (effect_of_rotation n.top n.vertical q, effect_of_rotation r.top r.vertical q) (λ i. record { cell = v q.cell i; direction = v q.direction i });
      faces = λ f. same_face_is _ _ (at_face _ h.1 f);
    }

-- the same where the code has worked out the two faces
pub by_next : (r : Rotation) (a : Axis) (p : Power) (top front : Face) (n : Rotation) → top ≡ face_before r (face_before_power a p U)
    → front ≡ face_before r (face_before_power a p F) → n ≡ rotation_by top front → IsNext r a p n
unfolding next_rotation
by_next r a p top front n t f e = rw (e, t, f) (is_next r a p)

-- these six faces are brought to the places of U, D, R, L, F and B
pub faces_so_far : (r : Rotation) (a : Axis) (p : Power) (x1 x2 x3 x4 x5 x6 : Face) (n : Rotation) → IsNext r a p n → x1 ≡ face_before r (face_before_power a p U)
    → x2 ≡ face_before r (face_before_power a p D) → x3 ≡ face_before r (face_before_power a p R) → x4 ≡ face_before r (face_before_power a p L)
    → x5 ≡ face_before r (face_before_power a p F) → x6 ≡ face_before r (face_before_power a p B)
    → (x1 ∷ x2 ∷ x3 ∷ x4 ∷ x5 ∷ x6 ∷ []) ≡ map (face_before n) face_order
faces_so_far r a p x1 x2 x3 x4 x5 x6 n h e1 e2 e3 e4 e5 e6 =
    λ i. (e1 ∙ sym (h.faces U)) i ∷ (e2 ∙ sym (h.faces D)) i ∷ (e3 ∙ sym (h.faces R)) i ∷ (e4 ∙ sym (h.faces L)) i ∷ (e5 ∙ sym (h.faces F)) i ∷ (e6 ∙ sym (h.faces B)) i ∷ []

-- A rotation and then a turn is the renamed turn and then the rotation.

-- the renamed move turns the layers that come to where the move turns some, as that turns them
abbrev Conjugates : (Vector → Vector) → Move → Move → Vector → Bool
Conjugates g m n v =
    beq (m.turns (along m.axis (g v))) (n.turns (along n.axis v)) && same_vector (quarters m.axis m.quarters (g v)) (g (quarters n.axis n.quarters v))

conjugated : (g : Vector → Vector) (m n : Move) → every_vector (Conjugates g m n) ≡ true → (q : Place) → moved m (on_place g q) ≡ on_place g (moved n q)
conjugated g m n e q = by_case (m.turns (along m.axis (g q.cell))) (n.turns (along n.axis q.cell)) (at q.cell).0
  where
    at : (v : Vector) → (beq (m.turns (along m.axis (g v))) (n.turns (along n.axis v)) ≡ true) × (same_vector (quarters m.axis m.quarters (g v)) (g (quarters n.axis n.quarters v)) ≡ true)
    at v = and_parts (beq (m.turns (along m.axis (g v))) (n.turns (along n.axis v))) _ (at_vector _ e v)

    turned_so : (v : Vector) → quarters m.axis m.quarters (g v) ≡ g (quarters n.axis n.quarters v)
    turned_so v = same_vector_is _ _ (at v).1

    by_case : (b c : Bool) → beq b c ≡ true → (if b then on_place (quarters m.axis m.quarters) (on_place g q) else on_place g q) ≡ on_place g (if c then on_place (quarters n.axis n.quarters) q else q)
    by_case true true h = λ i. record { cell = turned_so q.cell i; direction = turned_so q.direction i }
    by_case false false h = refl
    by_case _ _ h = absurd (cc)

abbrev move_of_turn : Turn → Move
move_of_turn t = face_move t.face (times t.power)

renames_test : every_rotation (λ r. every_turn (λ t. every_vector (Conjugates (rotated_vector r) (move_of_turn t) (move_of_turn (renamed_turn (face_before r) t))))) ≡ true
unfolding every_vector every_coord every_power every_face every_rotation every_turn
renames_test = refl

pub turn_after : (r : Rotation) (t : Turn) (q : Place) → turned t (effect (spelling r) q) ≡ effect (spelling r) (turned (renamed_turn (face_before r) t) q)
turn_after r t q =
    rw (effect_of_rotation r.top r.vertical q, effect_of_rotation r.top r.vertical (turned (renamed_turn (face_before r) t) q)) (conjugated (rotated_vector r) (move_of_turn t) (move_of_turn (renamed_turn (face_before r) t)) (at_turn _ (at_rotation _ renames_test r) t) q)

pub renames_power : (a : Axis) (p : Power) (t : Turn) (q : Place) → turned t (moved_by (Token.Rotation a p) q) ≡ moved_by (Token.Rotation a p) (turned (renamed_turn (face_before_power a p) t) q)
renames_power a p t q =
    let n = is_next (rotation U None) a p in
    ap (turned t) (sym (n.effect q)) ∙ turn_after (next_rotation (rotation U None) a p) t q ∙ n.effect (turned (renamed_turn (face_before (next_rotation (rotation U None) a p)) t) q)
    ∙ ap (λ (f : Face). moved_by (Token.Rotation a p) (turned (turn f t.power) q)) (n.faces t.face)

pub effect_of_turns-append : (s t : List Turn) (q : Place) → effect_of_turns (s ++ t) q ≡ effect_of_turns t (effect_of_turns s q)
effect_of_turns-append [] t q = refl
effect_of_turns-append (x ∷ s) t q = effect_of_turns-append s t (turned x q)

-- Each rotation has one spelling.
left_by_spelling : (f : Face) (o : Option Power) → rotation_left (spelling (rotation f o)) ≡ rotation f o
unfolding rotation_left
left_by_spelling U None = refl
left_by_spelling _ (Some Quarter) = refl
left_by_spelling _ _ = refl

-- The rotation that is found among the 24 is the one that moves the centres as the sequence does.
pub rotation_left_is : (s : List Token) (r : Rotation) → IsRotationOf s r → rotation_left s ≡ r
unfolding rotation_left
rotation_left_is s r h =
    (λ i. unwrap_or (find (λ n. list_all (λ f. same_place (effect (spelling n) (centre f)) (sym (h f) i)) face_order) rotations) (rotation U None)) ∙ left_by_spelling r.top r.vertical

pub one_spelling : (r s : Rotation) → ((f : Face) → effect (spelling r) (centre f) ≡ effect (spelling s) (centre f)) → r ≡ s
one_spelling r s h = sym (rotation_left_is (spelling s) r h) ∙ rotation_left_is (spelling s) s (λ f. refl)
