-- Truth values, and facts over finite types by a test that is computed over all values.
use Rattle.niss_moves.proofs.Names.{◌||◌, not}
use Rattle.niss_moves.proofs.Names.{◌≢◌, ◌↔◌, refl, ap, sym, subst, arith, inl, inr, ◌≡◌, ◌∙◌, ◌<◌, ◌==◌, ℕ, zero, suc, nat_lt, length}
use Rattle.niss_moves.proofs.Names.{get_or, true, List, [], ◌∷◌, Some, Bool, cond, map, false, ◌&&◌, Option, None, if◌then◌else◌, eqb}
use Rattle.niss_moves.proofs.Names.{face_order, places, letter_at, Turn, Face, Power, Token, Rotation, U, Quarter, Axis, Ud, Rl, Fb, Slice}
use Rattle.niss_moves.proofs.Names.{M, E, S, Place, same_face, powers, face_index, power_index, axis_index, layer_index, and_parts}
use Rattle.niss_moves.proofs.Names.{eqb-true, ltb-true, AllPass-from_list_all, list_any, list_all, pointwise, bytes_decides}
use Rattle.niss_moves.specs.Places.{IsPlace, Coord, Neg, Zero, Pos, Vector, vector, same_coord, same_vector, same_place, is_place, SameMap}
use denote.Enum.Bare.{sameb}
use Rattle.std.proofs.lemmas.Bool.Decides.{eqb_tells, same_from_decides}
use Rattle.std.proofs.lemmas.List.Elements.{All-contains}
use Rattle.std.proofs.lemmas.Map.Made.{IsDistinct-from_count, AllPairs-from_IsDistinct}
use Rattle.std.proofs.lemmas.Map.Views.{Contains-from_any}
use Rattle.std.specs.Cmp.{IsEquivalence, booleans_Decides}
use mathlib.Core.Bool.{beq}
unfoldable use Rattle.niss_moves.specs.Facelets.{letter_of, letters}
use Rattle.niss_moves.specs.contracts.turn.Face.{the_type}
use Rattle.std.specs.Prelude.{Contains, AllPairs, find}
pub use Rattle.std.proofs.lemmas.Bool.{not-true as not_true, and_from as and_both}

pub and_left : (a b : Bool) → (a && b) ≡ true → a ≡ true
and_left a b e = (and_parts a b e).0

pub and_right : (a b : Bool) → (a && b) ≡ true → b ≡ true
and_right a b e = (and_parts a b e).1

unfoldable pub every_coord : (Coord → Bool) → Bool
every_coord p = p Neg && (p Zero && p Pos)

pub at_coord : (p : Coord → Bool) → every_coord p ≡ true → (c : Coord) → p c ≡ true
unfolding every_coord
at_coord p e Neg = and_left _ _ e
at_coord p e Zero = and_left _ _ (and_right (p Neg) _ e)
at_coord p e Pos = and_right (p Zero) _ (and_right (p Neg) _ e)

unfoldable pub every_face : (Face → Bool) → Bool
every_face p = list_all p face_order

pub at_face : (p : Face → Bool) → every_face p ≡ true → (f : Face) → p f ≡ true
unfolding every_face
at_face p e U = and_left _ _ e
at_face p e f = AllPass-from_list_all p face_order e (face_index f) U (omega arith)

unfoldable pub every_power : (Power → Bool) → Bool
every_power p = list_all p powers

pub at_power : (p : Power → Bool) → every_power p ≡ true → (n : Power) → p n ≡ true
unfolding every_power
at_power p e Quarter = and_left _ _ e
at_power p e n = AllPass-from_list_all p powers e (power_index n) Quarter (omega arith)

unfoldable pub every_axis : (Axis → Bool) → Bool
every_axis p = list_all p (Ud ∷ Rl ∷ Fb ∷ [])

pub at_axis : (p : Axis → Bool) → every_axis p ≡ true → (a : Axis) → p a ≡ true
unfolding every_axis
at_axis p e Ud = and_left _ _ e
at_axis p e a = AllPass-from_list_all p (Ud ∷ Rl ∷ Fb ∷ []) e (axis_index a) Ud (omega arith)

unfoldable pub every_slice : (Slice → Bool) → Bool
every_slice p = list_all p (M ∷ E ∷ S ∷ [])

pub at_slice : (p : Slice → Bool) → every_slice p ≡ true → (l : Slice) → p l ≡ true
unfolding every_slice
at_slice p e M = and_left _ _ e
at_slice p e l = AllPass-from_list_all p (M ∷ E ∷ S ∷ []) e (layer_index l) M (omega arith)

unfoldable pub every_vector : (Vector → Bool) → Bool
every_vector p = every_coord (λ x. every_coord (λ y. every_coord (λ z. p (vector x y z))))

pub at_vector : (p : Vector → Bool) → every_vector p ≡ true → (v : Vector) → p v ≡ true
unfolding every_vector
at_vector p e v = at_coord _ (at_coord _ (at_coord _ e v.x) v.y) v.z

unfoldable pub every_place : (Place → Bool) → Bool
every_place p = every_vector (λ c. every_vector (λ n. p (record { cell = c; direction = n })))

pub at_place : (p : Place → Bool) → every_place p ≡ true → (q : Place) → p q ≡ true
unfolding every_place
at_place p e q = at_vector _ (at_vector _ e q.cell) q.direction

unfoldable pub every_token : (Token → Bool) → Bool
every_token p =
    every_power (λ n. every_face (λ f. p (Token.Face (record { face = f; power = n })) && p (Token.Wide f n)) && (every_slice (λ l. p (Token.Slice l n)) && every_axis (λ a. p (Token.Rotation a n))))

pub at_token : (p : Token → Bool) → every_token p ≡ true → (t : Token) → p t ≡ true
unfolding every_token
at_token p e (Token.Face t) = (and_parts _ _ (at_face _ (and_parts _ _ (at_power _ e t.power)).0 t.face)).0
at_token p e (Token.Wide f n) = (and_parts _ _ (at_face _ (and_parts _ _ (at_power _ e n)).0 f)).1
at_token p e (Token.Slice l n) = at_slice _ (and_parts _ _ (and_parts _ _ (at_power _ e n)).1).0 l
at_token p e (Token.Rotation a n) = at_axis _ (and_parts _ _ (and_parts _ _ (at_power _ e n)).1).1 a

abbrev pub turn : Face → Power → Turn
turn f p = record { face = f; power = p }

unfoldable pub every_turn : (Turn → Bool) → Bool
every_turn p = every_face (λ f. every_power (λ n. p (turn f n)))

pub at_turn : (p : Turn → Bool) → every_turn p ≡ true → (t : Turn) → p t ≡ true
unfolding every_turn
at_turn p e t = at_power _ (at_face _ e t.face) t.power

abbrev pub rotation : Face → Option Power → Rotation
rotation f o = record { top = f; vertical = o }

unfoldable pub every_rotation : (Rotation → Bool) → Bool
every_rotation p = every_face (λ f. p (rotation f None) && every_power (λ n. p (rotation f (Some n))))

pub at_rotation : (p : Rotation → Bool) → every_rotation p ≡ true → (r : Rotation) → p r ≡ true
unfolding every_rotation
at_rotation p e r =
    let h = and_parts _ _ (at_face _ e r.top) in
    elim r.vertical as (λ o. p (rotation r.top o) ≡ true) [ None ↦ h.0 | Some n ↦ at_power _ h.1 n ]

-- equal by the test, and the other way round
pub same_face_is : (a b : Face) → same_face a b ≡ true → a ≡ b
same_face_is U U e = refl
same_face_is _ U e = cc
same_face_is _ _ e = cc

-- by the test of the code
pub same_faces : (f g : Face) → sameb the_type f g ≡ same_face f g
same_faces U U = refl
same_faces _ U = refl
same_faces _ _ = refl

abbrev pub same_power : Power → Power → Bool
same_power p q = eqb (power_index p) (power_index q)

pub same_power_is : (a b : Power) → same_power a b ≡ true → a ≡ b
same_power_is Quarter Quarter e = refl
same_power_is _ Quarter e = cc
same_power_is _ _ e = cc

pub same_coord_is : (a b : Coord) → same_coord a b ≡ true → a ≡ b
same_coord_is Neg Neg e = refl
same_coord_is _ Neg e = cc
same_coord_is _ _ e = cc

pub same_vector_is : (v w : Vector) → same_vector v w ≡ true → v ≡ w
same_vector_is v w e =
    let xy = and_parts (same_coord v.x w.x) (same_coord v.y w.y) (and_left _ _ e) in
    let z = and_right (same_coord v.x w.x && same_coord v.y w.y) (same_coord v.z w.z) e in
    λ i. record { x = same_coord_is v.x w.x xy.0 i; y = same_coord_is v.y w.y xy.1 i; z = same_coord_is v.z w.z z i }

pub same_place_is : (q r : Place) → same_place q r ≡ true → q ≡ r
same_place_is q r e =
    let both = and_parts (same_vector q.cell r.cell) (same_vector q.direction r.direction) e in
    λ i. record { cell = same_vector_is q.cell r.cell both.0 i; direction = same_vector_is q.direction r.direction both.1 i }

pub same_place_self : (q : Place) → same_place q q ≡ true
unfolding every_place every_vector every_coord
same_place_self q = at_place (λ q. same_place q q) refl q

pub same_place_of : (q r : Place) → q ≡ r → same_place q r ≡ true
same_place_of q r e = subst (λ (r : Place). same_place q r ≡ true) e (same_place_self q)

or_then : (a b : Bool) → (not a || b) ≡ true → a ≡ true → b ≡ true
or_then true b e h = e
or_then false b e h = cc

-- The list of the sticker places, computed, and the facelet texts of maps on it.

listed_test : every_place (λ q. not (is_place q) || list_any (same_place q) places) ≡ true
unfolding every_place every_vector every_coord
listed_test = refl

pub all_places : list_all is_place places ≡ true
all_places = refl

-- a test that passes for each element of a list
pub at_member : {A : Type 0} (p : A → Bool) (xs : List A) (x : A) → list_all p xs ≡ true → Contains xs x → p x ≡ true
at_member p xs x e m = All-contains (λ x. p x ≡ true) xs x (AllPass-from_list_all p xs e) m

pub places_are_listed : (q : Place) → IsPlace q ↔ Contains places q
places_are_listed q = (
  (λ h. Contains-from_any same_place_is q places (or_then _ _ (at_place _ listed_test q) h)),
  (λ h. at_member is_place places q all_places h),
)

-- none stands twice

same_place_laws : IsEquivalence same_place
same_place_laws =
    record {
      refl = same_place_self;
      symm = λ x y. same_from_decides _ _ (same_place_is x y, same_place_of x y) (λ e. sym (same_place_is y x e), λ e. same_place_of y x (sym e));
      congr = λ x y z e. ap (λ w. same_place w z) (same_place_is x y e);
    }

pub places_differ : AllPairs (λ p q. p ≢ q) places
places_differ =
    AllPairs-from_IsDistinct (λ x y. (same_place_is x y, same_place_of x y)) places (IsDistinct-from_count same_place_laws places refl)

-- Maps that are the same on the 54 places have the same facelet text.
letter_of-same : (d e : Place → Place) → SameMap d e → (q : Place) (ps : List Place) → list_all is_place ps ≡ true → letter_of d ps q ≡ letter_of e ps q
unfolding letter_of
letter_of-same d e s q [] all = refl
letter_of-same d e s q (p ∷ ps) all =
    let at : d p ≡ e p = s p (and_left (is_place p) _ all) in
    let rest : letter_of d ps q ≡ letter_of e ps q = letter_of-same d e s q ps (and_right (is_place p) _ all) in
    λ i. if same_place (at i) q then letter_at p else rest i

pub same_letters : (d e : Place → Place) → SameMap d e → letters d ≡ letters e
unfolding letters
same_letters d e s = λ i. map (λ q. letter_of-same d e s q places all_places i) places

-- A fact that computation decides: if its test passes, it holds.

pub data Fact : Type 0 where
  Yes : Bool → Fact
  Same : Bool → Bool → Fact
  Equal : ℕ → ℕ → Fact
  Below : ℕ → ℕ → Fact
  Alike : Place → Place → Fact
  Both : Fact → Fact → Fact
  When : Bool → Fact → Fact
  Numbers : ℕ → (ℕ → Fact) → Fact
  Places : (Place → Fact) → Fact
  Text : List ℕ → List ℕ → Fact
  Anywhere : (Place → Fact) → Fact
  Faces : (Face → Fact) → Fact
  Powers : (Power → Fact) → Fact
  Rotations : (Rotation → Fact) → Fact
  Turns : (Turn → Fact) → Fact
  Among : List Turn → (Turn → Fact) → Fact
  Tokens : (Token → Fact) → Fact
  Digits : ℕ → ℕ → (List ℕ → Fact) → Fact
  Truths : ℕ → (List Bool → Fact) → Fact

abbrev pub Holds : Fact → Type 0
Holds (Yes b) = b ≡ true
Holds (Same a b) = a ≡ b
Holds (Equal m n) = m ≡ n
Holds (Below m n) = m < n
Holds (Alike p q) = p ≡ q
Holds (Both f g) = Holds f × Holds g
Holds (When b f) = b ≡ true → Holds f
Holds (Numbers n f) = (k : ℕ) → k < n → Holds (f k)
Holds (Places f) = (q : Place) → is_place q ≡ true → Holds (f q)
Holds (Text xs ys) = xs ≡ ys
Holds (Anywhere f) = (q : Place) → Holds (f q)
Holds (Faces f) = (face : Face) → Holds (f face)
Holds (Powers f) = (p : Power) → Holds (f p)
Holds (Rotations f) = (r : Rotation) → Holds (f r)
Holds (Turns f) = (t : Turn) → Holds (f t)
Holds (Among ts f) = (t : Turn) → Contains ts t → Holds (f t)
Holds (Tokens f) = (m : Token) → Holds (f m)
Holds (Digits b n f) = (ds : List ℕ) → length ds ≡ n → ((i : ℕ) → i < n → get_or ds i 0 < b) → Holds (f ds)
Holds (Truths n f) = (bs : List Bool) → length bs ≡ n → Holds (f bs)

abbrev every_below : ℕ → (ℕ → Bool) → Bool
every_below zero p = true
every_below (suc n) p = every_below n p && p n

-- each list of n digits in base b, and of n truth values
abbrev every_digits : ℕ → ℕ → (List ℕ → Bool) → Bool
every_digits b zero p = p []
every_digits b (suc n) p = every_below b (λ d. every_digits b n (λ ds. p (d ∷ ds)))

abbrev every_truths : ℕ → (List Bool → Bool) → Bool
every_truths zero p = p []
every_truths (suc n) p = every_truths n (λ bs. p (true ∷ bs)) && every_truths n (λ bs. p (false ∷ bs))

abbrev pub tested : Fact → Bool
tested (Yes b) = b
tested (Same a b) = beq a b
tested (Equal m n) = m == n
tested (Below m n) = nat_lt m n
tested (Alike p q) = same_place p q
tested (Both f g) = tested f && tested g
tested (When b f) = not b || tested f
tested (Numbers n f) = every_below n (λ k. tested (f k))
tested (Places f) = list_all (λ q. tested (f q)) places
tested (Text xs ys) = pointwise eqb xs ys
tested (Anywhere f) = every_place (λ q. tested (f q))
tested (Faces f) = every_face (λ face. tested (f face))
tested (Powers f) = every_power (λ p. tested (f p))
tested (Rotations f) = every_rotation (λ r. tested (f r))
tested (Turns f) = every_turn (λ t. tested (f t))
tested (Among ts f) = list_all (λ t. tested (f t)) ts
tested (Tokens f) = every_token (λ m. tested (f m))
tested (Digits b n f) = every_digits b n (λ ds. tested (f ds))
tested (Truths n f) = every_truths n (λ bs. tested (f bs))

at_below : (n : ℕ) (p : ℕ → Bool) → every_below n p ≡ true → (k : ℕ) → k < n → p k ≡ true
at_below zero p e k l = absurd (omega arith)
at_below (suc n) p e k l = elim (eqb_tells k n) [
  | inl w ↦ ap p w.1 ∙ and_right (every_below n p) (p n) e
  | inr w ↦ at_below n p (and_left _ _ e) k (grind (arith, w.1))
]

at_digits : (b : ℕ) (ds : List ℕ) (p : List ℕ → Bool) → every_digits b (length ds) p ≡ true →
    ((i : ℕ) → i < length ds → get_or ds i 0 < b) → p ds ≡ true
at_digits b [] p e r = e
at_digits b (d ∷ ds) p e r =
    let first = at_below b (λ d. every_digits b (length ds) (λ ds. p (d ∷ ds))) e d (r 0 (omega arith)) in
    at_digits b ds (λ ds. p (d ∷ ds)) first (λ i l. r (suc i) (omega arith))

at_truths : (bs : List Bool) (p : List Bool → Bool) → every_truths (length bs) p ≡ true → p bs ≡ true
at_truths [] p e = e
at_truths (true ∷ bs) p e = at_truths bs (λ bs. p (true ∷ bs)) (and_left _ _ e)
at_truths (false ∷ bs) p e = at_truths bs (λ bs. p (false ∷ bs)) (and_right (every_truths (length bs) (λ bs. p (true ∷ bs))) _ e)

pub holds : (f : Fact) → tested f ≡ true → Holds f
holds (Yes b) e = e
holds (Same a b) e = (booleans_Decides a b).0 e
holds (Equal m n) e = eqb-true m n e
holds (Below m n) e = ltb-true m n e
holds (Alike p q) e = same_place_is p q e
holds (Both f g) e = (holds f (and_left _ _ e), holds g (and_right (tested f) _ e))
holds (When b f) e = λ h. holds f (or_then b _ e h)
holds (Numbers n f) e = λ k l. holds (f k) (at_below n (λ k. tested (f k)) e k l)
holds (Places f) e = λ q h. holds (f q) (at_member (λ q. tested (f q)) places q e ((places_are_listed q).0 h))
holds (Text xs ys) e = (bytes_decides xs ys).0 e
holds (Anywhere f) e = λ q. holds (f q) (at_place (λ q. tested (f q)) e q)
holds (Faces f) e = λ face. holds (f face) (at_face (λ face. tested (f face)) e face)
holds (Powers f) e = λ p. holds (f p) (at_power (λ p. tested (f p)) e p)
holds (Rotations f) e = λ r. holds (f r) (at_rotation (λ r. tested (f r)) e r)
holds (Turns f) e = λ t. holds (f t) (at_turn (λ t. tested (f t)) e t)
holds (Among ts f) e = λ t m. holds (f t) (at_member (λ t. tested (f t)) ts t e m)
holds (Tokens f) e = λ m. holds (f m) (at_token (λ m. tested (f m)) e m)
holds (Digits b n f) e = λ ds l r.
    let all = ap (λ n. every_digits b n (λ ds. tested (f ds))) l ∙ e in
    holds (f ds) (at_digits b ds (λ ds. tested (f ds)) all (λ i li. r i (omega (arith, l, li))))
holds (Truths n f) e = λ bs l. holds (f bs) (at_truths bs (λ bs. tested (f bs)) (ap (λ n. every_truths n (λ bs. tested (f bs))) l ∙ e))

-- What is found passes the test.
pub find_passes : {X : Type 0} (p : X → Bool) (xs : List X) (x : X) → find p xs ≡ Some x → p x ≡ true
find_passes p [] x e = cc
find_passes {X = X} p (y ∷ xs) x e = by_test (p y) refl e (find_passes p xs x)
  where
    by_test : (b : Bool) → p y ≡ b → cond b (Some y) (find p xs) ≡ Some x → (find p xs ≡ Some x → p x ≡ true) → p x ≡ true
    by_test true q e r = let same : y ≡ x = cc in subst (λ (z : X). p z ≡ true) same q
    by_test false q e r = r e
