-- At a place of a text no face stands if none may begin there.
use Rattle.std.proofs.Common.{◌≡◌, ℕ, zero, suc, Bool, false, List, [], ◌∷◌, drop, refl, ap, arith, ◌+◌}
use Rattle.std.specs.Prelude.{◌||◌, slice_get, slice_index}
use Rattle.std.proofs.lemmas.Bool.{and_left, and_right, or_parts}
use Rattle.niss_moves.specs.declared.turn.Face.{Face}
use Rattle.niss_moves.specs.declared.turn.Face.TheVariants.{U, D, R, L, F, B}
use Rattle.niss_text.specs.declared.text_line.TextLine.{TextLine}
use Rattle.niss_attempts.specs.ShownTurn.{is_apart, is_face_letter, is_letter_of, step_at, step_above}
unfoldable use Rattle.niss_attempts.specs.ShownTurn.{stands_at}

-- whether the letter of one of the faces stands there
abbrev one_of : (Face → Bool) → Bool
one_of is = is U || (is D || (is R || (is L || (is F || is B))))

none_is : (is : Face → Bool) → one_of is ≡ false → (face : Face) → is face ≡ false
none_is is none face = by_face face
  where
    u : (is U ≡ false) × ((is D || (is R || (is L || (is F || is B)))) ≡ false)
    u = or_parts (is U) (is D || (is R || (is L || (is F || is B)))) none

    d : (is D ≡ false) × ((is R || (is L || (is F || is B))) ≡ false)
    d = or_parts (is D) (is R || (is L || (is F || is B))) u.1

    r : (is R ≡ false) × ((is L || (is F || is B)) ≡ false)
    r = or_parts (is R) (is L || (is F || is B)) d.1

    l : (is L ≡ false) × ((is F || is B) ≡ false)
    l = or_parts (is L) (is F || is B) r.1

    f : (is F ≡ false) × (is B ≡ false)
    f = or_parts (is F) (is B) l.1

    by_face : (face : Face) → is face ≡ false
    by_face U = u.0
    by_face D = d.0
    by_face R = r.0
    by_face L = l.0
    by_face F = f.0
    by_face B = f.1

pub none_lettered : (text : List ℕ) (at : ℕ) → is_face_letter (slice_index text at) ≡ false → (face : Face) → stands_at text face at ≡ false
unfolding stands_at
none_lettered text at none face =
    and_left (is_letter_of face (slice_index text at)) (is_apart text at) (none_is (λ f. is_letter_of f (slice_index text at)) none face)

pub none_apart : (text : List ℕ) (at : ℕ) → is_apart text at ≡ false → (face : Face) → stands_at text face at ≡ false
unfolding stands_at
none_apart text at none face = and_right (is_letter_of face (slice_index text at)) (is_apart text at) none

-- the first of what is left after some
pub first_dropped : {X : Type 0} (xs : List X) (k : ℕ) → slice_get (drop k xs) 0 ≡ slice_get xs k
first_dropped [] zero = refl
first_dropped [] (suc k) = refl
first_dropped (x ∷ xs) zero = refl
first_dropped (x ∷ xs) (suc k) = first_dropped xs k

-- the step after which the next one stands
pub above_next : (lines : List TextLine) (k : ℕ) → step_above lines (k + 1) ≡ step_at lines k
above_next lines k =
    let one : k + 1 ≡ suc k = omega arith in
    ap (step_above lines) one
