-- Where moves bring corners: by one move, by moves in a row, by a rotation; and lines of which it is known.
use Rattle.std.proofs.Common.{◌≡◌, ◌∙◌, ℕ, zero, suc, ◌+◌, ◌*◌, ◌%◌, ◌<◌, ◌==◌, true, List, [], ◌∷◌, ◌++◌, length, get_or, refl, sym, ap, subst, arith, append_assoc}
use Rattle.std.specs.Prelude.{slice_index, bit_xor, Option, None, Some, take}
use Rattle.std.proofs.lemmas.Grind.{take_at_read}
use Rattle.niss_moves.specs.Effects.{effect, moved_by, inverse, inverse_token}
use Rattle.niss_moves.specs.Places.{Coord, Neg, Zero, Pos, Place, SameMap, is_place, is_corner}
use Rattle.niss_moves.specs.Facelets.{facelet}
use Rattle.niss_moves.specs.Rotations.{spelling}
use Rattle.niss_moves.specs.Solving.{IsRotated}
use Rattle.niss_moves.specs.declared.token.Token.{Token}
use Rattle.niss_moves.specs.declared.rotation.Rotation.{Rotation}
use Rattle.niss_moves.specs.declared.turn.Face.{Face}
use Rattle.niss_moves.specs.declared.turn.Face.TheVariants.{U, D}
use Rattle.niss_moves.specs.declared.turn.Power.{Power}
use Rattle.niss_moves.specs.declared.turn.Power.TheVariants.{Quarter, Half, Counter}
use Rattle.niss_moves.proofs.CallerLemmas.{Fact, Yes, Equal, Both, When, Numbers, Places, Faces, Tokens, Holds, holds, and_left, effect-append, inverse-append}
unfoldable use Rattle.niss_moves.proofs.CallerLemmas.{every_face, every_power, every_axis, every_slice, every_token}
use Rattle.niss_attempts.specs.declared.steps.cube_corners.Corners.{Corners}
use Rattle.niss_attempts.specs.Corners.{Brings, side, home, corners_after, is_one_bit}
unfoldable use Rattle.niss_attempts.specs.Corners.{corner_of}

pub corner_is_place : (q : Place) → is_corner q ≡ true → is_place q ≡ true
corner_is_place q h = and_left _ _ (and_left _ _ (and_left _ _ h))

move_fact : (t : Token) (q : Place) → is_place q ≡ true → is_corner q ≡ true →
    (is_corner (moved_by t q) ≡ true) × (corner_of (moved_by t q) ≡ slice_index (corners_after t).to (corner_of q))
unfolding every_token every_power every_face every_slice every_axis corner_of
move_fact =
    holds (Tokens λ t. Places λ q. When (is_corner q)
    (Both (Yes (is_corner (moved_by t q))) (Equal (corner_of (moved_by t q)) (slice_index (corners_after t).to (corner_of q))))) refl

pub by_move : (t : Token) → Brings (corners_after t).to (t ∷ [])
by_move t = record {
  stays = λ q h. (move_fact t q (corner_is_place q h) h).0;
  there = λ q h. (move_fact t q (corner_is_place q h) h).1;
}

below_eight : (q : Place) → corner_of q < 8
unfolding corner_of
below_eight q = bounds q.cell.x q.cell.y q.cell.z
  where
    small : (c : Coord) → side c < 2
    small Neg = omega arith
    small Zero = omega arith
    small Pos = omega arith

    bounds : (x y z : Coord) → side x + 2 * side y + 4 * side z < 8
    bounds x y z = omega (arith, small x, small y, small z)

pub by_nothing : Brings home []
by_nothing = record { stays = λ q h. h; there = λ q h. same (corner_of q) (below_eight q) }
  where
    same : (n : ℕ) → n < 8 → n ≡ slice_index home n
    same n l = sym (holds (Numbers 8 λ k. Equal (slice_index home k) k) refl n l)

-- these moves and then others
pub by_both : (to next both : List ℕ) (s t : List Token) → ((k : ℕ) → k < 8 → slice_index both k ≡ slice_index next (slice_index to k % 8)) →
    Brings to s → Brings next t → Brings both (s ++ t)
by_both to next both s t is a b = record { stays = λ q h. stays q h; there = λ q h. there q h }
  where
    stays : (q : Place) → is_corner q ≡ true → is_corner (effect (s ++ t) q) ≡ true
    stays q h = ap is_corner (effect-append s t q) ∙ b.stays (effect s q) (a.stays q h)

    below : (n m : ℕ) → m < 8 → m ≡ n → n % 8 ≡ m
    below n m l e = omega (arith, l, e)

    there : (q : Place) → is_corner q ≡ true → corner_of (effect (s ++ t) q) ≡ slice_index both (corner_of q)
    there q h =
        let n : ℕ = slice_index to (corner_of q) in
        let m : ℕ = corner_of (effect s q) in
        ap corner_of (effect-append s t q) ∙ b.there (effect s q) (a.stays q h)
        ∙ ap (slice_index next) (sym (below n m (below_eight (effect s q)) (a.there q h)))
        ∙ sym (is (corner_of q) (below_eight q))

-- One more move after moves, and its inverse before theirs.
pub by_more : (to both : List ℕ) (next : Corners) (xs : List Token) (i : ℕ) (d : Token) → i < length xs → next ≡ corners_after (get_or xs i d) →
    ((s u : List Token) → Brings to s → Brings next.to u → Brings both (s ++ u)) → Brings to (take i xs) → Brings both (take (i + 1) xs)
by_more to both next xs i d l is then b =
    let one : Brings next.to (get_or xs i d ∷ []) = subst (λ (c : Corners). Brings c.to (get_or xs i d ∷ [])) (sym is) (by_move (get_or xs i d)) in
    subst (λ (s : List Token). Brings both s) (sym (take_at_read xs i d l).1) (then (take i xs) (get_or xs i d ∷ []) b one)

pub inverse_by_more : (to both : List ℕ) (next : Corners) (xs : List Token) (i : ℕ) (d : Token) → i < length xs → next ≡ corners_after (inverse_token (get_or xs i d)) →
    ((s u : List Token) → Brings next.to s → Brings to u → Brings both (s ++ u)) → Brings to (inverse (take i xs)) → Brings both (inverse (take (i + 1) xs))
inverse_by_more to both next xs i d l is then b =
    let t : Token = inverse_token (get_or xs i d) in
    let one : Brings next.to (t ∷ []) = subst (λ (c : Corners). Brings c.to (t ∷ [])) (sym is) (by_move t) in
    subst (λ (s : List Token). Brings both s) (sym (ap inverse (take_at_read xs i d l).1 ∙ inverse-append (take i xs) (get_or xs i d ∷ [])))
    (then (t ∷ []) (inverse (take i xs)) one b)

-- A rotation of the whole cube brings opposite corners to opposite places.
abbrev apart : List Token → Place → Place → ℕ
apart s p q = bit_xor (corner_of (effect s p)) (corner_of (effect s q))

abbrev opposites_fact : List Token → Fact
opposites_fact s =
    Both (Equal (apart s (facelet D 7) (facelet U 9)) 7) (Both (Equal (apart s (facelet D 9) (facelet U 7)) 7)
    (Both (Equal (apart s (facelet U 1) (facelet D 3)) 7) (Equal (apart s (facelet U 3) (facelet D 1)) 7)))

abbrev rotated : Face → Option Power → List Token
rotated f o = spelling (record { top = f; vertical = o })

opposites : (f : Face) (o : Option Power) → Holds (opposites_fact (rotated f o))
unfolding every_face corner_of
opposites f None = holds (Faces λ f. opposites_fact (rotated f None)) refl f
opposites f (Some Quarter) = holds (Faces λ f. opposites_fact (rotated f (Some Quarter))) refl f
opposites f (Some Half) = holds (Faces λ f. opposites_fact (rotated f (Some Half))) refl f
opposites f (Some Counter) = holds (Faces λ f. opposites_fact (rotated f (Some Counter))) refl f

-- It brings the neighbours of one beside it.
abbrev neighbours_fact : List Token → Fact
neighbours_fact s =
    Both (Yes (is_one_bit (apart s (facelet D 7) (facelet D 9)))) (Both (Yes (is_one_bit (apart s (facelet D 7) (facelet U 1))))
    (Yes (is_one_bit (apart s (facelet D 7) (facelet D 1)))))

neighbours : (f : Face) (o : Option Power) → Holds (neighbours_fact (rotated f o))
unfolding every_face corner_of
neighbours f None = holds (Faces λ f. neighbours_fact (rotated f None)) refl f
neighbours f (Some Quarter) = holds (Faces λ f. neighbours_fact (rotated f (Some Quarter))) refl f
neighbours f (Some Half) = holds (Faces λ f. neighbours_fact (rotated f (Some Half))) refl f
neighbours f (Some Counter) = holds (Faces λ f. neighbours_fact (rotated f (Some Counter))) refl f

-- So do moves that have the effect of one.
pair_apart : (to : List ℕ) (s : List Token) (r : Rotation) (p q : Place) → Brings to s → SameMap (effect s) (effect (spelling r)) → is_corner p ≡ true →
    is_corner q ≡ true → bit_xor (slice_index to (corner_of p)) (slice_index to (corner_of q)) ≡ apart (spelling r) p q
pair_apart to s r p q b same hp hq =
    let at_p : slice_index to (corner_of p) ≡ corner_of (effect (spelling r) p) = sym (b.there p hp) ∙ ap corner_of (same p (corner_is_place p hp)) in
    let at_q : slice_index to (corner_of q) ≡ corner_of (effect (spelling r) q) = sym (b.there q hq) ∙ ap corner_of (same q (corner_is_place q hq)) in
    λ i. bit_xor (at_p i) (at_q i)

abbrev pub AreApart : List ℕ → ℕ → ℕ → Type 0
AreApart to j k = bit_xor (slice_index to j) (slice_index to k) ≡ 7

pub opposites_stay : (to : List ℕ) (s : List Token) → Brings to s → IsRotated s → AreApart to 0 7 × AreApart to 1 6 × AreApart to 2 5 × AreApart to 3 4
unfolding corner_of
opposites_stay to s b w =
    let r : Rotation = w.0 in
    let h = opposites r.top r.vertical in (
      pair_apart to s r (facelet D 7) (facelet U 9) b w.1 refl refl ∙ h.0,
      pair_apart to s r (facelet D 9) (facelet U 7) b w.1 refl refl ∙ h.1.0,
      pair_apart to s r (facelet U 1) (facelet D 3) b w.1 refl refl ∙ h.1.1.0,
      pair_apart to s r (facelet U 3) (facelet D 1) b w.1 refl refl ∙ h.1.1.1,
    )

abbrev pub AreBeside : List ℕ → ℕ → ℕ → Type 0
AreBeside to j k = is_one_bit (bit_xor (slice_index to j) (slice_index to k)) ≡ true

pub neighbours_stay : (to : List ℕ) (s : List Token) → Brings to s → IsRotated s → AreBeside to 0 1 × AreBeside to 0 2 × AreBeside to 0 4
unfolding corner_of
neighbours_stay to s b w =
    let r : Rotation = w.0 in
    let h = neighbours r.top r.vertical in (
      ap is_one_bit (pair_apart to s r (facelet D 7) (facelet D 9) b w.1 refl refl) ∙ h.0,
      ap is_one_bit (pair_apart to s r (facelet D 7) (facelet U 1) b w.1 refl refl) ∙ h.1.0,
      ap is_one_bit (pair_apart to s r (facelet D 7) (facelet D 1) b w.1 refl refl) ∙ h.1.1,
    )

-- by moves and then others
abbrev both_to : (to next : List ℕ) → List ℕ
both_to to next =
    slice_index next (slice_index to 0 % 8) ∷ slice_index next (slice_index to 1 % 8) ∷ slice_index next (slice_index to 2 % 8)
    ∷ slice_index next (slice_index to 3 % 8) ∷ slice_index next (slice_index to 4 % 8) ∷ slice_index next (slice_index to 5 % 8)
    ∷ slice_index next (slice_index to 6 % 8) ∷ slice_index next (slice_index to 7 % 8) ∷ []

both_is : (to next : List ℕ) (k : ℕ) → k < 8 → slice_index (both_to to next) k ≡ slice_index next (slice_index to k % 8)
both_is to next zero l = refl
both_is to next (suc zero) l = refl
both_is to next (suc (suc zero)) l = refl
both_is to next (suc (suc (suc zero))) l = refl
both_is to next (suc (suc (suc (suc zero)))) l = refl
both_is to next (suc (suc (suc (suc (suc zero))))) l = refl
both_is to next (suc (suc (suc (suc (suc (suc zero)))))) l = refl
both_is to next (suc (suc (suc (suc (suc (suc (suc zero))))))) l = refl
both_is to next (suc (suc (suc (suc (suc (suc (suc (suc k)))))))) l = absurd (omega (arith, l))

pub two_apart : (to next : List ℕ) (s t : List Token) → Brings to s → Brings next t → IsRotated (s ++ t) →
    bit_xor (slice_index next (slice_index to 0 % 8)) (slice_index next (slice_index to 7 % 8)) ≡ 7
two_apart to next s t a b w = (opposites_stay (both_to to next) (s ++ t) (by_both to next (both_to to next) s t (both_is to next) a b) w).0

-- the same with moves between
pub two_apart_by : (to by next : List ℕ) (s r t : List Token) → Brings to s → Brings by r → Brings next t → IsRotated (s ++ r ++ t) →
    bit_xor (slice_index next (slice_index by (slice_index to 0 % 8) % 8)) (slice_index next (slice_index by (slice_index to 7 % 8) % 8)) ≡ 7
two_apart_by to by next s r t a b c w =
    let same : s ++ r ++ t ≡ s ++ (r ++ t) = simp append_assoc in
    let one : slice_index (both_to by next) (slice_index to 0 % 8) ≡ slice_index next (slice_index by (slice_index to 0 % 8) % 8) =
    both_is by next (slice_index to 0 % 8) (omega arith) in
    let other : slice_index (both_to by next) (slice_index to 7 % 8) ≡ slice_index next (slice_index by (slice_index to 7 % 8) % 8) =
    both_is by next (slice_index to 7 % 8) (omega arith) in
    (λ i. bit_xor (sym one i) (sym other i))
    ∙ two_apart to (both_to by next) s (r ++ t) a (by_both by next (both_to by next) r t (both_is by next) b c) (subst IsRotated same w)

pub is_seven : (n : ℕ) → n ≡ 7 → (n == 7) ≡ true
is_seven n e = ap (λ k. k == 7) e
