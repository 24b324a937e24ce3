-- How many places of a set a map brings out of it: as many as by its inverse, and as from a renamed set by the renamed map.
use Rattle.niss_cube.proofs.Words.{◌≡◌, ℕ, suc, zero, ◌+◌, ◌/◌, ◌<◌, ◌↔◌, ◌⊎◌, refl, sym, ◌∙◌, ap}
use Rattle.niss_cube.proofs.Words.{arith, inl, inr, Bool, true, false, not, ◌&&◌}
use Rattle.niss_cube.proofs.Words.{eqb_tells, Yes, Same}
use Rattle.niss_cube.proofs.Words.{Places, holds, tested, Place, is_place, places, facelet, U, SameMap, Axis}
use Rattle.niss_cube.proofs.Words.{Ud, Rl, Fb, Cube, Coordinate, Flip, Twist, Slice, Kept, HasOnlyPlaces, PermutesPlaces, set_of}
use Rattle.niss_cube.proofs.Words.{map_of, renamed_for, rotated, rotated_back, Renaming, XCounter}
use Rattle.niss_cube.proofs.Words.{XQuarter, YQuarter, ZCounter}
use Rattle.niss_cube.specs.BadPieces.{leaving, stickers_in, bad_pieces, TakesBack, InverseIsAsBad}
use Rattle.niss_cube.specs.BadPieces.{BadPiecesSeePlaces}
use Rattle.niss_cube.proofs.CubieKinds.{cubes_permute_places, place_at, number_at, at_number, of_rank}
use Rattle.niss_cube.proofs.CubieKinds.{sum_moved}
use Rattle.niss_cube.proofs.Codes.{standard_set}
use Rattle.niss_cube.proofs.MovedCubies.{KeepsPlaces, back-place, out-back, back-out}
use Rattle.niss_cube.proofs.Sums.{below, one_if, below_same, below_zero, below_add}
use Rattle.niss_cube.proofs.Sums.{sum_by-below}

-- does a sticker leave the set, as a number?
abbrev pub leaves : (Place → Bool) → (Place → Place) → Place → ℕ
leaves set e q = one_if (set q && not (set (e q)))

pub leaving-places : (set : Place → Bool) (e : Place → Place) → leaving set e ≡ below 54 (λ k. leaves set e (place_at k))
unfolding leaving
leaving-places set e = sum_by-below (leaves set e) (facelet U 5) places

leaving-same : (set : Place → Bool) (d e : Place → Place) → SameMap d e → leaving set d ≡ leaving set e
leaving-same set d e s =
    leaving-places set d
    ∙ below_same 54 (λ k. leaves set d (place_at k)) (λ k. leaves set e (place_at k))
    (λ k l. ap (λ z. one_if (set (place_at k) && not (set z))) (s (place_at k) (of_rank k l).1))
    ∙ sym (leaving-places set e)

pub bad_pieces_see_places : BadPiecesSeePlaces
unfolding bad_pieces
bad_pieces_see_places k a d e s = ap (λ n. n / stickers_in k) (leaving-same (set_of k a) d e s)

-- No sticker leaves the set exactly if it is kept.
none_left : (a b : Bool) → one_if (a && not b) ≡ 0 → a ≡ true → b ≡ true
none_left true true n h = refl
none_left true false n h = absurd (omega arith)
none_left false b n h = cc

left_none : (a b : Bool) → (a ≡ true → b ≡ true) → one_if (a && not b) ≡ 0
left_none true b h = rw (h refl) refl
left_none false b h = refl

below_each : (n : ℕ) (f : ℕ → ℕ) → below n f ≡ 0 → (k : ℕ) → k < n → f k ≡ 0
below_each zero f e k l = absurd (omega arith)
below_each (suc n) f e k l =
    let rest : below n f ≡ 0 = omega arith in
    let last : f n ≡ 0 = omega arith in
    elim (dec k n l) [
      | inl w ↦ below_each n f rest k w
      | inr w ↦ ap f w ∙ last
    ]
  where
    dec : (k n : ℕ) → k < suc n → (k < n) ⊎ (k ≡ n)
    dec k n l = elim (eqb_tells k n) [ inl w ↦ inr w.1 | inr w ↦ inl (grind (arith, w.1)) ]

pub leaving-none : (set : Place → Bool) → HasOnlyPlaces set → (e : Place → Place) → (leaving set e ≡ 0) ↔ Kept set e
leaving-none set inside e = (
  (λ n q h.
      let at_q = at_number q (inside q h) in
      let each : leaves set e (place_at (number_at q)) ≡ 0 = below_each 54 (λ k. leaves set e (place_at k)) (sym (leaving-places set e) ∙ n) (number_at q) at_q.0 in
      none_left (set q) (set (e q)) (ap (leaves set e) (sym at_q.1) ∙ each) h),
  (λ kept.
      leaving-places set e
      ∙ below_same 54 (λ k. leaves set e (place_at k)) (λ _. 0) (λ k l. left_none _ _ (kept (place_at k)))
      ∙ below_zero 54),
)

-- As many come into a set as leave it.
balance : (a b : Bool) → one_if (a && not b) + one_if b ≡ one_if (b && not a) + one_if a
balance true true = refl
balance true false = refl
balance false true = refl
balance false false = refl

coming : (set : Place → Bool) (e : Place → Place) → PermutesPlaces e →
    below 54 (λ k. one_if (set (e (place_at k)) && not (set (place_at k)))) ≡ leaving set e
coming set e permuted =
    let out : ℕ → ℕ = λ k. leaves set e (place_at k) in
    let come : ℕ → ℕ = λ k. one_if (set (e (place_at k)) && not (set (place_at k))) in
    let here : ℕ → ℕ = λ k. one_if (set (place_at k)) in
    let there : ℕ → ℕ = λ k. one_if (set (e (place_at k))) in
    let same : below 54 there ≡ below 54 here = sum_moved e permuted (λ q. one_if (set q)) in
    let both : below 54 (λ k. out k + there k) ≡ below 54 (λ k. come k + here k) =
    below_same 54 (λ k. out k + there k) (λ k. come k + here k) (λ k l. balance (set (place_at k)) (set (e (place_at k)))) in
    omega (arith, leaving-places set e, both, below_add 54 out there, below_add 54 come here, same)

leaving-back : (set : Place → Bool) (c d : Cube) → TakesBack c d → leaving set (map_of c) ≡ leaving set (map_of d)
leaving-back set c d back =
    sym (coming set (map_of c) (cubes_permute_places c))
    ∙ below_same 54 (λ k. one_if (set (map_of c (place_at k)) && not (set (place_at k)))) (λ k. leaves set (map_of d) (map_of c (place_at k)))
    (λ k l. ap (λ z. one_if (set (map_of c (place_at k)) && not (set z))) (sym (back (place_at k) (of_rank k l).1)))
    ∙ sum_moved (map_of c) (cubes_permute_places c) (leaves set (map_of d))
    ∙ sym (leaving-places set (map_of d))

pub inverse_is_as_bad : InverseIsAsBad
unfolding bad_pieces
inverse_is_as_bad k a c d back = ap (λ n. n / stickers_in k) (leaving-back (set_of k a) c d back)

-- From a renamed set as many stickers leave by the renamed map.
out-place : (v : Renaming) (q : Place) → is_place q ≡ true → is_place (rotated v q) ≡ true
out-place XCounter = holds (Places λ q. Yes (is_place (rotated XCounter q))) refl
out-place XQuarter = holds (Places λ q. Yes (is_place (rotated XQuarter q))) refl
out-place YQuarter = holds (Places λ q. Yes (is_place (rotated YQuarter q))) refl
out-place ZCounter = holds (Places λ q. Yes (is_place (rotated ZCounter q))) refl

rotated_back_permutes : (v : Renaming) → PermutesPlaces (rotated_back v)
rotated_back_permutes v = record {
  to_places = back-place v;
  one_to_one = λ p q lp lq e. sym (out-back v p lp) ∙ ap (rotated v) e ∙ out-back v q lq;
  onto = λ q l. (rotated v q, out-place v q l, back-out v q l);
}

module _ (v : Renaming) (set renamed_set : Place → Bool) (same : (q : Place) → is_place q ≡ true → set q ≡ renamed_set (rotated v q)) (e : Place → Place) (keep : KeepsPlaces e) where
  leaves-renamed : (q : Place) → is_place q ≡ true → leaves set e (rotated_back v q) ≡ leaves renamed_set (λ q. rotated v (e (rotated_back v q))) q
  leaves-renamed q l =
      let there : is_place (rotated_back v q) ≡ true = back-place v q l in
      ap (λ b. one_if (b && not (set (e (rotated_back v q))))) (same (rotated_back v q) there ∙ ap renamed_set (out-back v q l))
      ∙ ap (λ b. one_if (renamed_set q && not b)) (same (e (rotated_back v q)) (keep (rotated_back v q) there))

  leaving-renamed : leaving set e ≡ leaving renamed_set (λ q. rotated v (e (rotated_back v q)))
  leaving-renamed =
      leaving-places set e
      ∙ sym (sum_moved (rotated_back v) (rotated_back_permutes v) (leaves set e))
      ∙ below_same 54 (λ k. leaves set e (rotated_back v (place_at k))) (λ k. leaves renamed_set (λ q. rotated v (e (rotated_back v q))) (place_at k))
      (λ k l. leaves-renamed (place_at k) (of_rank k l).1)
      ∙ sym (leaving-places renamed_set (λ q. rotated v (e (rotated_back v q))))

pub leaving-standard : (k : Coordinate) (a : Axis) (e : Place → Place) → KeepsPlaces e → leaving (set_of k a) e ≡ leaving (standard_set k a) (renamed_for k a e)
leaving-standard k a e keep = go k a
  where
    by : (v : Renaming) (k : Coordinate) (a : Axis) → tested (Places λ q. Same (set_of k a q) (standard_set k a (rotated v q))) ≡ true → leaving (set_of k a) e ≡ leaving (standard_set k a) (λ q. rotated v (e (rotated_back v q)))
    by v k a test =
        leaving-renamed v (set_of k a) (standard_set k a) (holds (Places λ q. Same (set_of k a q) (standard_set k a (rotated v q))) test) e keep

    go : (k : Coordinate) (a : Axis) → leaving (set_of k a) e ≡ leaving (standard_set k a) (renamed_for k a e)
    go Flip Ud = by XCounter Flip Ud refl
    go Flip Rl = by YQuarter Flip Rl refl
    go Twist Rl = by ZCounter Twist Rl refl
    go Twist Fb = by XQuarter Twist Fb refl
    go Slice Rl = by ZCounter Slice Rl refl
    go Slice Fb = by XQuarter Slice Fb refl
    go Flip Fb = refl
    go Twist Ud = refl
    go Slice Ud = refl
