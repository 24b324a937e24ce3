-- The ranks of the inverse of cubies are sums over the cubies themselves, each at its place.
use Rattle.std.proofs.Common.{ap₂}
use Rattle.niss_cube.proofs.Words.{◌≡◌, ℕ, suc, zero, ◌+◌, ◌-◌, ◌*◌, ◌/◌, ◌%◌, ◌<◌, ◌≤◌, ◌==◌, ◌∙◌, ap, refl, sym, arith, subst, List}
use Rattle.niss_cube.proofs.Words.{get_or, Bool, take, map, number, Axis, Ud, Rl, Fb, Coordinate, Flip, Twist, Slice}
use Rattle.niss_cube.proofs.Words.{Place, SameMap, map_of, count_of, Fact, Both, Below, Equal, When, Numbers, Truths}
use Rattle.niss_cube.proofs.Words.{Holds, holds, eq-eqb, rank_places, nat_le, sum_by, range_with_len, get_or-range_with_len, length-range_with_len}
use Rattle.niss_cube.proofs.Words.{Turn, turn_table, renaming_table, XQuarter, ZCounter, inl, inr, ◌⊎◌}
use Rattle.niss_cube.proofs.CubieKinds.{CubieLists, Valid, map_lists, lists_of, cube_of, tabulated, tabulated-at, tabulated-is}
use Rattle.niss_cube.proofs.CubieKinds.{Kind, Corners, Edges, count, facelets, home_at, turn_at, place_of, stand, stands-at, permutes, once}
use Rattle.niss_cube.proofs.InverseCubies.{inverse_lists, inverse-valid, takes_back, inverted-is, Inverted, turned_back}
use Rattle.niss_cube.proofs.MovedCubies.{moved, By, moved-valid, from_at, outward_at}
use Rattle.niss_cube.proofs.Codes.{code, code-below, cubies_for, renaming, rank_of-code}
use Rattle.niss_cube.proofs.CoordinateLaws.{are_coordinates}
use Rattle.niss_cube.proofs.Ranks.{slice_occupied, slice_occupied-length, slice_occupied-filled}
use Rattle.niss_cube.proofs.Sums.{below, below_same, below_permuted, one_if, sum_by-below}
use Rattle.niss_cube.specs.Inverses.{CubesAreTakenBack, IsInverseRank, twist_digits, flip_digits, counted_back, slice_places, slice_mask, AreFour}
use Rattle.niss_cube.specs.declared.cube.coordinate.inverse.RankDigits.{RankDigits}
use Rattle.niss_cube.specs.declared.cube.coordinate.inverse.TheConstants.{HIGH, LOW}

pub cubes_are_taken_back : CubesAreTakenBack
cubes_are_taken_back c =
    let v : Valid (lists_of c) = c.are_cubies in
    (cube_of (inverse_lists (lists_of c)) (inverse-valid (lists_of c) v), takes_back (lists_of c) v)

-- the rank of whatever takes cubies back is that of their inverse
pub inverse_rank : (k : Coordinate) (a : Axis) (e : Place → Place) (c : CubieLists) (v : Valid c) → SameMap (map_lists c) e
    → (n : ℕ) → n ≡ code k (cubies_for k a (inverse_lists c)) → IsInverseRank k a e n
inverse_rank k a e c v same n is =
    let w : CubieLists = inverse_lists c in
    let wv : Valid w = inverse-valid c v in
    let there : Valid (cubies_for k a w) = (renaming k a).valid w wv in
    record {
      value = λ d back.
          is ∙ sym (rank_of-code k a (map_lists w) (cubies_for k a w) there ((renaming k a).map_is w wv))
          ∙ (are_coordinates k a).of_places (map_lists w) (map_of d) (cube_of w wv, λ q p. refl) (λ q p.
          let from = (permutes c v).onto q p in
          ap (map_lists w) (sym from.2) ∙ takes_back c v from.0 from.1 ∙ sym (back from.0 from.1)
          ∙ ap (map_of d) (sym (same from.0 from.1) ∙ from.2));
      in_range = subst (λ m. m < count_of k) (sym is) (code-below k (cubies_for k a w) there);
    }

-- the number of seven twists, and of eleven flips, as a sum
number-twists : (f : ℕ → ℕ) → number 3 (take 7 (tabulated 8 f)) ≡ 729 * f 0 + 243 * f 1 + 81 * f 2 + 27 * f 3 + 9 * f 4 + 3 * f 5 + f 6
unfolding tabulated
number-twists f =
    let e : number 3 (take 7 (tabulated 8 f)) ≡ 3 * (3 * (3 * (3 * (3 * (3 * (3 * 0 + f 0) + f 1) + f 2) + f 3) + f 4) + f 5) + f 6 = refl in
    omega (arith, e)

number-flips : (f : ℕ → ℕ) → number 2 (take 11 (tabulated 12 f))
    ≡ 1024 * f 0 + 512 * f 1 + 256 * f 2 + 128 * f 3 + 64 * f 4 + 32 * f 5 + 16 * f 6 + 8 * f 7 + 4 * f 8 + 2 * f 9 + f 10
unfolding tabulated
number-flips f =
    let e : number 2 (take 11 (tabulated 12 f))
    ≡ 2 * (2 * (2 * (2 * (2 * (2 * (2 * (2 * (2 * (2 * (2 * 0 + f 0) + f 1) + f 2) + f 3) + f 4) + f 5) + f 6) + f 7) + f 8) + f 9) + f 10 =
    refl in
    omega (arith, e)

-- the digit at the place to which a renaming brings a place
abbrev digit : (k : Kind) → RankDigits (count k) → CubieLists → ℕ → ℕ
digit k ds d h =
    (get_or ds.inward (home_at k d h) 0 + turn_at k d h + (facelets k - get_or ds.inward h 0)) % facelets k

abbrev weighed : (k : Kind) → RankDigits (count k) → CubieLists → ℕ
weighed k ds d = below (count k) (λ h. get_or ds.weights h 0 * digit k ds d h)

weighed-ud : (x : ℕ → ℕ) → 729 * x 0 + 243 * x 1 + 81 * x 2 + 27 * x 3 + 9 * x 4 + 3 * x 5 + x 6 ≡ below 8 (λ h. get_or (twist_digits Ud).weights h 0 * x h)
weighed-ud x = omega arith

weighed-rl : (x : ℕ → ℕ) → 729 * x 4 + 243 * x 0 + 81 * x 3 + 27 * x 7 + 9 * x 5 + 3 * x 1 + x 2 ≡ below 8 (λ h. get_or (twist_digits Rl).weights h 0 * x h)
weighed-rl x = omega arith

weighed-fb : (x : ℕ → ℕ) → 729 * x 4 + 243 * x 5 + 81 * x 1 + 27 * x 0 + 9 * x 7 + 3 * x 6 + x 2 ≡ below 8 (λ h. get_or (twist_digits Fb).weights h 0 * x h)
weighed-fb x = omega arith

flips-ud : (x : ℕ → ℕ) → 1024 * x 11 + 512 * x 3 + 256 * x 10 + 128 * x 7 + 64 * x 8 + 32 * x 1 + 16 * x 9 + 8 * x 5 + 4 * x 0 + 2 * x 2 + x 6
    ≡ below 12 (λ h. get_or (flip_digits Ud).weights h 0 * x h)
flips-ud x = omega arith

flips-rl : (x : ℕ → ℕ) → 1024 * x 3 + 512 * x 0 + 256 * x 1 + 128 * x 2 + 64 * x 7 + 32 * x 4 + 16 * x 5 + 8 * x 6 + 4 * x 11 + 2 * x 8 + x 9
    ≡ below 12 (λ h. get_or (flip_digits Rl).weights h 0 * x h)
flips-rl x = omega arith

flips-fb : (x : ℕ → ℕ) → 1024 * x 0 + 512 * x 1 + 256 * x 2 + 128 * x 3 + 64 * x 4 + 32 * x 5 + 16 * x 6 + 8 * x 7 + 4 * x 8 + 2 * x 9 + x 10
    ≡ below 12 (λ h. get_or (flip_digits Fb).weights h 0 * x h)
flips-fb x = omega arith

-- on the standard axis the digits are the orientations
none_inward : (k : Kind) (ds : RankDigits (count k)) (d : CubieLists) → Valid d → ((h : ℕ) → h < count k → get_or ds.inward h 0 ≡ 0)
    → (h : ℕ) → h < count k → turn_at k d h ≡ digit k ds d h
none_inward Corners ds d v none h l =
    omega (arith, none h l, none (home_at Corners d h) (v.corners_placed.range h l), v.twists_oriented.range h l)
none_inward Edges ds d v none h l =
    omega (arith, none h l, none (home_at Edges d h) (v.edges_placed.range h l), v.flips_oriented.range h l)

-- the code of the cubies that are renamed for an axis, by the cubies themselves
twists-weighed : (a : Axis) (d : CubieLists) → Valid d → code Twist (cubies_for Twist a d) ≡ weighed Corners (twist_digits a) d
twists-weighed Ud d v =
    ap (λ xs. number 3 (take 7 xs)) (tabulated-is 8 (turn_at Corners d) d.twists v.twists_oriented.places (λ i l. refl))
    ∙ number-twists (turn_at Corners d)
    ∙ weighed-ud (turn_at Corners d)
    ∙ below_same 8 (λ h. get_or (twist_digits Ud).weights h 0 * turn_at Corners d h) (λ h. get_or (twist_digits Ud).weights h 0 * digit Corners (twist_digits Ud) d h) (λ h l.
    ap (λ t. get_or (twist_digits Ud).weights h 0 * t)
    (none_inward Corners (twist_digits Ud) d v (holds (Numbers 8 λ h. Equal (get_or (twist_digits Ud).inward h 0) 0) refl) h l))
twists-weighed Rl d v = number-twists _ ∙ weighed-rl (digit Corners (twist_digits Rl) d)
twists-weighed Fb d v = number-twists _ ∙ weighed-fb (digit Corners (twist_digits Fb) d)

flips-weighed : (a : Axis) (d : CubieLists) → Valid d → code Flip (cubies_for Flip a d) ≡ weighed Edges (flip_digits a) d
flips-weighed Ud d v = number-flips _ ∙ flips-ud (digit Edges (flip_digits Ud) d)
flips-weighed Rl d v = number-flips _ ∙ flips-rl (digit Edges (flip_digits Rl) d)
flips-weighed Fb d v =
    ap (λ xs. number 2 (take 11 xs)) (tabulated-is 12 (turn_at Edges d) d.flips v.flips_oriented.places (λ i l. refl))
    ∙ number-flips (turn_at Edges d)
    ∙ flips-fb (turn_at Edges d)
    ∙ below_same 12 (λ h. get_or (flip_digits Fb).weights h 0 * turn_at Edges d h) (λ h. get_or (flip_digits Fb).weights h 0 * digit Edges (flip_digits Fb) d h) (λ h l.
    ap (λ t. get_or (flip_digits Fb).weights h 0 * t)
    (none_inward Edges (flip_digits Fb) d v (holds (Numbers 12 λ h. Equal (get_or (flip_digits Fb).inward h 0) 0) refl) h l))

-- a turn back twice reduced
back_once : (k : Kind) (a t b : ℕ) → (a + turned_back k t + b) % facelets k ≡ (a + (facelets k - t) + b) % facelets k
back_once Corners a t b = omega arith
back_once Edges a t b = omega arith

-- each cubie stands at one place
once-below : (k : Kind) (c : CubieLists) → Valid c → (h : ℕ) → h < count k → below (count k) (λ i. one_if (home_at k c i == h)) ≡ 1
once-below k c v h l = ap (λ n. below n (λ i. one_if (home_at k c i == h))) (sym (stand k c v).placed.places) ∙ once k c v h l

module _ (k : Kind) (ds : RankDigits (count k)) (c : CubieLists) (v : Valid c) where
  -- of the inverse: what a place counts, by the cubie that stands there
  abbrev at_home : ℕ → ℕ
  at_home h =
      get_or ds.weights h 0
      * ((get_or ds.inward (place_of k c h) 0 + turned_back k (turn_at k c (place_of k c h)) + (facelets k - get_or ds.inward h 0)) % facelets k)

  pub weighed-back : weighed k ds (inverse_lists c) ≡ below (count k) (λ i. counted_back (facelets k) ds (home_at k c i) (turn_at k c i) i)
  weighed-back =
      let b : Inverted k c = inverted-is k c in
      below_same (count k) _ at_home (λ h l.
      ap₂ (λ p t. get_or ds.weights h 0 * ((get_or ds.inward p 0 + t + (facelets k - get_or ds.inward h 0)) % facelets k)) (b.home_is h l) (b.turn_is h l))
      ∙ sym (below_permuted (count k) (home_at k c) at_home (stand k c v).placed.range (once-below k c v))
      ∙ below_same (count k) (λ i. at_home (home_at k c i)) (λ i. counted_back (facelets k) ds (home_at k c i) (turn_at k c i) i) (λ i l.
      ap (λ p. get_or ds.weights (home_at k c i) 0 * ((get_or ds.inward p 0 + turned_back k (turn_at k c p) + (facelets k - get_or ds.inward (home_at k c i) 0)) % facelets k)) (stands-at k c v i l)
      ∙ ap (λ n. get_or ds.weights (home_at k c i) 0 * n) (back_once k (get_or ds.inward i 0) (turn_at k c i) (facelets k - get_or ds.inward (home_at k c i) 0)))

-- what the cubies after a turn count
abbrev pub counted_after : (k : Kind) → RankDigits (count k) → Turn → CubieLists → ℕ → ℕ
counted_after k ds t c i =
    counted_back (facelets k) ds (home_at k c (from_at k (By t) i)) ((turn_at k c (from_at k (By t) i) + outward_at k (By t) i) % facelets k) i

home-after : (k : Kind) (t : Turn) (c : CubieLists) (i : ℕ) → i < count k → home_at k (moved (By t) c) i ≡ home_at k c (from_at k (By t) i)
home-after Corners t c i l = tabulated-at 8 _ i l
home-after Edges t c i l = tabulated-at 12 _ i l

turn-after : (k : Kind) (t : Turn) (c : CubieLists) (i : ℕ) → i < count k
    → turn_at k (moved (By t) c) i ≡ (turn_at k c (from_at k (By t) i) + outward_at k (By t) i) % facelets k
turn-after Corners t c i l = tabulated-at 8 _ i l
turn-after Edges t c i l = tabulated-at 12 _ i l

after-counts : (k : Kind) (t : Turn) (c : CubieLists) (ds : RankDigits (count k))
    → below (count k) (λ i. counted_back (facelets k) ds (home_at k (moved (By t) c) i) (turn_at k (moved (By t) c) i) i) ≡ below (count k) (counted_after k ds t c)
after-counts k t c ds =
    below_same (count k) (λ i. counted_back (facelets k) ds (home_at k (moved (By t) c) i) (turn_at k (moved (By t) c) i) i) (counted_after k ds t c) (λ i l.
    ap₂ (λ h u. counted_back (facelets k) ds h u i) (home-after k t c i l) (turn-after k t c i l))

pub below-push : (n : ℕ) (f : ℕ → ℕ) → below (n + 1) f ≡ below n f + f n
below-push n f = let e : n + 1 ≡ suc n = omega arith in ap (λ m. below m f) e

-- a sum over the numbers below a bound, as a list
pub sum_below : (n : ℕ) (f : ℕ → ℕ) → sum_by f (range_with_len 0 n) ≡ below n f
sum_below n f =
    sum_by-below f 0 (range_with_len 0 n)
    ∙ ap (λ m. below m (λ k. f (get_or (range_with_len 0 n) k 0))) (length-range_with_len 0 n)
    ∙ below_same n (λ k. f (get_or (range_with_len 0 n) k 0)) f (λ k l. ap f (get_or-range_with_len 0 n k 0 l ∙ omega arith))

module _ (a : Axis) (t : Turn) (c : CubieLists) (v : Valid c) where
  abbrev after : CubieLists
  after = moved (By t) c

  after-valid : Valid after
  after-valid = moved-valid (By t) c v

  pub twists-back : below 8 (counted_after Corners (twist_digits a) t c) ≡ code Twist (cubies_for Twist a (inverse_lists after))
  twists-back = sym (twists-weighed a (inverse_lists after) (inverse-valid after after-valid) ∙ weighed-back Corners (twist_digits a) after after-valid ∙ after-counts Corners t c (twist_digits a))

  pub flips-back : below 12 (counted_after Edges (flip_digits a) t c) ≡ code Flip (cubies_for Flip a (inverse_lists after))
  flips-back = sym (flips-weighed a (inverse_lists after) (inverse-valid after after-valid) ∙ weighed-back Edges (flip_digits a) after after-valid ∙ after-counts Edges t c (flip_digits a))

-- The bits of the places of four edges: of twelve, those of the slice once they are renamed.
abbrev bits_of : List Bool → ℕ
bits_of os = number 2 (map one_if os)

abbrev to_slice : Axis → ℕ → ℕ
to_slice Ud i = i
to_slice Rl i = get_or (renaming_table ZCounter).edges.to i 0
to_slice Fb i = get_or (renaming_table XQuarter).edges.to i 0

number-bits : (f : ℕ → ℕ) → (let x : ℕ → ℕ = λ p. one_if (nat_le 8 (f p)) in
    bits_of (slice_occupied (tabulated 12 f))
    ≡ 2048 * x 11 + 1024 * x 10 + 512 * x 9 + 256 * x 8 + 128 * x 7 + 64 * x 6 + 32 * x 5 + 16 * x 4 + 8 * x 3 + 4 * x 2 + 2 * x 1 + x 0)
unfolding tabulated
number-bits f =
    let x : ℕ → ℕ = λ p. one_if (nat_le 8 (f p)) in
    let e : bits_of (slice_occupied (tabulated 12 f))
    ≡ 2 * (2 * (2 * (2 * (2 * (2 * (2 * (2 * (2 * (2 * (2 * (2 * 0 + x 11) + x 10) + x 9) + x 8) + x 7) + x 6) + x 5) + x 4) + x 3) + x 2) + x 1) + x 0 =
    refl in
    omega (arith, e)

bits-ud : (x : ℕ → ℕ) → 2048 * x 11 + 1024 * x 10 + 512 * x 9 + 256 * x 8 + 128 * x 7 + 64 * x 6 + 32 * x 5 + 16 * x 4 + 8 * x 3 + 4 * x 2 + 2 * x 1 + x 0
    ≡ below 12 (λ h. get_or (slice_places Ud).bits h 0 * x h)
bits-ud x = omega arith

bits-rl : (x : ℕ → ℕ) → 2048 * x 7 + 1024 * x 3 + 512 * x 1 + 256 * x 5 + 128 * x 10 + 64 * x 2 + 32 * x 9 + 16 * x 6 + 8 * x 11 + 4 * x 0 + 2 * x 8 + x 4
    ≡ below 12 (λ h. get_or (slice_places Rl).bits h 0 * x h)
bits-rl x = omega arith

bits-fb : (x : ℕ → ℕ) → 2048 * x 0 + 1024 * x 2 + 512 * x 6 + 256 * x 4 + 128 * x 3 + 64 * x 10 + 32 * x 7 + 16 * x 11 + 8 * x 1 + 4 * x 9 + 2 * x 5 + x 8
    ≡ below 12 (λ h. get_or (slice_places Fb).bits h 0 * x h)
bits-fb x = omega arith

slice-weighed : (a : Axis) (d : CubieLists) → Valid d → bits_of (slice_occupied (cubies_for Slice a d).edges)
    ≡ below 12 (λ h. get_or (slice_places a).bits h 0 * one_if (nat_le 8 (to_slice a (home_at Edges d h))))
slice-weighed Ud d v =
    ap (λ xs. bits_of (slice_occupied xs)) (tabulated-is 12 (home_at Edges d) d.edges v.edges_placed.places (λ i l. refl))
    ∙ number-bits (home_at Edges d) ∙ bits-ud (λ h. one_if (nat_le 8 (home_at Edges d h)))
slice-weighed Rl d v = number-bits _ ∙ bits-rl (λ h. one_if (nat_le 8 (to_slice Rl (home_at Edges d h))))
slice-weighed Fb d v = number-bits _ ∙ bits-fb (λ h. one_if (nat_le 8 (to_slice Fb (home_at Edges d h))))

-- of the places those of the slice count
abbrev four_of : Axis → (ℕ → ℕ) → ℕ
four_of a x =
    x (get_or (slice_places a).places 0 0) + x (get_or (slice_places a).places 1 0)
    + (x (get_or (slice_places a).places 2 0) + x (get_or (slice_places a).places 3 0))

only_slice : (a : Axis) (x : ℕ → ℕ) → below 12 (λ i. x i * one_if (nat_le 8 (to_slice a i))) ≡ four_of a x
only_slice Ud x = omega arith
only_slice Rl x = omega arith
only_slice Fb x = omega arith

module _ (a : Axis) (t : Turn) (c : CubieLists) (v : Valid c) where
  abbrev turned_edges : CubieLists
  turned_edges = moved (By t) c

  abbrev back_edges : CubieLists
  back_edges = inverse_lists turned_edges

  abbrev from_edges : List ℕ
  from_edges = (turn_table t.face t.power).edges

  turned_valid : Valid turned_edges
  turned_valid = moved-valid (By t) c v

  abbrev bit_at : ℕ → ℕ
  bit_at h = get_or (slice_places a).bits h 0

  bits-back : bits_of (slice_occupied (cubies_for Slice a back_edges).edges) ≡ slice_mask (slice_places a) c.edges from_edges
  bits-back =
      let e : CubieLists = turned_edges in
      let ev : Valid e = turned_valid in
      let f : ℕ → ℕ = λ h. bit_at h * one_if (nat_le 8 (to_slice a (place_of Edges e h))) in
      slice-weighed a back_edges (inverse-valid e ev)
      ∙ below_same 12 _ f (λ h l. ap (λ p. bit_at h * one_if (nat_le 8 (to_slice a p))) ((inverted-is Edges e).home_is h l))
      ∙ sym (below_permuted 12 (home_at Edges e) f ev.edges_placed.range (once-below Edges e ev))
      ∙ below_same 12 (λ i. f (home_at Edges e i)) (λ i. bit_at (home_at Edges e i) * one_if (nat_le 8 (to_slice a i))) (λ i l.
      ap (λ p. bit_at (home_at Edges e i) * one_if (nat_le 8 (to_slice a p))) (stands-at Edges e ev i l))
      ∙ below_same 12 (λ i. bit_at (home_at Edges e i) * one_if (nat_le 8 (to_slice a i))) (λ i. bit_at (get_or c.edges (get_or from_edges i 0) 0) * one_if (nat_le 8 (to_slice a i))) (λ i l.
      ap (λ h. bit_at h * one_if (nat_le 8 (to_slice a i))) (home-after Edges t c i l))
      ∙ only_slice a (λ i. bit_at (get_or c.edges (get_or from_edges i 0) 0))

  pub slice-four : AreFour (slice_mask (slice_places a) c.edges from_edges) (slice_occupied (cubies_for Slice a back_edges).edges)
  slice-four =
      let there : Valid (cubies_for Slice a back_edges) = (renaming Slice a).valid back_edges (inverse-valid turned_edges turned_valid) in
      record {
        places = slice_occupied-length (cubies_for Slice a back_edges).edges there.edges_placed.places;
        four = slice_occupied-filled (cubies_for Slice a back_edges) there;
        bits = bits-back;
      }

-- The rank of four places by the tables, and what the tables have.
abbrev four_fact : List Bool → Fact
four_fact os =
    let mask : ℕ = bits_of os in
    Both (Below mask 4096) (When (sum_by one_if os == 4) (Equal (get_or HIGH (mask / 64) 0 + get_or LOW (mask % 64) 0) (rank_places os 4)))

all_fours : Holds (Truths 12 four_fact)
all_fours = holds (Truths 12 four_fact) refl

pub four-below : (mask : ℕ) (os : List Bool) → AreFour mask os → mask < 4096
four-below mask os h = subst (λ m. m < 4096) h.bits (all_fours os h.places).0

pub four-rank : (mask : ℕ) (os : List Bool) → AreFour mask os → get_or HIGH (mask / 64) 0 + get_or LOW (mask % 64) 0 ≡ rank_places os 4
four-rank mask os h =
    subst (λ m. get_or HIGH (m / 64) 0 + get_or LOW (m % 64) 0 ≡ rank_places os 4) h.bits ((all_fours os h.places).1 (eq-eqb _ 4 h.four))

pub small_parts : (i : ℕ) → i < 64 → (get_or HIGH i 0 < 512) × (get_or LOW i 0 < 512)
small_parts = holds (Numbers 64 λ i. Both (Below (get_or HIGH i 0) 512) (Below (get_or LOW i 0) 512)) refl

-- a digit counts little
pub counted_small : (w d : ℕ) → w ≤ 1024 → d < 3 → w * d ≤ 2048
counted_small w zero l k = omega arith
counted_small w (suc zero) l k = omega arith
counted_small w (suc (suc zero)) l k = omega arith
counted_small w (suc (suc (suc d))) l k = absurd (omega arith)

-- by two or three facelets
pub low_by : (b : ℕ) (x : ℕ) → (b ≡ 2) ⊎ (b ≡ 3) → x % b < 3
low_by b x (inl e) = rw e (omega arith)
low_by b x (inr e) = rw e (omega arith)

pub back_by : (b a t u c : ℕ) → (b ≡ 2) ⊎ (b ≡ 3) → t < b → u < b → (a + (2 * b - (t + u)) + c) % b ≡ (a + (b - (t + u) % b) + c) % b
back_by b a t u c (inl e) lt lu = let l = subst (λ n. t < n) e lt in let k = subst (λ n. u < n) e lu in rw e (omega (arith, l, k))
back_by b a t u c (inr e) lt lu = let l = subst (λ n. t < n) e lt in let k = subst (λ n. u < n) e lu in rw e (omega (arith, l, k))
