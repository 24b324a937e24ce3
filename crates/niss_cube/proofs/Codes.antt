-- A coordinate as a code of the cubies that it depends on, which says its number after a turn, and is 0 where its set of places is kept.
use Rattle.niss_cube.proofs.Words.{arith, edges_down, Equal, Below, Numbers, holds, [], ◌≡◌, ℕ, ◌<◌, refl, sym, ap}
use Rattle.niss_cube.proofs.Words.{List, get_or, take, reverse, count_by, ◌==◌, Place, SameMap, turned, Turn, Axis}
use Rattle.niss_cube.proofs.Words.{Coordinate, Flip, Twist, Slice, number, rank_places, flip_of, twist_of, slice_of}
use Rattle.niss_cube.proofs.Words.{rank_of, count_of, renamed_for, standard_axis, turn_for, twists_home, flips_home}
use Rattle.niss_cube.proofs.Words.{flips_of_rank, twists_of_rank, edges_of_rank, rank_after, corners_home}
use Rattle.niss_cube.proofs.Words.{edges_home, ArePlaced, AreOriented, false_from_ne_true, SetsArePlaces, renamed_turn}
use Rattle.niss_cube.proofs.Words.{rotated_back, renaming_for, ext_get_or, renamed_if, HasOnlyPlaces, eqb_tells, twist_set}
use Rattle.niss_cube.proofs.Words.{slice_set, eqb-true, is_place, Renaming, XCounter, XQuarter, YQuarter, ZCounter}
use Rattle.niss_cube.proofs.Words.{flip_set, and_left, Fact, is_edge, is_kept, face_if, rotated, Places, Option, nat_le}
use Rattle.niss_cube.proofs.Words.{set_of, tested, Holds, false, Same, None, Some, Bool, true, ◌&&◌, Kept, ◌∙◌, inl}
use Rattle.niss_cube.proofs.Words.{inr, ◌+◌, ◌%◌, not, ◌↔◌, Ud, Rl, Fb, map, length, get_or-map, length-map, Yes, When}
use Rattle.niss_cube.proofs.Words.{◌||◌, places, list_all-from_AllPass, KeptIsTested, set}
use Rattle.niss_cube.proofs.CubieKinds.{CubieLists, Valid, map_lists, Corners, Edges, Kind, count, facelets, at, is_of}
use Rattle.niss_cube.proofs.CubieKinds.{home_at, turn_at, place_of, stand, stands, stands-at, low, some_facelet}
use Rattle.niss_cube.proofs.CubieKinds.{unturned, kind_place, Located, located, shown_at, map_place}
use Rattle.niss_cube.proofs.Shown.{turns_shown, slice_shown}
use Rattle.niss_cube.proofs.Ranks.{slice-below, slice_occupied, of_rank-placed, of_rank-rank, rank-turned}
use Rattle.niss_cube.proofs.Ranks.{edge-once, slice-same, of_rank-are, of_rank-number, turns_number-below}
use Rattle.niss_cube.proofs.Ranks.{turns_number-same, turns_number-zero}
use Rattle.niss_cube.proofs.MovedCubies.{By, moved, KeepsPlaces, IsRenaming, by_rotation, not_renamed, back-place}
use Rattle.niss_cube.proofs.MovedCubies.{out-back, back-out, Under}
use Rattle.niss_cube.proofs.Sums.{one_if-same, one_if, below_permuted, below_all_same, one_if-at_most, eqb-itself}

corners_home-are : ArePlaced 8 corners_home
corners_home-are = record {
  places = refl;
  each = holds (Numbers 8 λ h. Equal (count_by (λ x. x == h) corners_home) 1) refl;
  range = holds (Numbers 8 λ n. Below (get_or corners_home n 0) 8) refl;
}

edges_home-are : ArePlaced 12 edges_home
unfolding edges_of_rank edges_down
edges_home-are = of_rank-placed 0 (omega arith)

flips_home-are : AreOriented 2 12 flips_home
flips_home-are = of_rank-are Edges 0

twists_home-are : AreOriented 3 8 twists_home
twists_home-are = of_rank-are Corners 0

-- cubies with corners at home
abbrev pub cubies_of : (twists edges flips : List ℕ) → CubieLists
cubies_of twists edges flips = record { corners = corners_home; twists = twists; edges = edges; flips = flips }

cubies_of-valid : (twists edges flips : List ℕ) → AreOriented 3 8 twists → ArePlaced 12 edges → AreOriented 2 12 flips → Valid (cubies_of twists edges flips)
cubies_of-valid twists edges flips t e f =
    record { corners_placed = corners_home-are; twists_oriented = t; edges_placed = e; flips_oriented = f }

abbrev pub home : CubieLists
home = cubies_of twists_home edges_home flips_home

pub home-valid : Valid home
home-valid = cubies_of-valid twists_home edges_home flips_home twists_home-are edges_home-are flips_home-are

-- the number on an axis is the code of the cubies that are renamed for it
abbrev pub code : Coordinate → CubieLists → ℕ
code Flip c = number 2 (take 11 c.flips)
code Twist c = number 3 (take 7 c.twists)
code Slice c = rank_places (slice_occupied c.edges) 4

pub rank_of-code : (k : Coordinate) (a : Axis) (e : Place → Place) (c : CubieLists) → Valid c → SameMap (map_lists c) (renamed_for k a e) → rank_of k a e ≡ code k c
unfolding flip_of twist_of slice_of
rank_of-code Flip a e c v s = ap (λ ds. number 2 (take 11 ds)) (turns_shown Edges c v (renamed_for Flip a e) (λ q p. sym (s q p)))
rank_of-code Twist a e c v s = ap (λ ds. number 3 (take 7 ds)) (turns_shown Corners c v (renamed_for Twist a e) (λ q p. sym (s q p)))
rank_of-code Slice a e c v s = ap (λ os. rank_places (reverse os) 4) (slice_shown c v (renamed_for Slice a e) (λ q p. sym (s q p)))

pub code-below : (k : Coordinate) (c : CubieLists) → Valid c → code k c < count_of k
code-below Flip c v = turns_number-below Edges c.flips v.flips_oriented
code-below Twist c v = turns_number-below Corners c.twists v.twists_oriented
code-below Slice c v = slice-below c v

-- cubies that have a number
abbrev pub cubies_with : Coordinate → ℕ → CubieLists
cubies_with Flip i = cubies_of twists_home edges_home (flips_of_rank i)
cubies_with Twist i = cubies_of (twists_of_rank i) edges_home flips_home
cubies_with Slice i = cubies_of twists_home (edges_of_rank i) flips_home

pub cubies_with-valid : (k : Coordinate) (i : ℕ) → i < count_of k → Valid (cubies_with k i)
unfolding flips_of_rank twists_of_rank
cubies_with-valid Flip i l = cubies_of-valid twists_home edges_home (flips_of_rank i) twists_home-are edges_home-are (of_rank-are Edges i)
cubies_with-valid Twist i l = cubies_of-valid (twists_of_rank i) edges_home flips_home (of_rank-are Corners i) edges_home-are flips_home-are
cubies_with-valid Slice i l = cubies_of-valid twists_home (edges_of_rank i) flips_home twists_home-are (of_rank-placed i l) flips_home-are

pub cubies_with-code : (k : Coordinate) (i : ℕ) → i < count_of k → code k (cubies_with k i) ≡ i
unfolding flips_of_rank twists_of_rank
cubies_with-code Flip i l = of_rank-number Edges i l
cubies_with-code Twist i l = of_rank-number Corners i l
cubies_with-code Slice i l = of_rank-rank i l

pub rank_after-is : (k : Coordinate) (a : Axis) (i : ℕ) (t : Turn) → rank_after k a i t ≡ rank_of k (standard_axis k) (λ q. turned (turn_for k a t) (map_lists (cubies_with k i) q))
unfolding rank_after
rank_after-is Flip a i t = refl
rank_after-is Twist a i t = refl
rank_after-is Slice a i t = refl

-- a turn does on an axis what the renamed turn does on the standard axis
pub rank_after-standard : (k : Coordinate) (a : Axis) (i : ℕ) (t : Turn) → rank_after k (standard_axis k) i (turn_for k a t) ≡ rank_after k a i t
unfolding rank_after
rank_after-standard Flip a i t = refl
rank_after-standard Twist a i t = refl
rank_after-standard Slice a i t = refl

-- cubies of one code have one code after a turn
pub code-turned : (k : Coordinate) (t : Turn) (c d : CubieLists) → Valid c → Valid d → code k c ≡ code k d → code k (moved (By t) c) ≡ code k (moved (By t) d)
code-turned Flip t c d v w e =
    ap (λ xs. code Flip (moved (By t) (cubies_of [] [] xs))) (turns_number-same Edges c.flips d.flips v.flips_oriented w.flips_oriented e)
code-turned Twist t c d v w e =
    ap (λ xs. code Twist (moved (By t) (cubies_of xs [] []))) (turns_number-same Corners c.twists d.twists v.twists_oriented w.twists_oriented e)
code-turned Slice t c d v w e = rank-turned t c d v w e

-- on the standard axis the cube isn't renamed
pub unrenamed : (k : Coordinate) (e : Place → Place) (q : Place) → renamed_for k (standard_axis k) e q ≡ e q
unrenamed Flip e q = refl
unrenamed Twist e q = refl
unrenamed Slice e q = refl

implies : (a b : Bool) → (a ≡ true → b ≡ true) → (not a || b) ≡ true
implies true b h = h refl
implies false b h = refl

pub kept_is_tested : KeptIsTested
unfolding is_kept
kept_is_tested set e inside = (
  (λ h q m. holds (Places λ q. When (set q) (Yes (set (e q)))) h q (inside q m) m),
  (λ k. list_all-from_AllPass (λ q. not (set q) || set (e q)) places (λ i q l. implies _ _ (k _))),
)

-- whether a set of places is kept depends on the places alone
pub kept_same : (set : Place → Bool) (d e : Place → Place) → HasOnlyPlaces set → SameMap d e → Kept set d → Kept set e
kept_same set d e inside s kept q m = ap set (sym (s q (inside q m))) ∙ kept q m

-- the cubies from which a coordinate on an axis is read
abbrev renamed_cubies_if : Option Renaming → CubieLists → CubieLists
renamed_cubies_if None c = c
renamed_cubies_if (Some v) c = moved (Under v) c

abbrev pub cubies_for : Coordinate → Axis → CubieLists → CubieLists
cubies_for k a = renamed_cubies_if (renaming_for k a)

if_renamed : (o : Option Renaming) → IsRenaming (renamed_if o) (renamed_turn (face_if o)) (renamed_cubies_if o)
if_renamed None = not_renamed
if_renamed (Some v) = by_rotation v

pub renaming : (k : Coordinate) (a : Axis) → IsRenaming (renamed_for k a) (turn_for k a) (cubies_for k a)
renaming k a = if_renamed (renaming_for k a)

-- the cubies of a coordinate, and the places of its set
abbrev pub kind_for : Coordinate → Kind
kind_for Flip = Edges
kind_for Twist = Corners
kind_for Slice = Edges

pub set_kind : (k : Coordinate) (a : Axis) (q : Place) → set_of k a q ≡ true → is_of (kind_for k) q ≡ true
set_kind Flip a q h = and_left _ _ h
set_kind Twist a q h = and_left _ _ h
set_kind Slice a q h = and_left _ _ h

pub sets_are_places : SetsArePlaces
sets_are_places k a q h = kind_place (kind_for k) q (set_kind k a q h)

-- the set of the cube that is renamed for an axis
abbrev pub standard_set : Coordinate → Axis → Place → Bool
standard_set Flip Ud q = is_edge q && not (flip_set Fb q)
standard_set Flip Rl q = flip_set Fb q
standard_set Flip Fb q = flip_set Fb q
standard_set Twist a q = twist_set Ud q
standard_set Slice a q = slice_set Ud q

pub standard_kind : (k : Coordinate) (a : Axis) (q : Place) → standard_set k a q ≡ true → is_of (kind_for k) q ≡ true
standard_kind Flip Ud q h = and_left _ _ h
standard_kind Flip Rl q h = and_left _ _ h
standard_kind Flip Fb q h = and_left _ _ h
standard_kind Twist a q h = and_left _ _ h
standard_kind Slice a q h = and_left _ _ h

-- a set is kept where the renamed set is kept by the renamed map
renaming_kept : (v : Renaming) (set renamed_set : Place → Bool) → ((q : Place) → is_place q ≡ true → set q ≡ renamed_set (rotated v q)) → HasOnlyPlaces set → HasOnlyPlaces renamed_set → (e : Place → Place) → KeepsPlaces e →
    Kept set e ↔ Kept renamed_set (λ q. rotated v (e (rotated_back v q)))
renaming_kept v set renamed_set same p p' e keep = (
  (λ kept q q_in.
      let l = p' q q_in in
      let at : is_place (rotated_back v q) ≡ true = back-place v q l in
      sym (same (e (rotated_back v q)) (keep (rotated_back v q) at)) ∙ kept (rotated_back v q) (same (rotated_back v q) at ∙ ap renamed_set (out-back v q l) ∙ q_in)),
  (λ kept q q_in.
      let l : is_place q ≡ true = p q q_in in
      same (e q) (keep q l) ∙ ap (λ z. renamed_set (rotated v (e z))) (sym (back-out v q l)) ∙ kept (rotated v q) (sym (same q l) ∙ q_in)),
)

kept_renamed : (k : Coordinate) (a : Axis) (e : Place → Place) → KeepsPlaces e → Kept (set_of k a) e ↔ Kept (standard_set k a) (renamed_for k a e)
kept_renamed k a e keep = go k a
  where
    by : (v : Renaming) (k : Coordinate) (a : Axis) → tested (Places λ q. Same (set_of k a q) (standard_set k a (rotated v q))) ≡ true → Kept (set_of k a) e ↔ Kept (standard_set k a) (λ q. rotated v (e (rotated_back v q)))
    by v k a test =
        renaming_kept v (set_of k a) (standard_set k a) (holds (Places λ q. Same (set_of k a q) (standard_set k a (rotated v q))) test) (sets_are_places k a) (λ q h. kind_place (kind_for k) q (standard_kind k a q h)) e keep

    go : (k : Coordinate) (a : Axis) → Kept (set_of k a) e ↔ Kept (standard_set k a) (renamed_for k a e)
    go Flip Ud = by XCounter Flip Ud refl
    go Flip Rl = by YQuarter Flip Rl refl
    go Twist Rl = by ZCounter Twist Rl refl
    go Twist Fb = by XQuarter Twist Fb refl
    go Slice Rl = by ZCounter Slice Rl refl
    go Slice Fb = by XQuarter Slice Fb refl
    go Flip Fb = ((λ h. h), (λ h. h))
    go Twist Ud = ((λ h. h), (λ h. h))
    go Slice Ud = ((λ h. h), (λ h. h))

-- in each row one facelet, the s-th, belongs to the set
abbrev pub row_fact : Kind → (Place → Bool) → ℕ → Fact
row_fact k set s = Numbers (count k) λ i. Numbers (facelets k) λ j. Same (set (at k i j)) (j == s)

none_turned : (k : Kind) (s t : ℕ) → s < facelets k → t < facelets k → (s + t) % facelets k ≡ s → t ≡ 0
none_turned Corners s t ls lt e = omega arith
none_turned Edges s t ls lt e = omega arith

-- a set with one facelet in each row is kept where no cubie is turned
module _ (k : Kind) (set : Place → Bool) (inside : (q : Place) → set q ≡ true → is_of k q ≡ true) (s : ℕ) (ls : s < facelets k) (in_set : Holds (row_fact k set s))
    (c : CubieLists) (v : Valid c) (e : Place → Place) (same : SameMap e (map_lists c)) where
  kept-unturned : Kept set e → (i : ℕ) → i < count k → turn_at k c i ≡ 0
  kept-unturned kept i li =
      let h : ℕ = home_at k c i in
      let lh : h < count k = (stand k c v).placed.range i li in
      let there : e (at k h s) ≡ at k i ((s + turn_at k c i) % facelets k) = shown_at k c e same h s lh ls ∙ ap (λ n. at k n ((s + turn_at k c n) % facelets k)) (stands-at k c v i li) in
      none_turned k s (turn_at k c i) ls ((stand k c v).oriented.range i li)
      (eqb-true _ _ (sym (in_set i li _ (low k _)) ∙ ap set (sym there) ∙ kept (at k h s) (in_set h lh s ls ∙ eqb-itself s)))

  unturned-kept : ((i : ℕ) → i < count k → turn_at k c i ≡ 0) → Kept set e
  unturned-kept zeros q q_in =
      let a : Located k q = located k q (inside q q_in) in
      let n : ℕ = place_of k c a.row in
      let ln : n < count k = (stands k c v a.row a.row_below).0 in
      let first : a.index ≡ s = eqb-true _ _ (sym (in_set a.row a.row_below a.index a.index_below) ∙ ap set (sym a.is) ∙ q_in) in
      ap (λ z. set (e z)) (a.is ∙ ap (at k a.row) first)
      ∙ ap set (shown_at k c e same a.row s a.row_below ls ∙ ap (λ t. at k n ((s + t) % facelets k)) (zeros n ln) ∙ ap (at k n) (unturned k s (s + 0) ls (omega arith)))
      ∙ in_set n ln s ls ∙ eqb-itself s

  turns_kept : Kept set e ↔ ((i : ℕ) → i < count k → turn_at k c i ≡ 0)
  turns_kept = (kept-unturned, unturned-kept)

pub slice_at : (h : ℕ) → h < 12 → (j : ℕ) → j < 2 → slice_set Ud (at Edges h j) ≡ nat_le 8 h
slice_at = holds (Numbers 12 λ h. Numbers 2 λ j. Same (slice_set Ud (at Edges h j)) (nat_le 8 h)) refl

-- each place of the slice holds an edge of it, and no other does
abbrev AtHome : List ℕ → Type 0
AtHome edges = (i : ℕ) → i < 12 → nat_le 8 (get_or edges i 0) ≡ nat_le 8 i

slice_home : (i : ℕ) → i < 12 → get_or (map (nat_le 8) edges_home) i false ≡ nat_le 8 i
slice_home = holds (Numbers 12 λ i. Same (get_or (map (nat_le 8) edges_home) i false) (nat_le 8 i)) refl

slice_number_zero : (c : CubieLists) → Valid c → (rank_places (slice_occupied c.edges) 4 ≡ 0) ↔ AtHome c.edges
slice_number_zero c v =
    let at : (i : ℕ) → i < 12 → get_or (map (nat_le 8) c.edges) i false ≡ nat_le 8 (get_or c.edges i 0) =
    λ i l. get_or-map (nat_le 8) c.edges i 0 false (omega (arith, l, v.edges_placed.places)) in
    let len : length (map (nat_le 8) c.edges) ≡ 12 = length-map c.edges (nat_le 8) ∙ v.edges_placed.places in (
      (λ e i l. sym (at i l) ∙ ap (λ os. get_or os i false) (slice-same c home v home-valid e) ∙ slice_home i l),
      (λ h. ap (λ os. rank_places (reverse os) 4) (ext_get_or false (map (nat_le 8) c.edges) (map (nat_le 8) edges_home) len (λ i l.
          at i (omega (arith, l, len)) ∙ h i (omega (arith, l, len)) ∙ sym (slice_home i (omega (arith, l, len)))))),
    )

-- the slice is kept where its edges stand in it
module _ (c : CubieLists) (v : Valid c) (e : Place → Place) (same : SameMap e (map_lists c)) where
  pub goes : (h j : ℕ) → h < 12 → j < 2 → slice_set Ud (e (at Edges h j)) ≡ nat_le 8 (place_of Edges c h)
  goes h j lh lj = ap (slice_set Ud) (shown_at Edges c e same h j lh lj) ∙ slice_at (place_of Edges c h) (stands Edges c v h lh).0 _ (low Edges _)

  home-kept : AtHome c.edges → Kept (slice_set Ud) e
  home-kept home q q_in =
      let a : Located Edges q = located Edges q (and_left _ _ q_in) in
      let there = stands Edges c v a.row a.row_below in
      ap (λ z. slice_set Ud (e z)) a.is ∙ goes a.row a.index a.row_below a.index_below
      ∙ sym (home (place_of Edges c a.row) there.0) ∙ ap (nat_le 8) there.1
      ∙ sym (slice_at a.row a.row_below a.index a.index_below) ∙ ap (slice_set Ud) (sym a.is) ∙ q_in

  kept-home : Kept (slice_set Ud) e → AtHome c.edges
  kept-home kept i l =
      one_if-same _ _ (below_all_same 12 (λ i. one_if (nat_le 8 (get_or c.edges i 0))) (λ i. one_if (nat_le 8 i))
      (λ i li. one_if-at_most _ _ (λ h.
      let n : ℕ = get_or c.edges i 0 in
      let ln : n < 12 = v.edges_placed.range i li in
      ap (nat_le 8) (sym (stands-at Edges c v i li)) ∙ sym (goes n 0 ln (some_facelet Edges)) ∙ kept (at Edges n 0) (slice_at n ln 0 (some_facelet Edges) ∙ h)))
      (below_permuted 12 (λ i. get_or c.edges i 0) (λ h. one_if (nat_le 8 h)) v.edges_placed.range (edge-once c v)) i l)

-- what the cubies of code 0 are
abbrev AtZero : Coordinate → CubieLists → Type 0
AtZero Flip c = (i : ℕ) → i < 12 → get_or c.flips i 0 ≡ 0
AtZero Twist c = (i : ℕ) → i < 8 → get_or c.twists i 0 ≡ 0
AtZero Slice c = AtHome c.edges

code_zero : (k : Coordinate) (c : CubieLists) → Valid c → (code k c ≡ 0) ↔ AtZero k c
code_zero Flip c v = turns_number-zero Edges c.flips v.flips_oriented
code_zero Twist c v = turns_number-zero Corners c.twists v.twists_oriented
code_zero Slice c v = slice_number_zero c v

kept_zero : (k : Coordinate) (a : Axis) (c : CubieLists) → Valid c → (e : Place → Place) → SameMap e (map_lists c) → Kept (standard_set k a) e ↔ AtZero k c
kept_zero Flip Ud c v e same = turns_kept Edges (standard_set Flip Ud) (standard_kind Flip Ud) 1 (omega arith) (holds (row_fact Edges (standard_set Flip Ud) 1) refl) c v e same
kept_zero Flip Rl c v e same = turns_kept Edges (standard_set Flip Rl) (standard_kind Flip Rl) 0 (some_facelet Edges) (holds (row_fact Edges (standard_set Flip Rl) 0) refl) c v e same
kept_zero Flip Fb c v e same = turns_kept Edges (standard_set Flip Fb) (standard_kind Flip Fb) 0 (some_facelet Edges) (holds (row_fact Edges (standard_set Flip Fb) 0) refl) c v e same
kept_zero Twist a c v e same = turns_kept Corners (standard_set Twist a) (standard_kind Twist a) 0 (some_facelet Corners) (holds (row_fact Corners (standard_set Twist a) 0) refl) c v e same
kept_zero Slice a c v e same = (kept-home c v e same, home-kept c v e same)

pub zero-kept : (k : Coordinate) (a : Axis) (c : CubieLists) → Valid c → (rank_of k a (map_lists c) ≡ 0) ↔ Kept (set_of k a) (map_lists c)
zero-kept k a c v =
    let w : CubieLists = cubies_for k a c in
    let wv : Valid w = (renaming k a).valid c v in
    let is : SameMap (map_lists w) (renamed_for k a (map_lists c)) = (renaming k a).map_is c v in
    let number = rank_of-code k a (map_lists c) w wv is in
    let code_is = code_zero k w wv in
    let kept = kept_zero k a w wv (renamed_for k a (map_lists c)) (λ q p. sym (is q p)) in
    let renamed = kept_renamed k a (map_lists c) (map_place c v) in
    ((λ e. renamed.1 (kept.1 (code_is.0 (sym number ∙ e)))), (λ h. number ∙ code_is.1 (kept.0 (renamed.0 h))))

-- A number that is 0 where the set of a coordinate is kept gives the test of the set.
pub zero_test : (k : Coordinate) (a : Axis) (e : Place → Place) (n : ℕ) → (n ≡ 0) ↔ Kept (set_of k a) e → (n == 0) ≡ is_kept (set_of k a) e
zero_test k a e n zero = elim (eqb_tells n 0) [
  | inl w ↦ w.0 ∙ sym ((kept_is_tested (set_of k a) e (sets_are_places k a)).1 (zero.0 w.1))
  | inr w ↦ w.0 ∙ sym (false_from_ne_true (is_kept (set_of k a) e) (λ t. w.1 (zero.1 ((kept_is_tested (set_of k a) e (sets_are_places k a)).0 t))))
]
