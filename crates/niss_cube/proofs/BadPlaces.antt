-- Where the bad pieces stand: the stickers at the facelets of a place on the wrong side of a set, by the marks of cubies.
use Rattle.std.proofs.lemmas.List.Sums.{count_by-le-length}
use Rattle.std.proofs.lemmas.Simd.{mask_l-lt, ones-mask_l}
use Rattle.std.specs.Int.RustNames.{count_ones}
use Rattle.std.specs.Prelude.{◌^◌}
use Rattle.std.proofs.lemmas.List.{drop_all}
use Rattle.niss_cube.proofs.Words.{◌≡◌, ℕ, suc, ◌+◌, ◌*◌, ◌-◌, ◌%◌, ◌<◌, ◌≤◌, ◌==◌, refl, sym, ◌∙◌, ap}
use Rattle.niss_cube.proofs.Words.{arith, Bool, true, false, not, ◌&&◌, ◌||◌, List, [], length, get_or, cond, drop, drop-cons}
use Rattle.niss_cube.proofs.Words.{length-drop, slice_index, map, list_any, Any-from_list_any, list_any_at, same_truth, and_left, and_right, and_both}
use Rattle.niss_cube.proofs.Words.{same_place, same_place_is, same_place_of, get_or_default, get_or-map, length-map, ext_get_or}
use Rattle.niss_cube.proofs.Words.{get_or-map-range_with_len, length-map-range_with_len, range_with_len, Fact, Yes, Equal}
use Rattle.niss_cube.proofs.Words.{Below, Both, When, Numbers, Holds, holds, Place, Axis, Ud, Rl, Fb, Cube, Coordinate, Flip}
use Rattle.niss_cube.proofs.Words.{Twist, Slice, set_of, map_of, places, facelet, U, row_at, flips_home}
use Rattle.niss_cube.proofs.Words.{◌∷◌, SameMap, is_place, slice_set, count_by, sum_by-cons}
use Rattle.std.specs.Prelude.{◌↔◌}
use Rattle.niss_cube.specs.Sets.{Kept}
use Rattle.niss_cube.specs.BadPieces.{leaving, stickers_in, bad_pieces}
use Rattle.niss_cube.specs.BadPlaces.{strays, rows_of, bad_places, bad_mask, bad_count, marks_of, turned_away}
use Rattle.niss_cube.specs.BadPlaces.{sides, BadPlacesAreCounted, BadPlacesSeePlaces}
unfoldable use Rattle.niss_cube.specs.BadPlaces.{has_stray}
use Rattle.niss_cube.proofs.CubieKinds.{row_len, CubieLists, Valid, map_lists, lists_of, Kind, Edges, count, facelets, rows}
use Rattle.niss_cube.proofs.CubieKinds.{at, home_at, turn_at, stand, low, rewound, origin, one_to_one, at_number, number_at}
use Rattle.niss_cube.proofs.CubieKinds.{kind_place, facelet_kind, place_of, stands, map_at, of_rank}
use Rattle.niss_cube.proofs.Codes.{kind_for, set_kind}
use Rattle.niss_cube.proofs.Ranks.{edge-once}
use Rattle.niss_cube.proofs.Sums.{below, one_if, below_same, below_add, below_times, below_permuted, sum_by-below}
use Rattle.niss_cube.proofs.Leaving.{leaves}
use Rattle.niss_cube.proofs.BadPieces.{leaving-rows, by_places, bad_pieces_are_counted}
use lib.Lanes.{mask_l}
use mir.Val.{bool_byte}

-- a mask of at most twelve bits, one more bit from the front
pub few_bits : (ms : List Bool) → length ms ≤ 12 → mask_l ms < 4096
few_bits ms l = omega (arith, mask_l-lt ms, powers (length ms) (omega arith))
  where
    powers : (n : ℕ) → n < 13 → 2 ^ n < 4097
    powers = holds (Numbers 13 λ n. Below (2 ^ n) 4097) refl

pub next_bit : (ms : List Bool) (i : ℕ) → i < length ms → mask_l (drop i ms) ≡ cond (get_or ms i false) 1 0 + 2 * mask_l (drop (suc i) ms)
next_bit ms i l = ap mask_l (drop-cons ms i false l)

pub byte_is : (b : Bool) → bool_byte b ≡ cond b 1 0
byte_is true = refl
byte_is false = refl

-- the tests of cubies that are turned away, one by one
pub away-length : (f : ℕ) (homes turns marks : List ℕ) → length (turned_away f homes turns marks) ≡ length homes
away-length f homes turns marks =
    length-map-range_with_len (λ i. not ((slice_index marks (slice_index homes i) + slice_index turns i) % f == slice_index marks i)) 0 (length homes)

away-at : (f : ℕ) (homes turns marks : List ℕ) (i : ℕ) → i < length homes →
    get_or (turned_away f homes turns marks) i false ≡ not ((slice_index marks (slice_index homes i) + slice_index turns i) % f == slice_index marks i)
away-at f homes turns marks i l =
    get_or-map-range_with_len (λ i. not ((slice_index marks (slice_index homes i) + slice_index turns i) % f == slice_index marks i)) 0 (length homes) i i false l (omega arith)

pub no_bits : (n : ℕ) (f : ℕ) (homes turns marks : List ℕ) → length homes ≡ n → 0 ≡ mask_l (drop n (turned_away f homes turns marks))
no_bits n f homes turns marks l =
    sym (ap mask_l (drop_all n (turned_away f homes turns marks) (omega (arith, l, away-length f homes turns marks))))

-- one bit more, if it is that of this place
pub bit_more : (f : ℕ) (homes turns marks : List ℕ) (i mask bit : ℕ) → i < length homes → mask ≡ mask_l (drop (suc i) (turned_away f homes turns marks)) →
    bit ≡ bool_byte (not ((slice_index marks (slice_index homes i) + slice_index turns i) % f == slice_index marks i)) →
    2 * mask + bit ≡ mask_l (drop i (turned_away f homes turns marks))
bit_more f homes turns marks i mask bit l m b =
    let next = next_bit (turned_away f homes turns marks) i (omega (arith, l, away-length f homes turns marks)) in
    let here : bit ≡ cond (get_or (turned_away f homes turns marks) i false) 1 0 =
    b ∙ byte_is _ ∙ ap (λ (t : Bool). cond {A = ℕ} t 1 0) (sym (away-at f homes turns marks i l)) in
    omega (arith, next, here, m)

-- so the mask fits
pub bits_fit : (f : ℕ) (homes turns marks : List ℕ) (i mask : ℕ) → length homes ≤ 12 → mask ≡ mask_l (drop i (turned_away f homes turns marks)) → mask < 4096
bits_fit f homes turns marks i mask l m =
    omega (arith, m, few_bits (drop i (turned_away f homes turns marks)) (omega (arith, l, away-length f homes turns marks, length-drop i (turned_away f homes turns marks))))

-- which of its facelets a cubie or a place has in the set
abbrev mark : Coordinate → Axis → ℕ → ℕ
mark k a h = get_or (marks_of k a) h 0

-- how many marks there are, and by how many a cubie is moved on: one that only stands in a slice or outside by none
abbrev pub modulus : Coordinate → ℕ
modulus Flip = 2
modulus _ = 3

abbrev moved_on : Coordinate → ℕ → ℕ
moved_on Slice t = 0
moved_on _ t = t

abbrev away : Coordinate → Axis → (h t n : ℕ) → Bool
away k a h t n = not ((mark k a h + moved_on k t) % modulus k == mark k a n)

-- whether a sticker is on the wrong side if it began at facelet j of home h and stands at place n, turned by t
abbrev crosses : (Place → Bool) → (from to : Place) → Bool
crosses set p r = (set p && not (set r)) || (not (set p) && set r)

abbrev on_wrong_side : Coordinate → Axis → (h j t n : ℕ) → Bool
on_wrong_side k a h j t n =
    crosses (set_of k a) (at (kind_for k) h j) (at (kind_for k) n ((j + t) % facelets (kind_for k)))

-- a facelet whose sticker is on the wrong side if any of the cubie's is
abbrev telling : Coordinate → Axis → ℕ → ℕ
telling Slice a h = 0
telling k a h = mark k a h

abbrev away_fact : Coordinate → Axis → Fact
away_fact k a =
    Numbers (count (kind_for k)) λ h. Both (Below (telling k a h) (facelets (kind_for k)))
    (Numbers (count (kind_for k)) λ n. Numbers (facelets (kind_for k)) λ t. Both
    (Numbers (facelets (kind_for k)) λ j. When (on_wrong_side k a h j t n) (Yes (away k a h t n)))
    (When (away k a h t n) (Yes (on_wrong_side k a h (telling k a h) t n))))

all_away : (k : Coordinate) (a : Axis) → Holds (away_fact k a)
all_away Flip Ud = holds (away_fact Flip Ud) refl
all_away Flip Rl = holds (away_fact Flip Rl) refl
all_away Flip Fb = holds (away_fact Flip Fb) refl
all_away Twist Ud = holds (away_fact Twist Ud) refl
all_away Twist Rl = holds (away_fact Twist Rl) refl
all_away Twist Fb = holds (away_fact Twist Fb) refl
all_away Slice Ud = holds (away_fact Slice Ud) refl
all_away Slice Rl = holds (away_fact Slice Rl) refl
all_away Slice Fb = holds (away_fact Slice Fb) refl

-- the facelets of one place: a sticker there is on the wrong side if the cubie there is turned away
module _ (k : Coordinate) (a : Axis) (c : CubieLists) (v : Valid c) (n : ℕ) (ln : n < count (kind_for k)) where
  abbrev kind : Kind
  kind = kind_for k

  abbrev here : ℕ
  here = home_at kind c n

  abbrev turn_here : ℕ
  turn_here = turn_at kind c n

  here-below : here < count kind
  here-below = (stand kind c v).placed.range n ln

  turn-below : turn_here < facelets kind
  turn-below = (stand kind c v).oriented.range n ln

  stray_at : (j : ℕ) → j < facelets kind → strays (set_of k a) (map_lists c) (at kind here j) ≡ on_wrong_side k a here j turn_here n
  stray_at j lj = ap (crosses (set_of k a) (at kind here j)) (origin kind c v n _ j ln lj refl)

  stray_away : has_stray (set_of k a) (map_lists c) (row_at (rows kind) n) ≡ true → away k a here turn_here n ≡ true
  unfolding has_stray
  stray_away told =
      let row : List Place = row_at (rows kind) n in
      let m = Any-from_list_any (λ q. list_any (same_place (map_lists c q)) row && strays (set_of k a) (map_lists c) q) places told in
      let q : Place = m.1 in
      let w = Any-from_list_any (same_place (map_lists c q)) row (and_left _ _ m.4) in
      let j : ℕ = w.0 in
      let lj : j < facelets kind = omega (arith, w.2, row_len kind n ln) in
      let j' : ℕ = (facelets kind - turn_here + j) % facelets kind in
      let stands_at : map_lists c q ≡ at kind n j = same_place_is _ _ w.4 ∙ sym (get_or_default row j (facelet U 5) w.1 w.2 ∙ w.3) in
      let from : q ≡ at kind here j' =
      one_to_one c v q (at kind here j') (stands_at ∙ sym (origin kind c v n j j' ln (low kind _) (rewound kind j turn_here lj turn-below))) in
      ((all_away k a here here-below).1 n ln turn_here turn-below).0 j' (low kind _)
      (sym (stray_at j' (low kind _)) ∙ ap (strays (set_of k a) (map_lists c)) (sym from) ∙ and_right (list_any (same_place (map_lists c q)) row) _ m.4)

  away_stray : away k a here turn_here n ≡ true → has_stray (set_of k a) (map_lists c) (row_at (rows kind) n) ≡ true
  unfolding has_stray
  away_stray told =
      let row : List Place = row_at (rows kind) n in
      let j : ℕ = telling k a here in
      let lj : j < facelets kind = (all_away k a here here-below).0 in
      let q : Place = at kind here j in
      let stray : strays (set_of k a) (map_lists c) q ≡ true =
      stray_at j lj ∙ ((all_away k a here here-below).1 n ln turn_here turn-below).1 told in
      let in_row : list_any (same_place (map_lists c q)) row ≡ true =
      list_any_at (same_place (map_lists c q)) row ((j + turn_here) % facelets kind) (facelet U 5) (omega (arith, low kind (j + turn_here), row_len kind n ln))
      (same_place_of _ _ (origin kind c v n _ j ln lj refl)) in
      let number = at_number q (kind_place kind q (facelet_kind kind here j here-below lj)) in
      list_any_at (λ q. list_any (same_place (map_lists c q)) row && strays (set_of k a) (map_lists c) q) places (number_at q) (facelet U 5) number.0
      (ap (λ q. list_any (same_place (map_lists c q)) row && strays (set_of k a) (map_lists c) q) number.1 ∙ and_both _ _ in_row stray)

  stray-is : has_stray (set_of k a) (map_lists c) (row_at (rows kind) n) ≡ away k a here turn_here n
  stray-is = same_truth _ _ stray_away away_stray

rows_are : (k : Coordinate) → rows_of k ≡ rows (kind_for k)
rows_are Flip = refl
rows_are Twist = refl
rows_are Slice = refl

rows_length : (k : Coordinate) → length (rows_of k) ≡ count (kind_for k)
rows_length Flip = refl
rows_length Twist = refl
rows_length Slice = refl

-- which places are bad, one by one
module _ (k : Coordinate) (a : Axis) (c : CubieLists) (v : Valid c) where
  abbrev away_at : ℕ → Bool
  away_at n = away k a (home_at (kind_for k) c n) (turn_at (kind_for k) c n) n

  bad-length : length (bad_places k a (map_lists c)) ≡ count (kind_for k)
  bad-length = length-map (rows_of k) (has_stray (set_of k a) (map_lists c)) ∙ rows_length k

  bad-at : (n : ℕ) → n < count (kind_for k) → get_or (bad_places k a (map_lists c)) n false ≡ away_at n
  bad-at n l =
      get_or-map (has_stray (set_of k a) (map_lists c)) (rows_of k) n [] false (omega (arith, l, rows_length k))
      ∙ ap (λ (all : List (List Place)). has_stray (set_of k a) (map_lists c) (row_at all n)) (rows_are k)
      ∙ stray-is k a c v n l

  -- as a list of tests
  bad-tests : (m : ℕ) (test : ℕ → Bool) → m ≡ count (kind_for k) → ((n : ℕ) → n < count (kind_for k) → away_at n ≡ test n) → bad_places k a (map_lists c) ≡ map test (range_with_len 0 m)
  bad-tests m test is same =
      ext_get_or false (bad_places k a (map_lists c)) (map test (range_with_len 0 m)) (bad-length ∙ sym is ∙ sym (length-map-range_with_len test 0 m)) (λ n l.
      let ln : n < count (kind_for k) = omega (arith, l, bad-length) in
      bad-at n ln ∙ same n ln ∙ sym (get_or-map-range_with_len test 0 m n n false (omega (arith, ln, is)) (omega arith)))

no_turns : (n : ℕ) → n < 12 → get_or flips_home n 0 ≡ 0
no_turns = holds (Numbers 12 λ n. Equal (get_or flips_home n 0) 0) refl

-- of a cube: by its cubies and their marks
pub flips_bad : (a : Axis) (c : Cube) → bad_places Flip a (map_of c) ≡ turned_away 2 c.edges c.flips (marks_of Flip a)
flips_bad a c = bad-tests Flip a (lists_of c) c.are_cubies (length c.edges) _ c.are_cubies.edges_placed.places (λ n l. refl)

pub twists_bad : (a : Axis) (c : Cube) → bad_places Twist a (map_of c) ≡ turned_away 3 c.corners c.twists (marks_of Twist a)
twists_bad a c = bad-tests Twist a (lists_of c) c.are_cubies (length c.corners) _ c.are_cubies.corners_placed.places (λ n l. refl)

pub slices_bad : (a : Axis) (c : Cube) → bad_places Slice a (map_of c) ≡ turned_away 3 c.edges flips_home (marks_of Slice a)
slices_bad a c =
    bad-tests Slice a (lists_of c) c.are_cubies (length c.edges) _ c.are_cubies.edges_placed.places
    (λ n l. ap (λ t. not ((mark Slice a (get_or c.edges n 0) + t) % 3 == mark Slice a n)) (sym (no_turns n l)))

-- Places are bad by the 54 places alone.
stray_seen : (set : Place → Bool) (d e : Place → Place) → SameMap d e → (row : List Place) → has_stray set d row ≡ true → has_stray set e row ≡ true
unfolding has_stray
stray_seen set d e s row told =
    let m = Any-from_list_any (λ q. list_any (same_place (d q)) row && strays set d q) places told in
    let there : get_or places m.0 (facelet U 5) ≡ m.1 = get_or_default places m.0 (facelet U 5) m.1 m.2 ∙ m.3 in
    let place : is_place m.1 ≡ true = ap is_place (sym there) ∙ (of_rank m.0 m.2).1 in
    list_any_at (λ q. list_any (same_place (e q)) row && strays set e q) places m.0 (facelet U 5) m.2
    (ap (λ q. list_any (same_place (e q)) row && strays set e q) there
    ∙ ap (λ r. list_any (same_place r) row && crosses set m.1 r) (sym (s m.1 place)) ∙ m.4)

stray_same : (set : Place → Bool) (d e : Place → Place) → SameMap d e → (row : List Place) → has_stray set d row ≡ has_stray set e row
stray_same set d e s row =
    same_truth _ _ (stray_seen set d e s row) (stray_seen set e d (λ q p. sym (s q p)) row)

strays_same : (set : Place → Bool) (d e : Place → Place) → SameMap d e → (all : List (List Place)) →
    (map (has_stray set d) all ≡ map (has_stray set e) all) × (count_by (has_stray set d) all ≡ count_by (has_stray set e) all)
strays_same set d e s [] = (refl, refl)
strays_same set d e s (row ∷ all) =
    let one = stray_same set d e s row in
    let rest = strays_same set d e s all in (
      ap (λ b. b ∷ map (has_stray set d) all) one ∙ ap (λ bs. has_stray set e row ∷ bs) rest.0,
      sum_by-cons (λ r. one_if (has_stray set d r)) row all
          ∙ ap (λ b. one_if b + count_by (has_stray set d) all) one
          ∙ ap (λ n. one_if (has_stray set e row) + n) rest.1
          ∙ sym (sum_by-cons (λ r. one_if (has_stray set e r)) row all),
    )

pub bad_places_see_places : BadPlacesSeePlaces
bad_places_see_places k a d e s =
    let same = strays_same (set_of k a) d e s (rows_of k) in
    (ap mask_l same.0, same.1)

-- As many bits are set as places are bad, and these are as many as there are bad pieces.
pub ones_are : (k : Coordinate) (a : Axis) (e : Place → Place) → count_ones (bad_mask k a e) ≡ bad_count k a e
ones_are k a e = ones-mask_l (has_stray (set_of k a) e) (rows_of k)

pub at_most_twelve : (k : Coordinate) (a : Axis) (e : Place → Place) → bad_count k a e ≤ 12
at_most_twelve k a e = omega (arith, count_by-le-length (has_stray (set_of k a) e) (rows_of k), few k)
  where
    few : (k : Coordinate) → length (rows_of k) ≤ 12
    few Flip = omega arith
    few Twist = omega arith
    few Slice = omega arith

-- how many places have a cubie that is turned away
count-away : (k : Coordinate) (a : Axis) (c : CubieLists) (v : Valid c) → bad_count k a (map_lists c) ≡ below (count (kind_for k)) (λ n. one_if (away_at k a c v n))
count-away k a c v =
    sum_by-below (λ row. one_if (has_stray (set_of k a) (map_lists c) row)) [] (rows_of k)
    ∙ ap (λ m. below m (λ n. one_if (has_stray (set_of k a) (map_lists c) (row_at (rows_of k) n)))) (rows_length k)
    ∙ below_same (count (kind_for k)) (λ n. one_if (has_stray (set_of k a) (map_lists c) (row_at (rows_of k) n))) (λ n. one_if (away_at k a c v n))
    (λ n l. ap one_if (ap (λ (all : List (List Place)). has_stray (set_of k a) (map_lists c) (row_at all n)) (rows_are k) ∙ stray-is k a c v n l))

-- how many stickers of a cubie leave the set if it stands at place n, turned by t
abbrev leaving_row : Coordinate → Axis → (h t n : ℕ) → ℕ
leaving_row k a h t n =
    below (facelets (kind_for k)) (λ j. one_if (set_of k a (at (kind_for k) h j) && not (set_of k a (at (kind_for k) n ((j + t) % facelets (kind_for k))))))

-- whether an edge of the slice stands outside, and whether another edge stands in it
abbrev goes_out : Axis → (h n : ℕ) → ℕ
goes_out a h n = one_if (slice_set a (at Edges h 0) && not (slice_set a (at Edges n 0)))

abbrev comes_in : Axis → (h n : ℕ) → ℕ
comes_in a h n = one_if (not (slice_set a (at Edges h 0)) && slice_set a (at Edges n 0))

abbrev row_is : Coordinate → Axis → (h t n : ℕ) → ℕ
row_is Slice a h t n = goes_out a h n * 2
row_is k a h t n = one_if (away k a h t n)

abbrev leaving_fact : Coordinate → Axis → Fact
leaving_fact k a =
    Numbers (count (kind_for k)) λ h. Numbers (count (kind_for k)) λ n. Numbers (facelets (kind_for k)) λ t. Equal (leaving_row k a h t n) (row_is k a h t n)

all_leaving : (k : Coordinate) (a : Axis) → Holds (leaving_fact k a)
all_leaving Flip Ud = holds (leaving_fact Flip Ud) refl
all_leaving Flip Rl = holds (leaving_fact Flip Rl) refl
all_leaving Flip Fb = holds (leaving_fact Flip Fb) refl
all_leaving Twist Ud = holds (leaving_fact Twist Ud) refl
all_leaving Twist Rl = holds (leaving_fact Twist Rl) refl
all_leaving Twist Fb = holds (leaving_fact Twist Fb) refl
all_leaving Slice Ud = holds (leaving_fact Slice Ud) refl
all_leaving Slice Rl = holds (leaving_fact Slice Rl) refl
all_leaving Slice Fb = holds (leaving_fact Slice Fb) refl

leaving-each : (k : Coordinate) (a : Axis) (c : CubieLists) (v : Valid c) → leaving (set_of k a) (map_lists c) ≡ below (count (kind_for k)) (λ n. row_is k a (home_at (kind_for k) c n) (turn_at (kind_for k) c n) n)
leaving-each k a c v =
    let kind : Kind = kind_for k in
    leaving-rows kind (set_of k a) (set_kind k a) (map_lists c)
    ∙ below_same (count kind) (λ h. below (facelets kind) (λ j. leaves (set_of k a) (map_lists c) (at kind h j))) (λ h. row_is k a h (turn_at kind c (place_of kind c h)) (place_of kind c h))
    (λ h l.
    let n : ℕ = place_of kind c h in
    let ln : n < count kind = (stands kind c v h l).0 in
    below_same (facelets kind) (λ j. leaves (set_of k a) (map_lists c) (at kind h j)) (λ j. one_if (set_of k a (at kind h j) && not (set_of k a (at kind n ((j + turn_at kind c n) % facelets kind)))))
    (λ j lj. ap (λ r. one_if (set_of k a (at kind h j) && not (set_of k a r))) (map_at kind c h j l lj))
    ∙ all_leaving k a h l n ln (turn_at kind c n) ((stand kind c v).oriented.range n ln))
    ∙ by_places kind c v (λ h n. row_is k a h (turn_at kind c n) n)

-- Through a slice's border as many edges go out as come in.
abbrev border_fact : Axis → Fact
border_fact a = Numbers 12 λ h. Numbers 12 λ n. Equal (one_if (away Slice a h 0 n)) (goes_out a h n + comes_in a h n)

all_borders : (a : Axis) → Holds (border_fact a)
all_borders Ud = holds (border_fact Ud) refl
all_borders Rl = holds (border_fact Rl) refl
all_borders Fb = holds (border_fact Fb) refl

crossed : (a b : Bool) → one_if (a && not b) + one_if b ≡ one_if (not a && b) + one_if a
crossed true true = refl
crossed true false = refl
crossed false true = refl
crossed false false = refl

out-in : (a : Axis) (c : CubieLists) (v : Valid c) → below 12 (λ n. goes_out a (home_at Edges c n) n) ≡ below 12 (λ n. comes_in a (home_at Edges c n) n)
out-in a c v =
    let in_slice : ℕ → ℕ = λ n. one_if (slice_set a (at Edges n 0)) in
    let out : ℕ → ℕ = λ n. goes_out a (home_at Edges c n) n in
    let come : ℕ → ℕ = λ n. comes_in a (home_at Edges c n) n in
    let home : ℕ → ℕ = λ n. in_slice (home_at Edges c n) in
    let same : below 12 home ≡ below 12 in_slice = below_permuted 12 (home_at Edges c) in_slice v.edges_placed.range (edge-once c v) in
    let both : below 12 (λ n. out n + in_slice n) ≡ below 12 (λ n. come n + home n) =
    below_same 12 (λ n. out n + in_slice n) (λ n. come n + home n) (λ n l. crossed (slice_set a (at Edges (home_at Edges c n) 0)) (slice_set a (at Edges n 0))) in
    omega (arith, both, below_add 12 out in_slice, below_add 12 come home, same)

-- the places that a sticker leaves are those that are bad
count-leaving : (k : Coordinate) (a : Axis) (c : CubieLists) (v : Valid c) → bad_count k a (map_lists c) ≡ leaving (set_of k a) (map_lists c)
count-leaving Flip a c v = count-away Flip a c v ∙ sym (leaving-each Flip a c v)
count-leaving Twist a c v = count-away Twist a c v ∙ sym (leaving-each Twist a c v)
count-leaving Slice a c v =
    let out : ℕ → ℕ = λ n. goes_out a (home_at Edges c n) n in
    let come : ℕ → ℕ = λ n. comes_in a (home_at Edges c n) n in
    let each : below 12 (λ n. one_if (away_at Slice a c v n)) ≡ below 12 (λ n. out n + come n) =
    below_same 12 (λ n. one_if (away_at Slice a c v n)) (λ n. out n + come n) (λ n l. all_borders a (home_at Edges c n) (v.edges_placed.range n l) n l) in
    omega (arith, count-away Slice a c v, each, below_add 12 out come, out-in a c v, leaving-each Slice a c v, below_times 12 out 2)

pub bad_places_are_counted : BadPlacesAreCounted
bad_places_are_counted k a c = count-leaving k a (lists_of c) c.are_cubies ∙ sym (bad_pieces_are_counted k a c).stickers ∙ by k
  where
    by : (k : Coordinate) → stickers_in k * bad_pieces k a (map_of c) ≡ sides k * bad_pieces k a (map_of c)
    by Flip = refl
    by Twist = refl
    by Slice = refl

-- No place is bad exactly if the coordinate's set is kept.
pub none_bad : (k : Coordinate) (a : Axis) (c : Cube) → (bad_count k a (map_of c) ≡ 0) ↔ Kept (set_of k a) (map_of c)
none_bad k a c =
    let counted = bad_places_are_counted k a c in
    let none = (bad_pieces_are_counted k a c).none in
    (λ e. none.0 (no_sides k _ (sym counted ∙ e)), λ kept. counted ∙ ap (λ (n : ℕ). sides k * n) (none.1 kept) ∙ of_none k)
  where
    no_sides : (k : Coordinate) (n : ℕ) → sides k * n ≡ 0 → n ≡ 0
    no_sides Flip n e = omega (arith, e)
    no_sides Twist n e = omega (arith, e)
    no_sides Slice n e = omega (arith, e)

    of_none : (k : Coordinate) → sides k * 0 ≡ 0
    of_none Flip = refl
    of_none Twist = refl
    of_none Slice = refl
