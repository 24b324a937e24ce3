-- The bad pieces of a cube: those counted among the cubies of the cube that is renamed for the axis.
use Rattle.std.proofs.lemmas.List.{length-take, get_or-take}
use Rattle.std.proofs.lemmas.List.Sums.{count_by-le-length}
use Rattle.niss_cube.proofs.Words.{◌≡◌, ℕ, suc, zero, ◌+◌, ◌*◌, ◌-◌, ◌%◌, ◌/◌, ◌<◌, ◌≤◌, ◌↔◌, ◌==◌, refl, sym, ◌∙◌, ap, subst}
use Rattle.niss_cube.proofs.Words.{arith, Bool, true, false, not, ◌&&◌, List, length, get_or, take, sum, nat_lt, nat_le}
use Rattle.niss_cube.proofs.Words.{count_by, eq-eqb, eqb-true, same_truth, false_from_ne_true, lt-ltb, Fact, Same, Alike}
use Rattle.niss_cube.proofs.Words.{Both, Numbers, Holds, holds, Place, SameMap, Axis}
use Rattle.niss_cube.proofs.Words.{Ud, Rl, Fb, Cube, Coordinate, Flip, Twist, Slice, set_of}
use Rattle.niss_cube.proofs.Words.{slice_set, map_of, renamed_for}
use Rattle.niss_cube.proofs.Words.{Goal, IsTrue, is_kept, flip_set, twist_set, and_left, and_right}
use Rattle.niss_cube.proofs.Words.{and_both}
use Rattle.niss_cube.specs.BadPieces.{leaving, stickers_in, pieces_in, bad_pieces}
use Rattle.niss_cube.specs.BadPieces.{BadPiecesAreCounted, BadEdgesAreEven, NoCornerAlone, NoneIsBad, GoalsByBadPieces}
use Rattle.niss_cube.specs.Steps.{holds as goal_holds}
use Rattle.niss_cube.specs.declared.step.Goal.TheVariants as goals
use Rattle.niss_cube.proofs.CubieKinds.{CubieLists, Valid, map_lists, lists_of, Kind, Corners, Edges, count, facelets, at, is_of}
use Rattle.niss_cube.proofs.CubieKinds.{turns, home_at, turn_at, place_of, stand, stands, stands-at, once, low, some_facelet}
use Rattle.niss_cube.proofs.CubieKinds.{shown_at, map_place, place_at, number_at}
use Rattle.niss_cube.proofs.Codes.{cubies_for, renaming, standard_set, standard_kind, row_fact, slice_at, goes}
use Rattle.niss_cube.proofs.Codes.{sets_are_places, kept_is_tested}
use Rattle.niss_cube.proofs.MovedCubies.{KeepsPlaces}
use Rattle.niss_cube.proofs.Ranks.{edge-once}
use Rattle.niss_cube.proofs.Sums.{below, one_if, below_same, below_zero, below_times, below_at_most, one_of}
use Rattle.niss_cube.proofs.Sums.{below_permuted, sum_by-below}
use Rattle.niss_cube.proofs.Leaving.{leaves, leaving-places, leaving-none, leaving-standard}

-- the places of a kind by their rows, and the six centres
abbrev row_sum : Kind → (Place → ℕ) → ℕ
row_sum k f = below (count k) (λ h. below (facelets k) (λ j. f (at k h j)))

abbrev centre_sum : (Place → ℕ) → ℕ
centre_sum f = below 6 (λ i. f (place_at (9 * i + 4)))

abbrev row_numbers : Kind → (ℕ → ℕ) → ℕ
row_numbers k g = below (count k) (λ h. below (facelets k) (λ j. g (number_at (at k h j))))

reordered : (g : ℕ → ℕ) → below 54 g ≡ row_numbers Corners g + row_numbers Edges g + below 6 (λ i. g (9 * i + 4))
reordered g = omega arith

numbered : (k : Kind) (h : ℕ) → h < count k → (j : ℕ) → j < facelets k → place_at (number_at (at k h j)) ≡ at k h j
numbered Corners = holds (Numbers 8 λ h. Numbers 3 λ j. Alike (place_at (number_at (at Corners h j))) (at Corners h j)) refl
numbered Edges = holds (Numbers 12 λ h. Numbers 2 λ j. Alike (place_at (number_at (at Edges h j))) (at Edges h j)) refl

row_numbers-are : (k : Kind) (f : Place → ℕ) → row_numbers k (λ n. f (place_at n)) ≡ row_sum k f
row_numbers-are k f =
    below_same (count k) (λ h. below (facelets k) (λ j. f (place_at (number_at (at k h j))))) (λ h. below (facelets k) (λ j. f (at k h j)))
    (λ h lh. below_same (facelets k) (λ j. f (place_at (number_at (at k h j)))) (λ j. f (at k h j)) (λ j lj. ap f (numbered k h lh j lj)))

by_rows : (f : Place → ℕ) → below 54 (λ k. f (place_at k)) ≡ row_sum Corners f + row_sum Edges f + centre_sum f
by_rows f = omega (arith, reordered (λ n. f (place_at n)), row_numbers-are Corners f, row_numbers-are Edges f)

-- No place of one kind is of the other, and no centre of either.
abbrev outside_fact : Kind → Kind → Fact
outside_fact j k = Both (Numbers (count j) λ h. Numbers (facelets j) λ i. Same (is_of k (at j h i)) false)
    (Numbers 6 λ i. Same (is_of k (place_at (9 * i + 4))) false)

module _ (k : Kind) (set : Place → Bool) (inside : (q : Place) → set q ≡ true → is_of k q ≡ true) (e : Place → Place) where
  elsewhere : (q : Place) → is_of k q ≡ false → leaves set e q ≡ 0
  elsewhere q h =
      let no : set q ≡ false = false_from_ne_true (set q) (λ t. absurd (let y : is_of k q ≡ true = inside q t in cc)) in
      ap (λ b. one_if (b && not (set (e q)))) no

  rows_elsewhere : (j : Kind) → Holds (outside_fact j k) → (row_sum j (leaves set e) ≡ 0) × (centre_sum (leaves set e) ≡ 0)
  rows_elsewhere j out = (
    below_same (count j) (λ h. below (facelets j) (λ i. leaves set e (at j h i))) (λ _. 0)
        (λ h lh. below_same (facelets j) (λ i. leaves set e (at j h i)) (λ _. 0) (λ i li. elsewhere (at j h i) (out.0 h lh i li)) ∙ below_zero (facelets j))
        ∙ below_zero (count j),
    below_same 6 (λ i. leaves set e (place_at (9 * i + 4))) (λ _. 0) (λ i li. elsewhere (place_at (9 * i + 4)) (out.1 i li)) ∙ below_zero 6,
  )

pub leaving-rows : (k : Kind) (set : Place → Bool) → ((q : Place) → set q ≡ true → is_of k q ≡ true) → (e : Place → Place) → leaving set e ≡ row_sum k (leaves set e)
leaving-rows Corners set inside e =
    let none = rows_elsewhere Corners set inside e Edges (holds (outside_fact Edges Corners) refl) in
    omega (arith, leaving-places set e, by_rows (leaves set e), none.0, none.1)
leaving-rows Edges set inside e =
    let none = rows_elsewhere Edges set inside e Corners (holds (outside_fact Corners Edges) refl) in
    omega (arith, leaving-places set e, by_rows (leaves set e), none.0, none.1)

-- a sum over the cubies by where they stand is that over the places
pub by_places : (k : Kind) (c : CubieLists) → Valid c → (f : ℕ → ℕ → ℕ) →
    below (count k) (λ h. f h (place_of k c h)) ≡ below (count k) (λ i. f (home_at k c i) i)
by_places k c v f =
    sym (below_permuted (count k) (home_at k c) (λ h. f h (place_of k c h)) (stand k c v).placed.range
    (λ h l. ap (λ n. below n (λ i. one_if (home_at k c i == h))) (sym (stand k c v).placed.places) ∙ once k c v h l))
    ∙ below_same (count k) (λ i. f (home_at k c i) (place_of k c (home_at k c i))) (λ i. f (home_at k c i) i)
    (λ i l. ap (f (home_at k c i)) (stands-at k c v i l))

both_one : (a b : Bool) → one_if (a && b) ≡ one_if a * one_if b
both_one true b = omega arith
both_one false b = omega arith

eqb-swap : (m n : ℕ) → (m == n) ≡ (n == m)
eqb-swap m n = same_truth _ _ (λ t. eq-eqb n m (sym (eqb-true m n t))) (λ t. eq-eqb m n (sym (eqb-true n m t)))

abbrev turned_fact : Kind → Fact
turned_fact k = Numbers (facelets k) λ s. Numbers (facelets k) λ t. Same (not ((s + t) % facelets k == s)) (nat_lt 0 t)

turned_tests : (k : Kind) → Holds (turned_fact k)
turned_tests Corners = holds (turned_fact Corners) refl
turned_tests Edges = holds (turned_fact Edges) refl

-- From a set with one facelet in each row those of the turned cubies leave.
module _ (k : Kind) (set : Place → Bool) (inside : (q : Place) → set q ≡ true → is_of k q ≡ true) (s : ℕ) (ls : s < facelets k) (in_set : Holds (row_fact k set s))
    (c : CubieLists) (v : Valid c) (e : Place → Place) (same : SameMap e (map_lists c)) where
  abbrev is_turned : ℕ → ℕ
  is_turned i = one_if (nat_lt 0 (turn_at k c i))

  leaves-row : (h : ℕ) → h < count k → below (facelets k) (λ j. leaves set e (at k h j)) ≡ one_if (not (set (e (at k h s))))
  leaves-row h l =
      below_same (facelets k) (λ j. leaves set e (at k h j)) (λ j. one_if (s == j) * one_if (not (set (e (at k h j)))))
      (λ j lj.
      ap (λ b. one_if (b && not (set (e (at k h j))))) (in_set h l j lj ∙ eqb-swap j s)
      ∙ both_one (s == j) (not (set (e (at k h j)))))
      ∙ one_of (facelets k) s (λ j. one_if (not (set (e (at k h j))))) ls

  leaves-turned : (h : ℕ) → h < count k → one_if (not (set (e (at k h s)))) ≡ is_turned (place_of k c h)
  leaves-turned h l =
      let n : ℕ = place_of k c h in
      let ln : n < count k = (stands k c v h l).0 in
      ap (λ q. one_if (not (set q))) (shown_at k c e same h s l ls)
      ∙ ap (λ b. one_if (not b)) (in_set n ln _ (low k _))
      ∙ ap one_if (turned_tests k s ls (turn_at k c n) ((stand k c v).oriented.range n ln))

  leaving-turned : leaving set e ≡ count_by (nat_lt 0) (turns k c)
  leaving-turned =
      leaving-rows k set inside e
      ∙ below_same (count k) (λ h. below (facelets k) (λ j. leaves set e (at k h j))) (λ h. is_turned (place_of k c h)) (λ h l. leaves-row h l ∙ leaves-turned h l)
      ∙ by_places k c v (λ h i. is_turned i)
      ∙ ap (λ n. below n is_turned) (sym (stand k c v).oriented.places)
      ∙ sym (sum_by-below (λ t. one_if (nat_lt 0 t)) 0 (turns k c))

-- the edges of the slice at the first eight places
front-slice : (c : CubieLists) → Valid c → count_by (nat_le 8) (take 8 c.edges) ≡ below 8 (λ i. one_if (nat_le 8 (home_at Edges c i)))
front-slice c v =
    let len : length (take 8 c.edges) ≡ 8 = omega (arith, length-take 8 c.edges, v.edges_placed.places) in
    sum_by-below (λ h. one_if (nat_le 8 h)) 0 (take 8 c.edges)
    ∙ ap (λ n. below n (λ i. one_if (nat_le 8 (get_or (take 8 c.edges) i 0)))) len
    ∙ below_same 8 (λ i. one_if (nat_le 8 (get_or (take 8 c.edges) i 0))) (λ i. one_if (nat_le 8 (home_at Edges c i)))
    (λ i l. ap (λ h. one_if (nat_le 8 h)) (get_or-take 8 c.edges i 0 l))

-- From the slice both stickers of its edges at other places leave.
module _ (c : CubieLists) (v : Valid c) (e : Place → Place) (same : SameMap e (map_lists c)) where
  abbrev comes_out : ℕ → ℕ → ℕ
  comes_out h i = one_if (nat_le 8 h && not (nat_le 8 i))

  leaves-slice : (h : ℕ) → h < 12 → below 2 (λ j. leaves (slice_set Ud) e (at Edges h j)) ≡ comes_out h (place_of Edges c h) * 2
  leaves-slice h l =
      let one : (j : ℕ) → j < 2 → leaves (slice_set Ud) e (at Edges h j) ≡ comes_out h (place_of Edges c h) =
      λ j lj.
      ap (λ b. one_if (b && not (slice_set Ud (e (at Edges h j))))) (slice_at h l j lj)
      ∙ ap (λ b. one_if (nat_le 8 h && not b)) (goes c v e same h j l lj) in
      omega (arith, below_same 2 (λ j. leaves (slice_set Ud) e (at Edges h j)) (λ _. comes_out h (place_of Edges c h)) one)

  outside_only : (i : ℕ) → i < 12 → comes_out (home_at Edges c i) i ≡ one_if (not (nat_le 8 i) && nat_le 8 (home_at Edges c i))
  outside_only i l = swapped (nat_le 8 (home_at Edges c i)) (nat_le 8 i)
    where
      swapped : (a b : Bool) → one_if (a && not b) ≡ one_if (not b && a)
      swapped true true = refl
      swapped true false = refl
      swapped false true = refl
      swapped false false = refl

  leaving-slice : leaving (slice_set Ud) e ≡ 2 * count_by (nat_le 8) (take 8 c.edges)
  leaving-slice =
      let rows : leaving (slice_set Ud) e ≡ below 12 (λ h. comes_out h (place_of Edges c h) * 2) =
      leaving-rows Edges (slice_set Ud) (standard_kind Slice Ud) e
      ∙ below_same 12 (λ h. below 2 (λ j. leaves (slice_set Ud) e (at Edges h j))) (λ h. comes_out h (place_of Edges c h) * 2) leaves-slice in
      let placed : below 12 (λ h. comes_out h (place_of Edges c h)) ≡ below 12 (λ i. one_if (not (nat_le 8 i) && nat_le 8 (home_at Edges c i))) =
      by_places Edges c v comes_out
      ∙ below_same 12 (λ i. comes_out (home_at Edges c i) i) (λ i. one_if (not (nat_le 8 i) && nat_le 8 (home_at Edges c i))) outside_only in
      let others : below 12 (λ i. one_if (not (nat_le 8 i) && nat_le 8 (home_at Edges c i))) ≡ below 8 (λ i. one_if (nat_le 8 (home_at Edges c i))) = omega arith in
      omega (arith, rows, below_times 12 (λ h. comes_out h (place_of Edges c h)) 2, placed, others, front-slice c v)

-- how many cubies are bad on the standard axis
abbrev pub bad_cubies : Coordinate → CubieLists → ℕ
bad_cubies Flip c = count_by (nat_lt 0) c.flips
bad_cubies Twist c = count_by (nat_lt 0) c.twists
bad_cubies Slice c = count_by (nat_le 8) (take 8 c.edges)

leaving-cubies : (k : Coordinate) (a : Axis) (c : CubieLists) → Valid c → (e : Place → Place) → SameMap e (map_lists c) → leaving (standard_set k a) e ≡ stickers_in k * bad_cubies k c
leaving-cubies Flip Ud c v e same = leaving-turned Edges (standard_set Flip Ud) (standard_kind Flip Ud) 1 (omega arith) (holds (row_fact Edges (standard_set Flip Ud) 1) refl) c v e same ∙ omega arith
leaving-cubies Flip Rl c v e same = leaving-turned Edges (standard_set Flip Rl) (standard_kind Flip Rl) 0 (some_facelet Edges) (holds (row_fact Edges (standard_set Flip Rl) 0) refl) c v e same ∙ omega arith
leaving-cubies Flip Fb c v e same = leaving-turned Edges (standard_set Flip Fb) (standard_kind Flip Fb) 0 (some_facelet Edges) (holds (row_fact Edges (standard_set Flip Fb) 0) refl) c v e same ∙ omega arith
leaving-cubies Twist a c v e same = leaving-turned Corners (standard_set Twist a) (standard_kind Twist a) 0 (some_facelet Corners) (holds (row_fact Corners (standard_set Twist a) 0) refl) c v e same ∙ omega arith
leaving-cubies Slice a c v e same = leaving-slice c v e same

module _ (k : Coordinate) (a : Axis) (c : CubieLists) (v : Valid c) (e : Place → Place) (keep : KeepsPlaces e) (is : SameMap (map_lists c) (renamed_for k a e)) where
  leaving-is : leaving (set_of k a) e ≡ stickers_in k * bad_cubies k c
  leaving-is = leaving-standard k a e keep ∙ leaving-cubies k a c v (renamed_for k a e) (λ q p. sym (is q p))

  bad_pieces-is : bad_pieces k a e ≡ bad_cubies k c
  unfolding bad_pieces
  bad_pieces-is = ap (λ n. n / stickers_in k) leaving-is ∙ halved k (bad_cubies k c)
    where
      halved : (k : Coordinate) (n : ℕ) → (stickers_in k * n) / stickers_in k ≡ n
      halved Flip n = omega arith
      halved Twist n = omega arith
      halved Slice n = omega arith

bad_cubies-few : (k : Coordinate) (c : CubieLists) → Valid c → bad_cubies k c ≤ pieces_in k
bad_cubies-few Flip c v = omega (arith, count_by-le-length (nat_lt 0) c.flips, v.flips_oriented.places)
bad_cubies-few Twist c v = omega (arith, count_by-le-length (nat_lt 0) c.twists, v.twists_oriented.places)
bad_cubies-few Slice c v =
    let four : below 12 (λ i. one_if (nat_le 8 (home_at Edges c i))) ≡ below 12 (λ h. one_if (nat_le 8 h)) =
    below_permuted 12 (home_at Edges c) (λ h. one_if (nat_le 8 h)) v.edges_placed.range (edge-once c v) in
    let all : below 12 (λ h. one_if (nat_le 8 h)) ≡ 4 = refl in
    omega (arith, front-slice c v, four, all)

module _ (k : Coordinate) (a : Axis) (c : Cube) where
  -- the cubies of the cube that is renamed for the axis
  abbrev here : CubieLists
  here = cubies_for k a (lists_of c)

  here-valid : Valid here
  here-valid = (renaming k a).valid (lists_of c) c.are_cubies

  here-is : bad_pieces k a (map_of c) ≡ bad_cubies k here
  here-is = bad_pieces-is k a here here-valid (map_of c) (map_place (lists_of c) c.are_cubies) ((renaming k a).map_is (lists_of c) c.are_cubies)

  stickers-here : stickers_in k * bad_pieces k a (map_of c) ≡ leaving (set_of k a) (map_of c)
  stickers-here =
      ap (λ n. stickers_in k * n) here-is
      ∙ sym (leaving-is k a here here-valid (map_of c) (map_place (lists_of c) c.are_cubies) ((renaming k a).map_is (lists_of c) c.are_cubies))

no_stickers : (k : Coordinate) (n : ℕ) → (stickers_in k * n ≡ 0) ↔ (n ≡ 0)
no_stickers Flip n = ((λ h. omega arith), (λ h. omega arith))
no_stickers Twist n = ((λ h. omega arith), (λ h. omega arith))
no_stickers Slice n = ((λ h. omega arith), (λ h. omega arith))

pub bad_pieces_are_counted : BadPiecesAreCounted
bad_pieces_are_counted k a c =
    let zero = leaving-none (set_of k a) (sets_are_places k a) (map_of c) in
    let stickers = stickers-here k a c in
    let none = no_stickers k (bad_pieces k a (map_of c)) in record {
      stickers = stickers;
      at_most = subst (λ n. n ≤ pieces_in k) (sym (here-is k a c)) (bad_cubies-few k (here k a c) (here-valid k a c));
      none = ((λ n. zero.0 (sym stickers ∙ none.1 n)), (λ kept. none.0 (stickers ∙ zero.1 kept)));
    }

-- orientations below b: as many as are turned, or more, and at most b - 1 for each
turned_sum : (b : ℕ) (xs : List ℕ) → ((i : ℕ) → i < length xs → get_or xs i 0 < b) → (count_by (nat_lt 0) xs ≤ sum xs) × (sum xs ≤ count_by (nat_lt 0) xs * (b - 1))
turned_sum b xs small =
    let count_is : count_by (nat_lt 0) xs ≡ below (length xs) (λ k. one_if (nat_lt 0 (get_or xs k 0))) = sum_by-below (λ t. one_if (nat_lt 0 t)) 0 xs in
    let sum_is : sum xs ≡ below (length xs) (λ k. get_or xs k 0) = sum_by-below (λ t. t) 0 xs in
    let more : below (length xs) (λ k. one_if (nat_lt 0 (get_or xs k 0))) ≤ below (length xs) (λ k. get_or xs k 0) =
    below_at_most (length xs) (λ k. one_if (nat_lt 0 (get_or xs k 0))) (λ k. get_or xs k 0) (λ k l. some (get_or xs k 0)) in
    let fewer : below (length xs) (λ k. get_or xs k 0) ≤ below (length xs) (λ k. one_if (nat_lt 0 (get_or xs k 0)) * (b - 1)) =
    below_at_most (length xs) (λ k. get_or xs k 0) (λ k. one_if (nat_lt 0 (get_or xs k 0)) * (b - 1)) (λ k l. most (get_or xs k 0) (small k l)) in
    let times : below (length xs) (λ k. one_if (nat_lt 0 (get_or xs k 0)) * (b - 1)) ≡ below (length xs) (λ k. one_if (nat_lt 0 (get_or xs k 0))) * (b - 1) =
    below_times (length xs) (λ k. one_if (nat_lt 0 (get_or xs k 0))) (b - 1) in
    (omega arith, subst (λ n. sum xs ≤ n * (b - 1)) (sym count_is) (omega arith))
  where
    some : (x : ℕ) → one_if (nat_lt 0 x) ≤ x
    some zero = omega arith
    some (suc x) = rw (lt-ltb 0 (suc x) (omega arith)) (omega arith)

    most : (x : ℕ) → x < b → x ≤ one_if (nat_lt 0 x) * (b - 1)
    most zero l = omega arith
    most (suc x) l = rw (lt-ltb 0 (suc x) (omega arith)) (omega arith)

pub bad_edges_are_even : BadEdgesAreEven
bad_edges_are_even a c =
    let v = (here-valid Flip a c).flips_oriented in
    let bounds = turned_sum 2 (here Flip a c).flips (λ i l. v.range i (omega (arith, l, v.places))) in
    omega (arith, here-is Flip a c, bounds.0, bounds.1, v.whole)

pub no_corner_alone : NoCornerAlone
no_corner_alone a c one =
    let v = (here-valid Twist a c).twists_oriented in
    let bounds = turned_sum 3 (here Twist a c).twists (λ i l. v.range i (omega (arith, l, v.places))) in
    omega (arith, here-is Twist a c, bounds.0, bounds.1, v.whole, one)

-- A goal holds where no piece is bad that it asks about.
pub goals_by_bad_pieces : GoalsByBadPieces
goals_by_bad_pieces goal c = go goal
  where
    one : (k : Coordinate) (a : Axis) → (is_kept (set_of k a) (map_of c) ≡ true) ↔ (bad_pieces k a (map_of c) ≡ 0)
    one k a =
        let tested = kept_is_tested (set_of k a) (map_of c) (sets_are_places k a) in
        let bad = bad_pieces_are_counted k a c in
        ((λ h. bad.none.1 (tested.0 h)), (λ n. tested.1 (bad.none.0 n)))

    go : (goal : Goal) → IsTrue (goal_holds goal (map_of c)) ↔ NoneIsBad goal (map_of c)
    go (goals.Edges a) = one Flip a
    go (goals.Domino b a) = (
      (λ h.
          let front = and_left _ _ h in
          ((one Flip b).0 (and_left _ _ front), (one Twist a).0 (and_right (is_kept (flip_set b) (map_of c)) _ front), (one Slice a).0 (and_right (is_kept (flip_set b) (map_of c) && is_kept (twist_set a) (map_of c)) _ h))),
      (λ n. and_both _ _ (and_both _ _ ((one Flip b).1 n.0) ((one Twist a).1 n.1)) ((one Slice a).1 n.2)),
    )
