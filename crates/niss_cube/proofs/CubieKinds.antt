-- Corners and edges as two kinds of cubies: what holds of both, and where the map of cubies brings their facelets, as a permutation.
use Rattle.niss_cube.proofs.Words.{and_left, Fact, Yes, Same, Equal, Below, Alike, Both, When, Numbers, Places, Holds}
use Rattle.niss_cube.proofs.Words.{holds, refl, sym, ◌∙◌, ap, arith, inl, inr, ◌≡◌, ℕ, ◌+◌, ◌-◌, ◌%◌, ◌<◌, List, length}
use Rattle.niss_cube.proofs.Words.{get_or, Bool, true, false, ◌⊎◌, list_any, Place, same_place, is_place, is_corner}
use Rattle.niss_cube.proofs.Words.{is_edge, SameMap, index_in, row_at, facelet_at, corner_facelets, edge_facelets}
use Rattle.niss_cube.proofs.Words.{sticker_place, cases_Bool, ArePlaced, AreOriented, Cube, map, slice_index}
use Rattle.niss_cube.proofs.Words.{range_with_len, ext_get_or, sticker_map, EachIndex, get_or-map-range_with_len}
use Rattle.niss_cube.proofs.Words.{length-map-range_with_len, AreCubies, ◌*◌, ◌==◌, eq-eqb, eqb-true, same_truth}
use Rattle.niss_cube.proofs.Words.{places, facelet, U, Kept, PermutesPlaces, CubesPermutePlaces, KeptIsEqual, set}
use Rattle.niss_cube.proofs.Words.{eqb_tells, subst}
use Rattle.std.proofs.lemmas.List.{get_or-set_same, get_or-set_other}
use Rattle.niss_cube.proofs.Sums.{times_in, place_in, place_in-found, place_in-is, count_by-times, one_if-same, below}
use Rattle.niss_cube.proofs.Sums.{below_same, below_permuted, one_if, one_of, below_all_same, one_if-at_most}

pub record CubieLists : Type 0 where
  pub corners : List ℕ
  pub twists : List ℕ
  pub edges : List ℕ
  pub flips : List ℕ

pub lists_path : (c d : CubieLists) → c.corners ≡ d.corners → c.twists ≡ d.twists → c.edges ≡ d.edges → c.flips ≡ d.flips → c ≡ d
lists_path c d p q r s = λ i. record { corners = p i; twists = q i; edges = r i; flips = s i }

abbrev pub Valid : CubieLists → Type 0
Valid c = AreCubies c.corners c.twists c.edges c.flips

abbrev pub map_lists : CubieLists → Place → Place
map_lists c = sticker_map c.corners c.twists c.edges c.flips

-- the lists of a cube, and the cube of lists
abbrev pub lists_of : Cube → CubieLists
lists_of c = record { corners = c.corners; twists = c.twists; edges = c.edges; flips = c.flips }

abbrev pub cube_of : (c : CubieLists) → Valid c → Cube
cube_of c v = record { corners = c.corners; twists = c.twists; edges = c.edges; flips = c.flips; are_cubies = v }

-- the n values of a function from 0 on
unfoldable pub tabulated : ℕ → (ℕ → ℕ) → List ℕ
tabulated n f = map f (range_with_len 0 n)

pub tabulated-length : (n : ℕ) (f : ℕ → ℕ) → length (tabulated n f) ≡ n
unfolding tabulated
tabulated-length n f = length-map-range_with_len f 0 n

pub tabulated-at : (n : ℕ) (f : ℕ → ℕ) (i : ℕ) → i < n → get_or (tabulated n f) i 0 ≡ f i
unfolding tabulated
tabulated-at n f i l = get_or-map-range_with_len f 0 n i i 0 l (omega arith)

-- a list that was written so
pub tabulated-is : (n : ℕ) (f : ℕ → ℕ) (xs : List ℕ) → length xs ≡ n → EachIndex xs (λ i. slice_index xs i ≡ f i) → xs ≡ tabulated n f
tabulated-is n f xs l h = ext_get_or 0 xs (tabulated n f) (l ∙ sym (tabulated-length n f)) (λ i li. h i li ∙ sym (tabulated-at n f i (omega (arith, li, l))))

-- a list that is written from the front, with one more
pub written_more : {A : Type 0} (P : ℕ → A → Type 0) (xs : List A) (n : ℕ) (x d : A) → n < length xs → P n x →
    ((i : ℕ) → i < n → P i (get_or xs i d)) → (i : ℕ) → i < n + 1 → P i (get_or (set xs n x) i d)
written_more P xs n x d l here before i li = elim (eqb_tells i n) [
  | inl w ↦ subst (λ k. P k (get_or (set xs n x) k d)) (sym w.1) (subst (P n) (sym (get_or-set_same xs n x d l)) here)
  | inr w ↦ subst (P i) (sym (get_or-set_other xs n i x d w.1)) (before i (grind (arith, w.1)))
]

-- what comes to a place from the one that a table names
abbrev pub brought : (from xs : List ℕ) → ℕ → ℕ
brought from xs i = slice_index xs (slice_index from i)

pub data Kind : Type 0 where
  Corners : Kind
  Edges : Kind

-- how many there are, how many facelets each has, and which they are
abbrev pub count : Kind → ℕ
count Corners = 8
count Edges = 12

abbrev pub facelets : Kind → ℕ
facelets Corners = 3
facelets Edges = 2

abbrev pub rows : Kind → List (List Place)
rows Corners = corner_facelets
rows Edges = edge_facelets

pub row_len : (k : Kind) (i : ℕ) → i < count k → length (row_at (rows k) i) ≡ facelets k
row_len Corners = holds (Numbers 8 λ i. Equal (length (row_at (rows Corners) i)) 3) refl
row_len Edges = holds (Numbers 12 λ i. Equal (length (row_at (rows Edges) i)) 2) refl

abbrev pub at : Kind → ℕ → ℕ → Place
at k i j = facelet_at (rows k) i j

abbrev pub is_of : Kind → Place → Bool
is_of Corners = is_corner
is_of Edges = is_edge

-- which of them stands at each place, and how it is turned there
abbrev pub homes : Kind → CubieLists → List ℕ
homes Corners c = c.corners
homes Edges c = c.edges

abbrev pub turns : Kind → CubieLists → List ℕ
turns Corners c = c.twists
turns Edges c = c.flips

abbrev pub home_at : Kind → CubieLists → ℕ → ℕ
home_at k c i = get_or (homes k c) i 0

abbrev pub turn_at : Kind → CubieLists → ℕ → ℕ
turn_at k c i = get_or (turns k c) i 0

abbrev pub place_of : Kind → CubieLists → ℕ → ℕ
place_of k c h = place_in (homes k c) h

-- what valid cubies are, by the kind
pub record Stand (k : Kind) (c : CubieLists) : Type 0 where
  pub placed : ArePlaced (count k) (homes k c)
  pub oriented : AreOriented (facelets k) (count k) (turns k c)

pub stand : (k : Kind) (c : CubieLists) → Valid c → Stand k c
stand Corners c v = record { placed = v.corners_placed; oriented = v.twists_oriented }
stand Edges c v = record { placed = v.edges_placed; oriented = v.flips_oriented }

pub once : (k : Kind) (c : CubieLists) → Valid c → (h : ℕ) → h < count k → times_in (homes k c) h ≡ 1
once k c v h l = sym (count_by-times (homes k c) h) ∙ (stand k c v).placed.each h l

pub standing-valid : (c : CubieLists) → ((k : Kind) → Stand k c) → Valid c
standing-valid c s = record {
  corners_placed = (s Corners).placed;
  twists_oriented = (s Corners).oriented;
  edges_placed = (s Edges).placed;
  flips_oriented = (s Edges).oriented;
}

-- remainders by the number of facelets
pub low : (k : Kind) (a : ℕ) → a % facelets k < facelets k
low Corners a = omega arith
low Edges a = omega arith

pub cancelled : (k : Kind) (t x y : ℕ) → x < facelets k → y < facelets k → (x + t) % facelets k ≡ (y + t) % facelets k → x ≡ y
cancelled Corners t x y lx ly e = omega arith
cancelled Edges t x y lx ly e = omega arith

pub rewound : (k : Kind) (j t : ℕ) → j < facelets k → t < facelets k → ((facelets k - t + j) % facelets k + t) % facelets k ≡ j
rewound Corners j t lj lt = omega arith
rewound Edges j t lj lt = omega arith

pub unturned : (k : Kind) (j x : ℕ) → j < facelets k → x ≡ j → x % facelets k ≡ j
unturned Corners j x l e = omega arith
unturned Edges j x l e = omega arith

pub some_facelet : (k : Kind) → 0 < facelets k
some_facelet Corners = omega arith
some_facelet Edges = omega arith

-- the sets of places of the kinds
pub kind_place : (k : Kind) (q : Place) → is_of k q ≡ true → is_place q ≡ true
kind_place Corners q h = and_left (is_place q) _ (and_left _ _ (and_left _ _ h))
kind_place Edges q h = and_left (is_place q) _ h

pub no_corner : (q : Place) → is_edge q ≡ true → is_corner q ≡ false
no_corner q h = holds (Places λ q. When (is_edge q) (Same (is_corner q) false)) refl q (kind_place Edges q h) h

no_edge : (q : Place) → is_corner q ≡ true → is_edge q ≡ false
no_edge q h = holds (Places λ q. When (is_corner q) (Same (is_edge q) false)) refl q (kind_place Corners q h) h

alike : (j k : Kind) (p q : Place) → is_of j p ≡ true → is_of j q ≡ true → is_of k p ≡ is_of k q
alike Corners Corners p q a b = a ∙ sym b
alike Corners Edges p q a b = no_edge p a ∙ sym (no_edge q b)
alike Edges Corners p q a b = no_corner p a ∙ sym (no_corner q b)
alike Edges Edges p q a b = a ∙ sym b

-- a place is of a kind, or a centre
pub kind_of : (q : Place) → ((k : Kind) × (is_of k q ≡ true)) ⊎ ((is_corner q ≡ false) × (is_edge q ≡ false))
kind_of q = elim (cases_Bool (is_corner q)) [
  | inl w ↦ inl (Corners, w)
  | inr w ↦ elim (cases_Bool (is_edge q)) [
    | inl u ↦ inl (Edges, u)
    | inr u ↦ inr (w, u)
  ]
]

-- each facelet is found by its row and its index
abbrev pub row_of : Kind → Place → ℕ
row_of k q = index_in (λ row. list_any (same_place q) row) (rows k)

abbrev pub index_of : Kind → Place → ℕ
index_of k q = index_in (same_place q) (row_at (rows k) (row_of k q))

abbrev facelet_fact : Kind → Fact
facelet_fact k = Numbers (count k) λ i. Numbers (facelets k) λ j.
    Both (Equal (row_of k (at k i j)) i) (Both (Equal (index_of k (at k i j)) j) (Yes (is_of k (at k i j))))

found : (k : Kind) → Holds (facelet_fact k)
found Corners = holds (facelet_fact Corners) refl
found Edges = holds (facelet_fact Edges) refl

pub facelet_kind : (k : Kind) (i j : ℕ) → i < count k → j < facelets k → is_of k (at k i j) ≡ true
facelet_kind k i j li lj = (found k i li j lj).1.1

pub same_facelet : (k : Kind) (i j i' j' : ℕ) → i < count k → j < facelets k → i' < count k → j' < facelets k → at k i j ≡ at k i' j' → (i ≡ i') × (j ≡ j')
same_facelet k i j i' j' li lj li' lj' e =
    let f = found k i li j lj in
    let g = found k i' li' j' lj' in
    (sym f.0 ∙ ap (row_of k) e ∙ g.0, sym f.1.0 ∙ ap (index_of k) e ∙ g.1.0)

-- each place of a kind is a facelet of it
abbrev located_fact : Kind → Fact
located_fact k = Places λ q.
    When (is_of k q) (Both (Below (row_of k q) (count k)) (Both (Below (index_of k q) (facelets k)) (Alike q (at k (row_of k q) (index_of k q)))))

all_located : (k : Kind) → Holds (located_fact k)
all_located Corners = holds (located_fact Corners) refl
all_located Edges = holds (located_fact Edges) refl

pub record Located (k : Kind) (q : Place) : Type 0 where
  pub row : ℕ
  pub index : ℕ
  pub row_below : row < count k
  pub index_below : index < facelets k
  pub is : q ≡ at k row index

pub located : (k : Kind) (q : Place) → is_of k q ≡ true → Located k q
located k q h =
    let t = all_located k q (kind_place k q h) h in
    record { row = row_of k q; index = index_of k q; row_below = t.0; index_below = t.1.0; is = t.1.1 }

-- where the map of cubies brings the facelets, and the centres
map_is : (k : Kind) (c : CubieLists) (q : Place) → is_of k q ≡ true → map_lists c q ≡ sticker_place (facelets k) (rows k) (homes k c) (turns k c) q
map_is Corners c q h = rw h refl
map_is Edges c q h = rw (no_corner q h, h) refl

pub map_at : (k : Kind) (c : CubieLists) (h j : ℕ) → h < count k → j < facelets k → map_lists c (at k h j) ≡ at k (place_of k c h) ((j + turn_at k c (place_of k c h)) % facelets k)
map_at k c h j lh lj =
    let f = found k h lh j lj in
    map_is k c (at k h j) f.1.1
    ∙ ap (λ r. at k (place_of k c r) ((index_of k (at k h j) + turn_at k c (place_of k c r)) % facelets k)) f.0
    ∙ ap (λ i. at k (place_of k c h) ((i + turn_at k c (place_of k c h)) % facelets k)) f.1.0

-- the same of a map that is theirs on the places
pub shown_at : (k : Kind) (c : CubieLists) (e : Place → Place) → SameMap e (map_lists c) → (h j : ℕ) → h < count k → j < facelets k → e (at k h j) ≡ at k (place_of k c h) ((j + turn_at k c (place_of k c h)) % facelets k)
shown_at k c e same h j lh lj = same (at k h j) (kind_place k _ (facelet_kind k h j lh lj)) ∙ map_at k c h j lh lj

pub centre_stays : (c : CubieLists) (q : Place) → is_corner q ≡ false → is_edge q ≡ false → map_lists c q ≡ q
centre_stays c q w u = rw (w, u) refl

module _ (k : Kind) (c : CubieLists) (v : Valid c) where
  -- each stands at one place
  pub stands : (h : ℕ) → h < count k → (place_of k c h < count k) × (home_at k c (place_of k c h) ≡ h)
  stands h l =
      let s : Stand k c = stand k c v in
      let r : (place_of k c h < length (homes k c)) × (home_at k c (place_of k c h) ≡ h) = place_in-found (homes k c) h (omega (arith, once k c v h l)) in
      (omega (arith, r.0, s.placed.places), r.1)

  pub stands-at : (i : ℕ) → i < count k → place_of k c (home_at k c i) ≡ i
  stands-at i l =
      let s : Stand k c = stand k c v in
      place_in-is (homes k c) (home_at k c i) i (once k c v _ (s.placed.range i l)) (omega (arith, l, s.placed.places)) refl

  -- the facelet that stands at facelet j of place i
  pub origin : (i j j' : ℕ) → i < count k → j' < facelets k → (j' + turn_at k c i) % facelets k ≡ j → map_lists c (at k (home_at k c i) j') ≡ at k i j
  origin i j j' li lj e =
      map_at k c (home_at k c i) j' ((stand k c v).placed.range i li) lj
      ∙ ap (λ x. at k x ((j' + turn_at k c x) % facelets k)) (stands-at i li)
      ∙ ap (at k i) e

  facelets_apart : (h j i m : ℕ) → h < count k → j < facelets k → i < count k → m < facelets k → map_lists c (at k h j) ≡ map_lists c (at k i m) → (h ≡ i) × (j ≡ m)
  facelets_apart h j i m lh lj li lm e =
      let a = stands h lh in
      let b = stands i li in
      let s = same_facelet k (place_of k c h) ((j + turn_at k c (place_of k c h)) % facelets k) (place_of k c i) ((m + turn_at k c (place_of k c i)) % facelets k) a.0 (low k _) b.0 (low k _)
      (sym (map_at k c h j lh lj) ∙ e ∙ map_at k c i m li lm) in (
        sym a.1 ∙ ap (home_at k c) s.0 ∙ b.1,
        cancelled k (turn_at k c (place_of k c h)) j m lj lm (s.1 ∙ ap (λ x. (m + turn_at k c x) % facelets k) (sym s.0)),
      )

  kept_kind : (q : Place) → is_of k q ≡ true → is_of k (map_lists c q) ≡ true
  kept_kind q h =
      let a : Located k q = located k q h in
      ap (λ z. is_of k (map_lists c z)) a.is
      ∙ ap (is_of k) (map_at k c a.row a.index a.row_below a.index_below)
      ∙ facelet_kind k _ _ (stands a.row a.row_below).0 (low k _)

-- the map keeps the kinds, and brings no two places to one
module _ (c : CubieLists) (v : Valid c) where
  same_kind : (k : Kind) (q : Place) → is_of k (map_lists c q) ≡ is_of k q
  same_kind k q = elim (kind_of q) [
    | inl w ↦ alike w.0 k (map_lists c q) q (kept_kind w.0 c v q w.1) w.1
    | inr w ↦ ap (is_of k) (centre_stays c q w.0 w.1)
  ]

  pub map_place : (q : Place) → is_place q ≡ true → is_place (map_lists c q) ≡ true
  map_place q p = elim (kind_of q) [
    | inl w ↦ kind_place w.0 (map_lists c q) (kept_kind w.0 c v q w.1)
    | inr w ↦ ap is_place (centre_stays c q w.0 w.1) ∙ p
  ]

  pub one_to_one : (p q : Place) → map_lists c p ≡ map_lists c q → p ≡ q
  one_to_one p q e = elim (kind_of p) [
    | inl w ↦
        let k : Kind = w.0 in
        let a : Located k p = located k p w.1 in
        let b : Located k q = located k q (sym (same_kind k q) ∙ ap (is_of k) (sym e) ∙ same_kind k p ∙ w.1) in
        let s = facelets_apart k c v a.row a.index b.row b.index a.row_below a.index_below b.row_below b.index_below
        (ap (map_lists c) (sym a.is) ∙ e ∙ ap (map_lists c) b.is) in
        a.is ∙ ap (λ h. at k h a.index) s.0 ∙ ap (at k b.row) s.1 ∙ sym b.is
    | inr w ↦
        let other : (k : Kind) → is_of k p ≡ false → is_of k q ≡ false = λ k n. sym (same_kind k q) ∙ ap (is_of k) (sym e) ∙ same_kind k p ∙ n in
        sym (centre_stays c p w.0 w.1) ∙ e ∙ centre_stays c q (other Corners w.0) (other Edges w.1)
  ]

module _ (c : CubieLists) (v : Valid c) where
  onto : (q : Place) → is_place q ≡ true → (p : Place) × (is_place p ≡ true) × (map_lists c p ≡ q)
  onto q l = elim (kind_of q) [
    | inl w ↦
        let k : Kind = w.0 in
        let a : Located k q = located k q w.1 in
        let s : Stand k c = stand k c v in
        let h : ℕ = home_at k c a.row in
        let t : ℕ = turn_at k c a.row in
        let j : ℕ = (facelets k - t + a.index) % facelets k in (
          at k h j,
          kind_place k (at k h j) (facelet_kind k h j (s.placed.range a.row a.row_below) (low k _)),
          origin k c v a.row a.index j a.row_below (low k _) (rewound k a.index t a.index_below (s.oriented.range a.row a.row_below)) ∙ sym a.is,
        )
    | inr w ↦ (q, l, centre_stays c q w.0 w.1)
  ]

  pub permutes : PermutesPlaces (map_lists c)
  permutes = record { to_places = map_place c v; one_to_one = λ p q lp lq. one_to_one c v p q; onto = onto }

pub cubes_permute_places : CubesPermutePlaces
cubes_permute_places c = permutes (lists_of c) c.are_cubies

-- the places by number
abbrev pub place_at : ℕ → Place
place_at k = get_or places k (facelet U 5)

abbrev pub number_at : Place → ℕ
number_at q = index_in (same_place q) places

pub at_number : (q : Place) → is_place q ≡ true → (number_at q < 54) × (place_at (number_at q) ≡ q)
at_number = holds (Places λ q. Both (Below (number_at q) 54) (Alike (place_at (number_at q)) q)) refl

pub of_rank : (k : ℕ) → k < 54 → (number_at (place_at k) ≡ k) × (is_place (place_at k) ≡ true)
of_rank = holds (Numbers 54 λ k. Both (Equal (number_at (place_at k)) k) (Yes (is_place (place_at k)))) refl

-- a numbering of the places, and a map that permutes them
module _ (n : ℕ) (nth : ℕ → Place) (number : Place → ℕ) (numbers : (q : Place) → is_place q ≡ true → (number q < n) × (nth (number q) ≡ q)) (each : (k : ℕ) → k < n → (number (nth k) ≡ k) × (is_place (nth k) ≡ true))
    (e : Place → Place) (permuted : PermutesPlaces e) where
  after_place : (k : ℕ) → k < n → is_place (e (nth k)) ≡ true
  after_place k l = permuted.to_places (nth k) (each k l).1

  after_once : (h : ℕ) → h < n → below n (λ k. one_if (number (e (nth k)) == h)) ≡ 1
  after_once h l =
      let from = permuted.onto (nth h) (each h l).1 in
      let p : Place = from.0 in
      let x : ℕ = number p in
      let px = numbers p from.1 in
      let there : number (e (nth x)) ≡ h = ap (λ z. number (e z)) px.1 ∙ ap number from.2 ∙ (each h l).0 in
      below_same n (λ k. one_if (number (e (nth k)) == h)) (λ k. one_if (x == k) * 1) (λ k lk.
      ap one_if (same_truth _ _
      (λ t. eq-eqb x k (ap number (sym (permuted.one_to_one (nth k) p (each k lk).1 from.1
      (sym (numbers (e (nth k)) (after_place k lk)).1 ∙ ap nth (eqb-true _ h t) ∙ sym from.2))) ∙ (each k lk).0))
      (λ t. eq-eqb _ h (ap (λ j. number (e (nth j))) (sym (eqb-true x k t)) ∙ there)))
      ∙ omega arith)
      ∙ one_of n x (λ _. 1) px.0

  sum_permuted : (f : Place → ℕ) → below n (λ k. f (e (nth k))) ≡ below n (λ k. f (nth k))
  sum_permuted f =
      below_same n (λ k. f (e (nth k))) (λ k. f (nth (number (e (nth k))))) (λ k l. ap f (sym (numbers (e (nth k)) (after_place k l)).1))
      ∙ below_permuted n (λ k. number (e (nth k))) (λ k. f (nth k)) (λ k l. (numbers (e (nth k)) (after_place k l)).0) after_once

  kept_back : (set : Place → Bool) → Kept set e → (q : Place) → is_place q ≡ true → set (e q) ≡ true → set q ≡ true
  kept_back set kept q l m =
      let at_q = numbers q l in
      let same : one_if (set (nth (number q))) ≡ one_if (set (e (nth (number q)))) =
      below_all_same n (λ k. one_if (set (nth k))) (λ k. one_if (set (e (nth k)))) (λ k lk. one_if-at_most (set (nth k)) (set (e (nth k))) (kept (nth k))) (sym (sum_permuted (λ z. one_if (set z)))) (number q) at_q.0 in
      one_if-same (set q) true (ap (λ z. one_if (set z)) (sym at_q.1) ∙ same ∙ ap (λ z. one_if (set (e z))) at_q.1 ∙ ap one_if m)

pub kept_is_equal : KeptIsEqual
kept_is_equal c set kept q l m = kept_back 54 place_at number_at at_number of_rank (map_lists (lists_of c)) (cubes_permute_places c) set kept q l m

-- a sum over the places is that over those to which they are brought
pub sum_moved : (e : Place → Place) → PermutesPlaces e → (f : Place → ℕ) → below 54 (λ k. f (e (place_at k))) ≡ below 54 (λ k. f (place_at k))
sum_moved e permuted f = sum_permuted 54 place_at number_at at_number of_rank e permuted f
