-- The numbers of orientations and of slice edges, what they determine, also after a turn; and the loops over them, step by step.
use Rattle.niss_cube.proofs.Words.{Fact, Yes, Equal, Below, Both, When, Numbers, Holds, holds, refl, sym, ◌∙◌}
use Rattle.niss_cube.proofs.Words.{ap, arith, ◌≡◌, ℕ, ◌%◌, ◌<◌, ◌==◌, List, length, get_or, take, sum, ◌↔◌, ext_get_or}
use Rattle.niss_cube.proofs.Words.{eq-eqb, number, orientations_of_rank, AreOriented}
use Rattle.niss_cube.proofs.Words.{append_assoc, suc, ◌+◌, ◌-◌, [], ◌∷◌, ◌++◌, set, drop, length-set}
use Rattle.niss_cube.proofs.Words.{take-length, digits_of_number, drop-set_at, Same, Truths, map, reverse}
use Rattle.niss_cube.proofs.Words.{Bool, true, cond, false, nat_le, sum_by, get_or-reverse, length-reverse, length-map, get_or-map}
use Rattle.niss_cube.proofs.Words.{rank_places, edges_down, reverse-reverse, count_by, Turn, turn_table}
use Rattle.niss_cube.proofs.Words.{edges_of_rank, ArePlaced, ◌≤◌, drop-cons, choose, length-drop, zero}
use Rattle.niss_cube.proofs.Words.{choices_with, leb-true, nat_lt, subst, reverse-append, lt-ltb}
use Rattle.niss_cube.proofs.Words.{le-ltb}
use Rattle.niss_cube.proofs.CubieKinds.{Kind, Corners, Edges, count, facelets, CubieLists, Valid, once, tabulated}
use Rattle.niss_cube.proofs.CubieKinds.{tabulated-length, tabulated-at, brought, low}
use Rattle.std.proofs.Common.{length-append}
use Rattle.std.proofs.Math.Seq.{take-append_seam, take-suc}
use Rattle.std.proofs.lemmas.List.Sums.{sum_by-append}
use Rattle.std.specs.Prelude.{◌^◌}
use Rattle.niss_cube.proofs.Digits.{below-more, length-digits, digits-below, number-of_digits, digits-of_list}
use Rattle.niss_cube.proofs.Sums.{below, one_if, below_same, below_permuted, sum_by-below}
use Rattle.niss_cube.proofs.MovedCubies.{By, table}

-- how many orientations are free, since the last one follows, and how many numbers they have
abbrev free : Kind → ℕ
free Corners = 7
free Edges = 11

abbrev pub numbers : Kind → ℕ
numbers Corners = 2187
numbers Edges = 2048

abbrev pub turns_number : Kind → List ℕ → ℕ
turns_number k xs = number (facelets k) (take (free k) xs)

abbrev pub of_rank : Kind → ℕ → List ℕ
of_rank k i = orientations_of_rank (facelets k) (free k) i

counted : (k : Kind) → (0 < facelets k) × (count k ≡ suc (free k)) × (facelets k ^ free k ≡ numbers k)
counted Corners = (omega arith, refl, refl)
counted Edges = (omega arith, refl, refl)

-- the last orientation follows from the sum of the others
last-is : (k : Kind) (s d : ℕ) → d < facelets k → (s + d) % facelets k ≡ 0 → (facelets k - s % facelets k) % facelets k ≡ d
last-is Corners s d l e = omega arith
last-is Edges s d l e = omega arith

whole-with_last : (k : Kind) (s : ℕ) → (s + (facelets k - s % facelets k) % facelets k) % facelets k ≡ 0
whole-with_last Corners s = omega arith
whole-with_last Edges s = omega arith

sum-more : (ds : List ℕ) (d : ℕ) → sum (ds ++ d ∷ []) ≡ sum ds + d
sum-more ds d = let e : sum (ds ++ d ∷ []) ≡ sum ds + sum (d ∷ []) = sum_by-append (λ x. x) ds (d ∷ []) in omega (arith, e)

-- each number is that of its orientations
module _ (k : Kind) (i : ℕ) where
  abbrev digits : List ℕ
  digits = digits_of_number (facelets k) (free k) i

  abbrev last : ℕ
  last = (facelets k - sum digits % facelets k) % facelets k

  long : length digits ≡ free k
  long = length-digits (facelets k) (free k) i

  pub of_rank-are : AreOriented (facelets k) (count k) (of_rank k i)
  of_rank-are = record {
    places = omega (arith, length-append digits (last ∷ []), long, (counted k).1);
    range = λ n l.
        below-more (facelets k) digits last (λ n l. digits-below (facelets k) (free k) i (counted k).0 n (omega (arith, l, long))) (low k (facelets k - sum digits % facelets k)) n
        (omega (arith, l, long, (counted k).1));
    whole = ap (λ s. s % facelets k) (sum-more digits last) ∙ whole-with_last k (sum digits);
  }

  pub of_rank-number : i < numbers k → turns_number k (of_rank k i) ≡ i
  of_rank-number l =
      ap (number (facelets k)) (ap (λ n. take n (of_rank k i)) (sym long) ∙ take-append_seam digits (last ∷ []))
      ∙ number-of_digits (facelets k) (free k) i (counted k).0 (omega (arith, l, (counted k).2))

-- orientations are those of their number
module _ (k : Kind) (xs : List ℕ) (o : AreOriented (facelets k) (count k) xs) where
  free_below : free k < length xs
  free_below = omega (arith, o.places, (counted k).1)

  by_digits : (turns_number k xs < facelets k ^ free k) × (digits_of_number (facelets k) (free k) (turns_number k xs) ≡ take (free k) xs)
  by_digits = digits-of_list (facelets k) xs (free k) (omega (arith, free_below)) (λ n l. o.range n (omega (arith, l, o.places)))

  pub turns_number-below : turns_number k xs < numbers k
  turns_number-below = omega (arith, by_digits.0, (counted k).2)

  pub turns_number-is : xs ≡ of_rank k (turns_number k xs)
  turns_number-is =
      let others : List ℕ = take (free k) xs in
      let last : ℕ = get_or xs (free k) 0 in
      let split : xs ≡ others ++ last ∷ [] =
      sym (take-length xs) ∙ ap (λ n. take n xs) (o.places ∙ (counted k).1) ∙ take-suc xs (free k) 0 free_below in
      let whole : (sum others + last) % facelets k ≡ 0 = ap (λ s. s % facelets k) (sym (sum-more others last) ∙ ap sum (sym split)) ∙ o.whole in
      split
      ∙ ap (λ d. others ++ d ∷ []) (sym (last-is k (sum others) last (o.range (free k) (omega (arith, (counted k).1))) whole))
      ∙ ap (λ ds. ds ++ ((facelets k - sum ds % facelets k) % facelets k) ∷ []) (sym by_digits.1)

-- orientations are determined by their number
pub turns_number-same : (k : Kind) (xs ys : List ℕ) → AreOriented (facelets k) (count k) xs → AreOriented (facelets k) (count k) ys →
    turns_number k xs ≡ turns_number k ys → xs ≡ ys
turns_number-same k xs ys p q e = turns_number-is k xs p ∙ ap (of_rank k) e ∙ sym (turns_number-is k ys q)

-- their number is 0 exactly where no cubie is turned
pub turns_number-zero : (k : Kind) (xs : List ℕ) → AreOriented (facelets k) (count k) xs →
    (turns_number k xs ≡ 0) ↔ ((i : ℕ) → i < count k → get_or xs i 0 ≡ 0)
turns_number-zero k xs o =
    let home : (i : ℕ) → i < count k → get_or (of_rank k 0) i 0 ≡ 0 = none_turned k in (
      (λ e i l. ap (λ ys. get_or ys i 0) (turns_number-is k xs o ∙ ap (of_rank k) e) ∙ home i l),
      (λ h.
          let some : 0 < numbers k = some_number k in
          let len : length xs ≡ length (of_rank k 0) = o.places ∙ sym (of_rank-are k 0).places in
          let none : xs ≡ of_rank k 0 = ext_get_or 0 xs (of_rank k 0) len (λ i l.
          let li : i < count k = omega (arith, l, o.places) in h i li ∙ sym (home i li)) in
          ap (turns_number k) none ∙ of_rank-number k 0 some),
    )
  where
    some_number : (k : Kind) → 0 < numbers k
    some_number Corners = omega arith
    some_number Edges = omega arith

    none_turned : (k : Kind) (i : ℕ) → i < count k → get_or (of_rank k 0) i 0 ≡ 0
    none_turned Corners = holds (Numbers 8 λ i. Equal (get_or (of_rank Corners 0) i 0) 0) refl
    none_turned Edges = holds (Numbers 12 λ i. Equal (get_or (of_rank Edges 0) i 0) 0) refl

-- each edge stands at one place
pub edge-once : (c : CubieLists) → Valid c → (h : ℕ) → h < 12 → below 12 (λ i. one_if (get_or c.edges i 0 == h)) ≡ 1
edge-once c v h l = ap (λ n. below n (λ i. one_if (get_or c.edges i 0 == h))) (sym v.edges_placed.places) ∙ once Edges c v h l

down-once : (h : ℕ) → h < 12 → below 12 (λ k. one_if (11 - k == h)) ≡ 1
down-once = holds (Numbers 12 λ h. Equal (below 12 (λ k. one_if (11 - k == h))) 1) refl

-- which places, from the last down, hold an edge of the slice
abbrev pub slice_occupied : List ℕ → List Bool
slice_occupied edges = reverse (map (nat_le 8) edges)

pub slice_occupied-length : (edges : List ℕ) → length edges ≡ 12 → length (slice_occupied edges) ≡ 12
slice_occupied-length edges l = length-reverse (map (nat_le 8) edges) ∙ length-map edges (nat_le 8) ∙ l

pub slice_occupied-at : (edges : List ℕ) → length edges ≡ 12 → (k : ℕ) → k < 12 → get_or (slice_occupied edges) k false ≡ nat_le 8 (get_or edges (11 - k) 0)
slice_occupied-at edges l k lk =
    let m : length (map (nat_le 8) edges) ≡ 12 = length-map edges (nat_le 8) ∙ l in
    get_or-reverse (map (nat_le 8) edges) k false (omega arith)
    ∙ ap (λ n. get_or (map (nat_le 8) edges) (n - 1 - k) false) m
    ∙ get_or-map (nat_le 8) edges (11 - k) 0 false (omega arith)

-- how many places are occupied, which are four
abbrev filled : List Bool → ℕ
filled os = sum_by one_if os

pub slice_occupied-filled : (c : CubieLists) → Valid c → filled (slice_occupied c.edges) ≡ 4
slice_occupied-filled c v =
    sum_by-below one_if false (slice_occupied c.edges)
    ∙ ap (λ n. below n (λ k. one_if (get_or (slice_occupied c.edges) k false))) (slice_occupied-length c.edges v.edges_placed.places)
    ∙ below_same 12 (λ k. one_if (get_or (slice_occupied c.edges) k false)) (λ k. one_if (nat_le 8 (get_or c.edges (11 - k) 0))) (λ k l. ap one_if (slice_occupied-at c.edges v.edges_placed.places k l))
    ∙ below_permuted 12 (λ k. 11 - k) (λ k. one_if (nat_le 8 (get_or c.edges k 0))) (λ k l. omega arith) down-once
    ∙ below_permuted 12 (λ k. get_or c.edges k 0) (λ h. one_if (nat_le 8 h)) v.edges_placed.range (edge-once c v)

-- the number of any places, and that of four, which determines them
abbrev of_slice : ℕ → ℕ → Bool
of_slice i k = get_or (map (nat_le 8) (edges_down 12 4 i)) k false

abbrev occupied_fact : List Bool → Fact
occupied_fact os =
    Both (Below (rank_places os 4) 496) (When (filled os == 4)
    (Both (Below (rank_places os 4) 495) (Numbers 12 λ k. Same (get_or os k false) (of_slice (rank_places os 4) k))))

all_occupied : Holds (Truths 12 occupied_fact)
unfolding edges_down
all_occupied = holds (Truths 12 occupied_fact) refl

pub slice-at_most : (edges : List ℕ) → length edges ≡ 12 → rank_places (slice_occupied edges) 4 < 496
slice-at_most edges l = (all_occupied (slice_occupied edges) (slice_occupied-length edges l)).0

pub slice-below : (c : CubieLists) → Valid c → rank_places (slice_occupied c.edges) 4 < 495
slice-below c v =
    let all = all_occupied (slice_occupied c.edges) (slice_occupied-length c.edges v.edges_placed.places) in
    (all.1 (eq-eqb _ 4 (slice_occupied-filled c v))).0

pub slice-same : (c d : CubieLists) → Valid c → Valid d → rank_places (slice_occupied c.edges) 4 ≡ rank_places (slice_occupied d.edges) 4 →
    map (nat_le 8) c.edges ≡ map (nat_le 8) d.edges
slice-same c d v w e =
    sym (reverse-reverse (map (nat_le 8) c.edges))
    ∙ ap reverse (ext_get_or false (slice_occupied c.edges) (slice_occupied d.edges) (len c v ∙ sym (len d w)) (λ k l.
    let lk : k < 12 = omega (arith, l, len c v) in
    at c v k lk ∙ ap (λ i. of_slice i k) e ∙ sym (at d w k lk)))
    ∙ reverse-reverse (map (nat_le 8) d.edges)
  where
    len : (c : CubieLists) → Valid c → length (slice_occupied c.edges) ≡ 12
    len c v = slice_occupied-length c.edges v.edges_placed.places

    at : (c : CubieLists) (v : Valid c) (k : ℕ) → k < 12 → get_or (slice_occupied c.edges) k false ≡ of_slice (rank_places (slice_occupied c.edges) 4) k
    at c v = ((all_occupied (slice_occupied c.edges) (len c v)).1 (eq-eqb _ 4 (slice_occupied-filled c v))).1

-- each number is that of its edges
abbrev edges_fact : ℕ → List ℕ → Fact
edges_fact i edges = Both (Equal (rank_places (slice_occupied edges) 4) i) (Both (Equal (length edges) 12) (Numbers 12 λ h.
    Both (Equal (count_by (λ x. x == h) edges) 1) (Below (get_or edges h 0) 12)))

all_edges : Holds (Numbers 495 λ i. edges_fact i (edges_of_rank i))
unfolding edges_of_rank edges_down
all_edges = holds (Numbers 495 λ i. edges_fact i (edges_of_rank i)) refl

pub of_rank-placed : (i : ℕ) → i < 495 → ArePlaced 12 (edges_of_rank i)
of_rank-placed i l =
    let t = all_edges i l in
    record { places = t.1.0; each = λ h lh. (t.1.1 h lh).0; range = λ n ln. (t.1.1 n ln).1 }

pub of_rank-rank : (i : ℕ) → i < 495 → rank_places (slice_occupied (edges_of_rank i)) 4 ≡ i
of_rank-rank i l = (all_edges i l).0

-- where the edges of the slice stand after a turn depends on where they stood
turned-occupied : (t : Turn) (xs ys : List ℕ) → length xs ≡ 12 → length ys ≡ 12 → map (nat_le 8) xs ≡ map (nat_le 8) ys →
    map (nat_le 8) (tabulated 12 (brought (turn_table t.face t.power).edges xs)) ≡ map (nat_le 8) (tabulated 12 (brought (turn_table t.face t.power).edges ys))
turned-occupied t xs ys lx ly e =
    ext_get_or false (map (nat_le 8) (tabulated 12 (brought from xs))) (map (nat_le 8) (tabulated 12 (brought from ys))) (len xs ∙ sym (len ys)) (λ i l.
    let li : i < 12 = omega (arith, l, len xs) in
    at xs lx i li ∙ ap (λ os. get_or os (get_or from i 0) false) e ∙ sym (at ys ly i li))
  where
    from : List ℕ
    from = (turn_table t.face t.power).edges

    len : (zs : List ℕ) → length (map (nat_le 8) (tabulated 12 (brought from zs))) ≡ 12
    len zs = length-map (tabulated 12 (brought from zs)) (nat_le 8) ∙ tabulated-length 12 (brought from zs)

    at : (zs : List ℕ) → length zs ≡ 12 → (i : ℕ) → i < 12 → get_or (map (nat_le 8) (tabulated 12 (brought from zs))) i false ≡ get_or (map (nat_le 8) zs) (get_or from i 0) false
    at zs lz i l =
        get_or-map (nat_le 8) (tabulated 12 (brought from zs)) i 0 false (omega (arith, l, tabulated-length 12 (brought from zs)))
        ∙ ap (nat_le 8) (tabulated-at 12 (brought from zs) i l)
        ∙ sym (get_or-map (nat_le 8) zs (get_or from i 0) 0 false (omega (arith, (table Edges (By t)).from_below i l, lz)))

-- and so it depends on their number
pub rank-turned : (t : Turn) (c d : CubieLists) → Valid c → Valid d → rank_places (slice_occupied c.edges) 4 ≡ rank_places (slice_occupied d.edges) 4 →
    rank_places (slice_occupied (tabulated 12 (brought (turn_table t.face t.power).edges c.edges))) 4
    ≡ rank_places (slice_occupied (tabulated 12 (brought (turn_table t.face t.power).edges d.edges))) 4
rank-turned t c d v w e =
    ap (λ os. rank_places (reverse os) 4) (turned-occupied t c.edges d.edges v.edges_placed.places w.edges_placed.places (slice-same c d v w e))

module _ (edges : List ℕ) (l : length edges ≡ 12) (met n : ℕ) (lm : met < 12) where
  next : drop met (slice_occupied edges) ≡ nat_le 8 (get_or edges (11 - met) 0) ∷ drop (suc met) (slice_occupied edges)
  next =
      drop-cons (slice_occupied edges) met false (omega (arith, slice_occupied-length edges l))
      ∙ ap (λ b. b ∷ drop (suc met) (slice_occupied edges)) (slice_occupied-at edges l met lm)

  left : length (drop (suc met) (slice_occupied edges)) ≡ 11 - met
  left = omega (arith, length-drop (suc met) (slice_occupied edges), slice_occupied-length edges l)

  abbrev rest : List Bool
  rest = drop (suc met) (slice_occupied edges)

  -- by one place more, at which one of the edges stands or not
  step : (w : ℕ) (b : Bool) → b ≡ nat_le 8 (get_or edges (11 - met) 0)
      → rank_places (drop met (slice_occupied edges)) w
      ≡ cond b 0 (choices_with (11 - met) w) + rank_places rest (w - cond {A = ℕ} b 1 0)
  step zero true is = refl
  step zero false is = refl
  step (suc w) true is =
      let first = ap (λ os. rank_places os (suc w)) next in
      let here : rank_places (drop met (slice_occupied edges)) (suc w) ≡ rank_places rest w =
      first ∙ ap (λ b. rank_places (b ∷ rest) (suc w)) (sym is) in
      let one : suc w - 1 ≡ w = omega arith in
      let less : rank_places rest (suc w - 1) ≡ rank_places rest w = ap (rank_places rest) one in
      let all : rank_places (drop met (slice_occupied edges)) (suc w) ≡ 0 + rank_places rest (suc w - 1) =
      omega (arith, here, less) in
      all
  step (suc w) false is =
      let first = ap (λ os. rank_places os (suc w)) next in
      let here : rank_places (drop met (slice_occupied edges)) (suc w) ≡ choose (11 - met) w + rank_places rest (suc w) =
      first ∙ ap (λ b. rank_places (b ∷ rest) (suc w)) (sym is) ∙ ap (λ k. choose k w + rank_places rest (suc w)) left in
      let none : suc w - 0 ≡ suc w = omega arith in
      let same : rank_places rest (suc w - 0) ≡ rank_places rest (suc w) = ap (rank_places rest) none in
      let all : rank_places (drop met (slice_occupied edges)) (suc w) ≡ choose (11 - met) w + rank_places rest (suc w - 0) =
      omega (arith, here, same) in
      all

  pub counted_place : (w w' k total : ℕ) (b : Bool) → b ≡ nat_le 8 (get_or edges (11 - met) 0)
      → k ≡ cond b 0 (choices_with (11 - met) w) → w' ≡ w - cond {A = ℕ} b 1 0
      → n + rank_places (drop met (slice_occupied edges)) w ≡ total
      → n + k + rank_places (drop (met + 1) (slice_occupied edges)) w' ≡ total
  counted_place w w' k total b is passed less e =
      let more : met + 1 ≡ suc met = omega arith in
      let same : rank_places (drop (met + 1) (slice_occupied edges)) w' ≡ rank_places rest (w - cond {A = ℕ} b 1 0) =
      λ i. rank_places (drop (more i) (slice_occupied edges)) (less i) in
      omega (arith, step w b is, same, passed, e)

-- what the loop keeps: the edges still to come, and those placed, are the edges of the number
pub record Placed (number n wanted rest : ℕ) (edges : List ℕ) : Type 0 where
  pub places : length edges ≡ 12
  pub fits : rest < choose n wanted
  pub few : wanted ≤ 4
  pub is : reverse (edges_down n wanted rest) ++ drop n edges ≡ edges_of_rank number

-- the choices by which the last place is wanted, and those by which it isn't
choices : (n k : ℕ) → choose (suc n) k ≡ choices_with n k + choose n k
choices n zero = omega arith
choices n (suc k) = refl

choosable : (n k : ℕ) → n < 12 → k < 5 → 0 < choose n k → k ≤ n
choosable n k ln lk some =
    leb-true k n (holds (Numbers 12 λ n. Numbers 5 λ k. When (nat_lt 0 (choose n k)) (Yes (nat_le k n))) refl n ln k lk (lt-ltb 0 _ some))

one_less : (n k i : ℕ) → i < choices_with n k → i < choose n (k - 1)
one_less n zero i l = absurd (omega arith)
one_less n (suc k) i l = let e : suc k - 1 ≡ k = omega arith in rw e l

head_slice : (n k i : ℕ) → i < choices_with n k → edges_down (suc n) k i ≡ (8 + (k - 1)) ∷ edges_down n (k - 1) i
unfolding edges_down
head_slice n zero i l = absurd (omega arith)
head_slice n (suc k) i l = let e : suc k - 1 ≡ k = omega arith in rw (lt-ltb i (choose n k) l, e) refl

head_free : (n k i : ℕ) → choices_with n k ≤ i → edges_down (suc n) k i ≡ (n - k) ∷ edges_down n k (i - choices_with n k)
unfolding edges_down
head_free n zero i l =
    let a : n - 0 ≡ n = omega arith in
    let b : i - 0 ≡ i = omega arith in
    cc
head_free n (suc k) i l = rw (le-ltb i (choose n k) l) refl

module _ (number met w r : ℕ) (edges edges' : List ℕ) (l : met < 12) (now : Placed number (12 - met) w r edges) where
  abbrev n : ℕ
  n = 11 - met

  here : Placed number (suc n) w r edges
  here = subst (λ n. Placed number n w r edges) (let e : 12 - met ≡ suc (11 - met) = omega arith in e) now

  placed-step : (w' r' x : ℕ) → edges_down (suc n) w r ≡ x ∷ edges_down n w' r' → r' < choose n w' → w' ≤ 4 → edges' ≡ set edges n x → Placed number (12 - (met + 1)) w' r' edges'
  placed-step w' r' x head fits few e =
      let left : 12 - (met + 1) ≡ n = omega arith in
      rw (e, left) record {
        places = length-set edges n x ∙ now.places;
        fits = fits;
        few = few;
        is =
            ap (λ ys. reverse (edges_down n w' r') ++ ys) (drop-set_at edges n n x refl (omega (arith, now.places)) ∙ ap (λ k. x ∷ drop k edges) (let m : n + 1 ≡ suc n = omega arith in m))
            ∙ sym (append_assoc (reverse (edges_down n w' r')) (x ∷ []) (drop (suc n) edges))
            ∙ ap (λ ys. ys ++ drop (suc n) edges) (sym (reverse-append (x ∷ []) (edges_down n w' r')) ∙ ap reverse (sym head))
            ∙ here.is;
      }

  -- the place is given to an edge of the slice, or to another one
  pub placed-slice : r < choices_with n w → edges' ≡ set edges n (8 + (w - 1)) → Placed number (12 - (met + 1)) (w - 1) r edges'
  placed-slice h e = placed-step (w - 1) r (8 + (w - 1)) (head_slice n w r h) (one_less n w r h) (omega (arith, now.few)) e

  left_over : choices_with n w ≤ r → r - choices_with n w < choose n w
  left_over h = omega (arith, here.fits, choices n w)

  pub placed-free : choices_with n w ≤ r → edges' ≡ set edges n (n - w) → Placed number (12 - (met + 1)) w (r - choices_with n w) edges'
  placed-free h e = placed-step w (r - choices_with n w) (n - w) (head_free n w r h) (left_over h) now.few e

  pub wanted-below : choices_with n w ≤ r → w ≤ n
  wanted-below h = choosable n w (omega arith) (omega (arith, now.few)) (omega (arith, left_over h))

pub placed-end : (number met w r : ℕ) (edges : List ℕ) → met ≡ 12 → Placed number (12 - met) w r edges → edges ≡ edges_of_rank number
unfolding edges_down
placed-end number met w r edges e h =
    let none : 12 - met ≡ 0 = omega arith in
    (subst (λ n. Placed number n w r edges) none h).is
