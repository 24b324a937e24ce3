-- The cubies of the inverse scramble: at the place of each cubie's home stands the cubie of its place, turned back.
use Rattle.niss_cube.proofs.Words.{◌≡◌, ℕ, ◌+◌, ◌-◌, ◌%◌, ◌<◌, ◌==◌, refl, sym, ◌∙◌, ap, get_or, length, arith, inl, inr}
use Rattle.niss_cube.proofs.Words.{Place, eq-eqb, eqb-true, same_truth, is_place, subst, true, ◌*◌, List, ArePlaced, set, eqb_tells}
use Rattle.std.proofs.lemmas.List.{get_or-set_same, get_or-set_other}
use Rattle.niss_cube.proofs.CubieKinds.{lists_path, CubieLists, Valid, map_lists, tabulated, tabulated-length, tabulated-at}
use Rattle.niss_cube.proofs.CubieKinds.{Kind, Corners, Edges, count, facelets, at, home_at, turn_at, homes, turns, place_of}
use Rattle.niss_cube.proofs.CubieKinds.{Stand, stand, standing-valid, stands, stands-at, once, low, kind_of, Located, located}
use Rattle.niss_cube.proofs.CubieKinds.{map_at, centre_stays}
use Rattle.niss_cube.proofs.MovedCubies.{below_mod, remainders, sum_turns}
use Rattle.niss_cube.proofs.Sums.{place_in, times_in, place_in-found, place_in-is, count_by-times, below, one_if, one_of, below_same, below_add, below_permuted}

-- how a cubie of a kind is turned back
abbrev pub turned_back : Kind → ℕ → ℕ
turned_back k t = (facelets k - t) % facelets k

abbrev pub inverse_lists : CubieLists → CubieLists
inverse_lists c = record {
  corners = tabulated 8 (place_of Corners c);
  twists = tabulated 8 (λ h. (3 - turn_at Corners c (place_of Corners c h)) % 3);
  edges = tabulated 12 (place_of Edges c);
  flips = tabulated 12 (λ h. (2 - turn_at Edges c (place_of Edges c h)) % 2);
}

pub record Inverted (k : Kind) (c : CubieLists) : Type 0 where
  pub homes_len : length (homes k (inverse_lists c)) ≡ count k
  pub turns_len : length (turns k (inverse_lists c)) ≡ count k
  pub home_is : (h : ℕ) → h < count k → home_at k (inverse_lists c) h ≡ place_of k c h
  pub turn_is : (h : ℕ) → h < count k → turn_at k (inverse_lists c) h ≡ turned_back k (turn_at k c (place_of k c h))

pub inverted-is : (k : Kind) (c : CubieLists) → Inverted k c
inverted-is Corners c = record {
  homes_len = tabulated-length 8 _;
  turns_len = tabulated-length 8 _;
  home_is = tabulated-at 8 _;
  turn_is = tabulated-at 8 _;
}
inverted-is Edges c = record {
  homes_len = tabulated-length 12 _;
  turns_len = tabulated-length 12 _;
  home_is = tabulated-at 12 _;
  turn_is = tabulated-at 12 _;
}

-- what is turned back sums to whole rounds as what is turned does
whole_back : (k : Kind) (t : ℕ → ℕ) → ((i : ℕ) → i < count k → t i < facelets k) → below (count k) t % facelets k ≡ 0
    → below (count k) (λ i. facelets k - t i) % facelets k ≡ 0
whole_back Corners t small e =
    let all : below 8 (λ i. (3 - t i) + t i) ≡ 24 = below_same 8 (λ i. (3 - t i) + t i) (λ i. 3) (λ i l. omega (arith, small i l)) in
    omega (arith, all, below_add 8 (λ i. 3 - t i) t, e)
whole_back Edges t small e =
    let all : below 12 (λ i. (2 - t i) + t i) ≡ 24 = below_same 12 (λ i. (2 - t i) + t i) (λ i. 2) (λ i l. omega (arith, small i l)) in
    omega (arith, all, below_add 12 (λ i. 2 - t i) t, e)

-- there and back
there_back : (k : Kind) (j t : ℕ) → j < facelets k → t < facelets k → ((j + t) % facelets k + turned_back k t) % facelets k ≡ j
there_back Corners j t lj lt = omega arith
there_back Edges j t lj lt = omega arith

module _ (c : CubieLists) (v : Valid c) where
  abbrev d : CubieLists
  d = inverse_lists c

  places_once : (k : Kind) (h : ℕ) → h < count k → below (count k) (λ i. one_if (place_of k c i == h)) ≡ 1
  places_once k h l =
      let x : ℕ = home_at k c h in
      let lx : x < count k = (stand k c v).placed.range h l in
      below_same (count k) (λ i. one_if (place_of k c i == h)) (λ i. one_if (x == i) * 1) (λ i li.
      ap one_if (same_truth _ _
      (λ t. eq-eqb x i (ap (home_at k c) (sym (eqb-true _ h t)) ∙ (stands k c v i li).1))
      (λ t. eq-eqb _ h (ap (place_of k c) (sym (eqb-true x i t)) ∙ stands-at k c v h l)))
      ∙ omega arith)
      ∙ one_of (count k) x (λ _. 1) lx

  inverse-stand : (k : Kind) → Stand k d
  inverse-stand k =
      let s : Stand k c = stand k c v in
      let b : Inverted k c = inverted-is k c in
      let left : ℕ → ℕ = λ i. facelets k - turn_at k c i in
      record {
        placed = record {
          places = b.homes_len;
          each = λ h l.
              count_by-times (homes k d) h
              ∙ ap (λ n. below n (λ i. one_if (home_at k d i == h))) b.homes_len
              ∙ below_same (count k) (λ i. one_if (home_at k d i == h)) (λ i. one_if (place_of k c i == h)) (λ i li. ap (λ x. one_if (x == h)) (b.home_is i li))
              ∙ places_once k h l;
          range = λ i l. let r : place_of k c i < count k = (stands k c v i l).0 in rw (b.home_is i l) r;
        };
        oriented = record {
          places = b.turns_len;
          range = λ i l. rw (b.turn_is i l) (low k _);
          whole =
              let sums : below (count k) (turn_at k c) % facelets k ≡ 0 = ap (λ x. x % facelets k) (sym (sum_turns k c s.oriented.places)) ∙ s.oriented.whole in
              ap (λ x. x % facelets k) (sum_turns k d b.turns_len ∙ below_same (count k) (turn_at k d) (λ h. left (place_of k c h) % facelets k) b.turn_is)
              ∙ below_mod (facelets k) (remainders k) (count k) (λ h. left (place_of k c h))
              ∙ ap (λ x. x % facelets k) (below_permuted (count k) (place_of k c) left (λ h l. (stands k c v h l).0) (places_once k))
              ∙ whole_back k (turn_at k c) s.oriented.range sums;
        };
      }

  pub inverse-valid : Valid d
  inverse-valid = standing-valid d inverse-stand

  back-facelet : (k : Kind) (h j : ℕ) → h < count k → j < facelets k → map_lists d (map_lists c (at k h j)) ≡ at k h j
  back-facelet k h j lh lj =
      let s : Stand k c = stand k c v in
      let b : Inverted k c = inverted-is k c in
      let n : ℕ = place_of k c h in
      let ln : n < count k = (stands k c v h lh).0 in
      let t : ℕ = turn_at k c n in
      let m : ℕ = (j + t) % facelets k in
      let home : place_of k d n ≡ h = place_in-is (homes k d) n h (once k d inverse-valid n ln) (omega (arith, lh, b.homes_len)) (b.home_is h lh) in
      ap (map_lists d) (map_at k c h j lh lj)
      ∙ map_at k d n m ln (low k _)
      ∙ ap (λ x. at k x ((m + turn_at k d x) % facelets k)) home
      ∙ ap (λ x. at k h ((m + x) % facelets k)) (b.turn_is h lh)
      ∙ ap (at k h) (there_back k j t lj (s.oriented.range n ln))

  pub takes_back : (q : Place) → is_place q ≡ true → map_lists d (map_lists c q) ≡ q
  takes_back q p = elim (kind_of q) [
    | inl w ↦
        let k : Kind = w.0 in
        let a : Located k q = located k q w.1 in
        ap (λ z. map_lists d (map_lists c z)) a.is ∙ back-facelet k a.row a.index a.row_below a.index_below ∙ sym a.is
    | inr w ↦ ap (map_lists d) (centre_stays c q w.0 w.1) ∙ centre_stays d q w.0 w.1
  ]

abbrev pub Back : (c d : CubieLists) → Type 0
Back c d = Valid d × ((q : Place) → is_place q ≡ true → map_lists d (map_lists c q) ≡ q)

-- cubies that were written so
pub inverse_made : (c d : CubieLists) → Valid c → (let w : CubieLists = inverse_lists c in
    d.corners ≡ w.corners → d.twists ≡ w.twists → d.edges ≡ w.edges → d.flips ≡ w.flips → Back c d)
inverse_made c d v p q r s = subst (Back c) (sym (lists_path d (inverse_lists c) p q r s)) (inverse-valid c v, takes_back c v)

-- Cubies that are placed stand at one place each.
module _ (n : ℕ) (homes : List ℕ) (placed : ArePlaced n homes) where
  pub found_at : (h : ℕ) → h < n → (place_in homes h < n) × (get_or homes (place_in homes h) 0 ≡ h)
  found_at h l =
      let one : times_in homes h ≡ 1 = sym (count_by-times homes h) ∙ placed.each h l in
      let r : (place_in homes h < length homes) × (get_or homes (place_in homes h) 0 ≡ h) = place_in-found homes h (omega (arith, one)) in
      (omega (arith, r.0, placed.places), r.1)

  pub apart : (i j : ℕ) → i < n → j < n → get_or homes i 0 ≡ get_or homes j 0 → i ≡ j
  apart i j li lj e =
      let h : ℕ = get_or homes j 0 in
      let one : times_in homes h ≡ 1 = sym (count_by-times homes h) ∙ placed.each h (placed.range j lj) in
      sym (place_in-is homes h i one (omega (arith, li, placed.places)) e) ∙ place_in-is homes h j one (omega (arith, lj, placed.places)) refl

  -- the places are written by the homes, one after another
  pub written_place : (places : List ℕ) (place : ℕ) → length places ≡ n → place < n
      → ((i : ℕ) → i < place → get_or places (get_or homes i 0) 0 ≡ i)
      → (i : ℕ) → i < place + 1 → get_or (set places (get_or homes place 0) place) (get_or homes i 0) 0 ≡ i
  written_place places place len lp before i li = elim (eqb_tells i place) [
    | inl w ↦
        ap (λ k. get_or (set places (get_or homes place 0) place) (get_or homes k 0) 0) w.1
        ∙ get_or-set_same places (get_or homes place 0) place 0 (omega (arith, placed.range place lp, len))
        ∙ sym w.1
    | inr w ↦
        let small : i < place = grind (arith, w.1) in
        get_or-set_other places (get_or homes place 0) (get_or homes i 0) place 0 (λ e. w.1 (apart i place (omega (arith, small, lp)) lp e))
        ∙ before i small
  ]
