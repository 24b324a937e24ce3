-- Flips, twists and slices are coordinates, by their codes; and the rows of the tables, as they are written.
use Rattle.niss_cube.proofs.Words.{Alike, Places, Turns, holds, ◌≡◌, ℕ, ◌<◌, refl, sym, ◌∙◌, ap, subst, true, ◌↔◌}
use Rattle.niss_cube.proofs.Words.{Place, is_place, SameMap, turned, inverse_turn, Turn, Axis, Cube, Coordinate, map_of}
use Rattle.niss_cube.proofs.Words.{Kept, set_of, rank_of, count_of, renamed_for, standard_axis, turn_for}
use Rattle.niss_cube.proofs.Words.{rank_after, IsCube, every_turn, every_face, every_power, TurnedIsCube}
use Rattle.niss_cube.proofs.Words.{AreCoordinates, Both, turn_order, Yes, Below, turn_in, turn_number, IsRank}
use Rattle.niss_cube.proofs.Words.{IsRankAfter}
use Rattle.niss_cube.proofs.CubieKinds.{lists_of, cube_of, CubieLists, Valid, map_lists, map_place}
use Rattle.niss_cube.proofs.Codes.{kept_same, cubies_for, renaming, sets_are_places, zero-kept, code, rank_of-code}
use Rattle.niss_cube.proofs.Codes.{code-below, cubies_with, cubies_with-valid, cubies_with-code, rank_after-is}
use Rattle.niss_cube.proofs.Codes.{code-turned, unrenamed}
use Rattle.niss_cube.specs.AfterTurn.{TurnedBeforeIsCube}
use Rattle.niss_cube.proofs.MovedCubies.{By, Before, moved, moved-map, moved-valid}
use Rattle.niss_cube.proofs.StepLemmas.{same_turn, same_turn-is}

turned-inverse_turn : (t : Turn) (q : Place) → is_place q ≡ true → turned (inverse_turn t) (turned t q) ≡ q
unfolding every_turn every_face every_power
turned-inverse_turn = holds (Turns λ t. Places λ q. Alike (turned (inverse_turn t) (turned t q)) q) refl

pub cube-itself : (c : Cube) → IsCube (map_of c)
cube-itself c = (c, λ q p. refl)

-- a map that is the same on the places as a cube's is a cube's
pub alike_is_cube : (d e : Place → Place) → IsCube d → SameMap d e → IsCube e
alike_is_cube d e h same = (h.0, λ q p. h.1 q p ∙ same q p)

pub turned_is_cube : TurnedIsCube
turned_is_cube e t h =
    let c : CubieLists = lists_of h.0 in
    let v : Valid c = h.0.are_cubies in
    (cube_of (moved (By t) c) (moved-valid (By t) c v), λ q p. moved-map (By t) c v q p ∙ ap (turned t) (h.1 q p))

turned-place : (t : Turn) (q : Place) → is_place q ≡ true → is_place (turned t q) ≡ true
unfolding every_turn every_face every_power
turned-place = holds (Turns λ t. Places λ q. Yes (is_place (turned t q))) refl

pub turned_before_is_cube : TurnedBeforeIsCube
turned_before_is_cube e t h =
    let c : CubieLists = lists_of h.0 in
    let v : Valid c = h.0.are_cubies in
    (cube_of (moved (Before t) c) (moved-valid (Before t) c v), λ q p. moved-map (Before t) c v q p ∙ h.1 (turned t q) (turned-place t q p))

-- what a number is on the standard axis
pub standard-code : (k : Coordinate) (c : CubieLists) → Valid c → rank_of k (standard_axis k) (map_lists c) ≡ code k c
standard-code k c v = rank_of-code k (standard_axis k) (map_lists c) c v (λ q p. sym (unrenamed k (map_lists c) q))

-- the number on the standard axis of the cube that is renamed for an axis
pub renamed-rank : (k : Coordinate) (a : Axis) (c : Cube) (e : Place → Place) → SameMap (map_of c) (renamed_for k a e) → rank_of k (standard_axis k) (map_of c) ≡ rank_of k a e
renamed-rank k a c e s = standard-code k (lists_of c) c.are_cubies ∙ sym (rank_of-code k a e (lists_of c) c.are_cubies s)

pub standard-turned : (k : Coordinate) (t : Turn) (c : CubieLists) → Valid c → rank_of k (standard_axis k) (λ q. turned t (map_lists c q)) ≡ code k (moved (By t) c)
standard-turned k t c v =
    rank_of-code k (standard_axis k) (λ q. turned t (map_lists c q)) (moved (By t) c) (moved-valid (By t) c v)
    (λ q p. moved-map (By t) c v q p ∙ sym (unrenamed k (λ q. turned t (map_lists c q)) q))

module _ (k : Coordinate) (a : Axis) where
  after_code : (i : ℕ) (t : Turn) → i < count_of k → rank_after k a i t ≡ code k (moved (By (turn_for k a t)) (cubies_with k i))
  after_code i t l = rank_after-is k a i t ∙ standard-turned k (turn_for k a t) (cubies_with k i) (cubies_with-valid k i l)

  -- the cubies of a map, renamed for the axis
  module _ (c : CubieLists) (v : Valid c) (e : Place → Place) (same : SameMap (map_lists c) e) where
    abbrev here : CubieLists
    here = cubies_for k a c

    here-valid : Valid here
    here-valid = (renaming k a).valid c v

    number-here : rank_of k a e ≡ code k here
    number-here =
        rank_of-code k a e here here-valid (λ q p. (renaming k a).map_is c v q p ∙ (renaming k a).same (map_lists c) e same q p)

    turned-here : (t : Turn) → rank_of k a (λ q. turned t (e q)) ≡ code k (moved (By (turn_for k a t)) here)
    turned-here t =
        let s : Turn = turn_for k a t in
        rank_of-code k a (λ q. turned t (e q)) (moved (By s) here) (moved-valid (By s) here here-valid)
        (λ q p. moved-map (By s) here here-valid q p
        ∙ ap (turned s) ((renaming k a).map_is c v q p)
        ∙ sym ((renaming k a).turned_is t (map_lists c) (map_place c v) q p)
        ∙ (renaming k a).same (λ q. turned t (map_lists c q)) (λ q. turned t (e q)) (λ q p. ap (turned t) (same q p)) q p)

    number-below : rank_of k a e < count_of k
    number-below = let P : ℕ → Type 0 = λ n. n < count_of k in subst P (sym number-here) (code-below k here here-valid)

    follow : (t : Turn) → rank_of k a (λ q. turned t (e q)) ≡ rank_after k a (rank_of k a e) t
    follow t =
        let i : ℕ = code k here in
        let l : i < count_of k = code-below k here here-valid in
        turned-here t
        ∙ code-turned k (turn_for k a t) here (cubies_with k i) here-valid (cubies_with-valid k i l) (sym (cubies_with-code k i l))
        ∙ sym (after_code i t l)
        ∙ ap (λ i. rank_after k a i t) (sym number-here)

  alike : (d e : Place → Place) → IsCube d → SameMap d e → rank_of k a d ≡ rank_of k a e
  alike d e h s =
      number-here (lists_of h.0) h.0.are_cubies d h.1
      ∙ sym (number-here (lists_of h.0) h.0.are_cubies e (λ q p. h.1 q p ∙ s q p))

  zero : (e : Place → Place) → IsCube e → (rank_of k a e ≡ 0) ↔ Kept (set_of k a) e
  zero e h =
      let d : Place → Place = map_of h.0 in
      let same : rank_of k a d ≡ rank_of k a e = alike d e (h.0, λ q p. refl) h.1 in
      let z = zero-kept k a (lists_of h.0) h.0.are_cubies in
      ((λ n. kept_same (set_of k a) d e (sets_are_places k a) h.1 (z.0 (same ∙ n))), (λ m. sym same ∙ z.1 (kept_same (set_of k a) e d (sets_are_places k a) (λ q p. sym (h.1 q p)) m)))

  -- cubies that have a number once they are renamed
  some : (i : ℕ) → i < count_of k → (c : Cube) × (rank_of k a (map_of c) ≡ i)
  some i l =
      let w = (renaming k a).onto (cubies_with k i) (cubies_with-valid k i l) in
      (cube_of w.0 w.1, rank_of-code k a (map_lists w.0) (cubies_with k i) (cubies_with-valid k i l) w.2 ∙ cubies_with-code k i l)

  -- the number after a turn, and after two, is that of the turned cube
  pub after_turn : (c : Cube) (t : Turn) → rank_after k a (rank_of k a (map_of c)) t ≡ rank_of k a (λ q. turned t (map_of c q))
  after_turn c t = sym (follow (lists_of c) c.are_cubies (map_of c) (λ q p. refl) t)

  pub after_both : (c : Cube) (s t : Turn) →
      rank_after k a (rank_after k a (rank_of k a (map_of c)) s) t ≡ rank_of k a (λ q. turned t (turned s (map_of c q)))
  after_both c s t =
      let d = turned_is_cube (map_of c) s (cube-itself c) in
      ap (λ i. rank_after k a i t) (after_turn c s) ∙ sym (follow (lists_of d.0) d.0.are_cubies (λ q. turned s (map_of c q)) d.1 t)

  stays_below : (i : ℕ) (t : Turn) → i < count_of k → rank_after k a i t < count_of k
  stays_below i t l =
      let P : ℕ → Type 0 = λ n. n < count_of k in
      let c = some i l in
      let d = turned_is_cube (map_of c.0) t (cube-itself c.0) in
      subst P (sym (after_turn c.0 t) ∙ ap (λ j. rank_after k a j t) c.1)
      (number-below (lists_of d.0) d.0.are_cubies (λ q. turned t (map_of c.0 q)) d.1)

  goes_back : (i : ℕ) (t : Turn) → i < count_of k → rank_after k a (rank_after k a i t) (inverse_turn t) ≡ i
  goes_back i t l =
      let c = some i l in
      ap (λ j. rank_after k a (rank_after k a j t) (inverse_turn t)) (sym c.1)
      ∙ after_both c.0 t (inverse_turn t)
      ∙ sym (alike (map_of c.0) (λ q. turned (inverse_turn t) (turned t (map_of c.0 q))) (cube-itself c.0) (λ q p.
      sym (turned-inverse_turn t (map_of c.0 q) (map_place (lists_of c.0) c.0.are_cubies q p))))
      ∙ c.1

pub are_coordinates : AreCoordinates
are_coordinates k a = record {
  below = λ e h. number-below k a (lists_of h.0) h.0.are_cubies e h.1;
  some_cube = some k a;
  zero_where_kept = zero k a;
  of_places = alike k a;
  follows = λ e t h. follow k a (lists_of h.0) h.0.are_cubies e h.1 t;
  after_below = stays_below k a;
  back_again = goes_back k a;
}

pub is_rank : (k : Coordinate) (a : Axis) (c : Cube) → IsRank k a (map_of c) (rank_of k a (map_of c))
is_rank k a c = let law = are_coordinates k a in record {
  value = refl;
  in_range = law.below (map_of c) (cube-itself c);
  kept = law.zero_where_kept (map_of c) (cube-itself c);
}

-- a cube that has a number has another one after a turn that does on the standard axis what t does
pub after_standard_turn : (k : Coordinate) (a : Axis) (i : ℕ) (c : Cube) (s t : Turn) → rank_of k (standard_axis k) (map_of c) ≡ i →
    ((n : ℕ) → rank_after k (standard_axis k) n s ≡ rank_after k a n t) → rank_of k (standard_axis k) (λ q. turned s (map_of c q)) ≡ rank_after k a i t
after_standard_turn k a i c s t e same =
    sym (after_turn k (standard_axis k) c s) ∙ ap (λ j. rank_after k (standard_axis k) j s) e ∙ same i

pub row-below : (k : Coordinate) (a : Axis) (i : ℕ) (t : Turn) (n : ℕ) → i < count_of k → n ≡ rank_after k a i t → n < count_of k
row-below k a i t n l e = let P : ℕ → Type 0 = λ n. n < count_of k in subst P (sym e) (stays_below k a i t l)

pub is_rank_after : (k : Coordinate) (a : Axis) (i : ℕ) (t : Turn) (n : ℕ) → i < count_of k → n ≡ rank_after k a i t → IsRankAfter k a i t n
is_rank_after k a i t n l e = record {
  value = e;
  in_range = row-below k a i t n l e;
  of_each = λ f h is. e ∙ ap (λ i. rank_after k a i t) (sym is) ∙ sym ((are_coordinates k a).follows f t h);
}

-- each turn has its place in turn order
pub turn-found : (t : Turn) → (turn_number t < 18) × (turn_in turn_order (turn_number t) ≡ t)
unfolding every_turn every_face every_power
turn-found t =
    let h = holds (Turns λ t. Both (Below (turn_number t) 18) (Yes (same_turn (turn_in turn_order (turn_number t)) t))) refl t in
    (h.0, same_turn-is _ t h.1)
