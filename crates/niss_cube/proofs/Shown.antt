-- What is shown of cubies by the map of a cube, of which equal cubes have one, and by the letters of the facelet text.
use Rattle.niss_cube.proofs.Words.{Equal, Numbers, holds, refl, sym, ◌∙◌, ap, arith, ◌≡◌, ℕ, zero, suc}
use Rattle.niss_cube.proofs.Words.{◌<◌, ◌↔◌, List, [], ◌∷◌, length, get_or, map, drop, Bool, true, false, ◌&&◌, ◌==◌}
use Rattle.niss_cube.proofs.Words.{nat_le, nat_eq, list_any, range_with_len, eqb-true, eq-eqb, ext_get_or, get_or-map}
use Rattle.niss_cube.proofs.Words.{length-map, Any-from_list_any, Place, same_place, SameMap, U, facelet, index_in}
use Rattle.niss_cube.proofs.Words.{row_at, edge_facelets, and_left, and_right, and_both, same_truth, same_place_is}
use Rattle.niss_cube.proofs.Words.{same_place_of, get_or_default, list_any_at, get_or-range_with_len}
use Rattle.niss_cube.proofs.Words.{length-range_with_len, firsts, brings, orientations, occupied, Cube, map_of}
use Rattle.niss_cube.proofs.Words.{same_cubies, pointwise, same_text, other_text, true_from_ne_false}
use Rattle.niss_cube.proofs.Words.{false_from_ne_true, Yes, Both, Places, Alike}
use Rattle.niss_cube.proofs.Words.{is_place, places, effect, inverse, moved_by, inverse_after, letter_at}
use Rattle.niss_cube.proofs.Words.{letter_of, letters, Token, place_at, SOLVED_TEXT}
use Rattle.niss_cube.proofs.CubieKinds.{row_len, CubieLists, Valid, map_lists, lists_of, lists_path, Kind, Corners, Edges, count}
use Rattle.niss_cube.proofs.CubieKinds.{facelets, rows, at, homes, turns, home_at, turn_at, place_of, stand, stands}
use Rattle.niss_cube.proofs.CubieKinds.{stands-at, unturned, some_facelet, same_facelet, shown_at, of_rank}
use Rattle.niss_cube.proofs.Words.{list_all-from_AllPass}
use Rattle.niss_cube.specs.Map.{HomeIsTested, HomeSeesPlaces}
unfoldable use Rattle.niss_cube.specs.Map.{is_home}
use Rattle.niss_cube.proofs.Sums.{eqb-itself}

-- a test that passes at one index at most passes where it does there
list_any-is : {A : Type 0} (test : A → Bool) (xs : List A) (d : A) (s : Bool) (t : ℕ) → t < length xs → ((k : ℕ) → k < length xs → test (get_or xs k d) ≡ (s && (t == k))) → list_any test xs ≡ s
list_any-is test xs d s t l h =
    same_truth _ _
    (λ a.
    let m = Any-from_list_any test xs a in
    and_left _ _ (sym (h m.0 m.2) ∙ ap test (get_or_default xs m.0 d m.1 m.2 ∙ m.3) ∙ m.4))
    (λ b. list_any_at test xs t d l (h t l ∙ and_both _ _ b (eqb-itself t)))

-- whether a test passes at a number below n
abbrev any_below : ℕ → (ℕ → Bool) → Bool
any_below n t = list_any t (range_with_len 0 n)

any_below-is : (n : ℕ) (test : ℕ → Bool) (s : Bool) (t : ℕ) → t < n → ((k : ℕ) → k < n → test k ≡ (s && (t == k))) → any_below n test ≡ s
any_below-is n test s t l h =
    list_any-is test (range_with_len 0 n) 0 s t (omega (arith, l, length-range_with_len 0 n)) (λ k lk.
    let below : k < n = omega (arith, lk, length-range_with_len 0 n) in
    ap test (get_or-range_with_len 0 n k 0 below ∙ omega arith) ∙ h k below)

-- index_in finds the one index that passes
index_in-is : {A : Type 0} (test : A → Bool) (xs : List A) (d : A) (t : ℕ) → t < length xs → test (get_or xs t d) ≡ true → ((k : ℕ) → k < length xs → test (get_or xs k d) ≡ true → k ≡ t) → index_in test xs ≡ t
index_in-is test [] d t l passes only = absurd (omega arith)
index_in-is test (x ∷ xs) d zero l passes only = rw passes refl
index_in-is test (x ∷ xs) d (suc t) l passes only =
    let e : test x ≡ false = false_from_ne_true (test x) (λ y. let n : 0 ≡ suc t = only 0 (omega arith) y in omega arith) in
    rw e (ap suc (index_in-is test xs d t (omega arith) passes (λ k lk y. let n : suc k ≡ suc t = only (suc k) (omega arith) y in omega arith)))

rows_len : (k : Kind) → length (rows k) ≡ count k
rows_len Corners = refl
rows_len Edges = refl

brought_first : (k : Kind) (e : Place → Place) (q : Place) → brings e (firsts (rows k)) q ≡ any_below (count k) (λ h. same_place (e (at k h 0)) q)
brought_first Corners e q = refl
brought_first Edges e q = refl

-- a map that is that of the cubies on the places
module _ (k : Kind) (c : CubieLists) (v : Valid c) (e : Place → Place) (same : SameMap e (map_lists c)) where
  -- the sticker at the first facelet of a home
  first_at : (h : ℕ) → h < count k → e (at k h 0) ≡ at k (place_of k c h) (turn_at k c (place_of k c h))
  first_at h l =
      shown_at k c e same h 0 l (some_facelet k)
      ∙ ap (at k (place_of k c h)) (unturned k _ _ ((stand k c v).oriented.range _ (stands k c v h l).0) (omega arith))

  -- that of a home that is selected is brought to facelet j of place i
  brings_test : (sel : ℕ → Bool) (i j : ℕ) → i < count k → j < facelets k → any_below (count k) (λ h. sel h && same_place (e (at k h 0)) (at k i j)) ≡ (sel (home_at k c i) && (turn_at k c i == j))
  brings_test sel i j li lj =
      any_below-is (count k) (λ h. sel h && same_place (e (at k h 0)) (at k i j)) (sel (home_at k c i) && (turn_at k c i == j)) (home_at k c i) ((stand k c v).placed.range i li) (λ h lh.
      same_truth _ _
      (λ a.
      let w = stands k c v h lh in
      let s = same_facelet k (place_of k c h) (turn_at k c (place_of k c h)) i j w.0 ((stand k c v).oriented.range _ w.0) li lj
      (sym (first_at h lh) ∙ same_place_is _ _ (and_right (sel h) _ a)) in
      let here : home_at k c i ≡ h = ap (home_at k c) (sym s.0) ∙ w.1 in
      and_both _ _ (and_both _ _ (ap sel here ∙ and_left (sel h) _ a) (eq-eqb _ j (ap (turn_at k c) (sym s.0) ∙ s.1))) (eq-eqb _ h here))
      (λ b.
      let t = and_left (sel (home_at k c i) && (turn_at k c i == j)) _ b in
      let here : home_at k c i ≡ h = eqb-true _ h (and_right (sel (home_at k c i) && (turn_at k c i == j)) _ b) in
      let p : place_of k c h ≡ i = ap (place_of k c) (sym here) ∙ stands-at k c v i li in
      and_both _ _ (ap sel (sym here) ∙ and_left (sel (home_at k c i)) _ t)
      (same_place_of _ _ (first_at h lh ∙ ap (λ n. at k n (turn_at k c n)) p ∙ ap (at k i) (eqb-true _ _ (and_right (sel (home_at k c i)) _ t))))))

  -- the digits of the map are how the cubies are turned
  pub turns_shown : orientations e (rows k) ≡ turns k c
  turns_shown =
      let test = brings e (firsts (rows k)) in
      let len : length (orientations e (rows k)) ≡ count k = length-map (rows k) (index_in test) ∙ rows_len k in
      ext_get_or 0 (orientations e (rows k)) (turns k c) (len ∙ sym (stand k c v).oriented.places) (λ i l.
      let li : i < count k = omega (arith, l, len) in
      get_or-map (index_in test) (rows k) i [] 0 (omega (arith, li, rows_len k))
      ∙ index_in-is test (row_at (rows k) i) (facelet U 5) (turn_at k c i) (omega (arith, (stand k c v).oriented.range i li, row_len k i li))
      (brought i (turn_at k c i) li ((stand k c v).oriented.range i li) ∙ eqb-itself (turn_at k c i))
      (λ j lj y. sym (eqb-true (turn_at k c i) j (sym (brought i j li (omega (arith, lj, row_len k i li))) ∙ y))))
    where
      brought : (i j : ℕ) → i < count k → j < facelets k → brings e (firsts (rows k)) (at k i j) ≡ (turn_at k c i == j)
      brought i j li lj = brought_first k e (at k i j) ∙ brings_test (λ h. true) i j li lj

-- where the edges 8 to 11 stand
pub slice_shown : (c : CubieLists) (v : Valid c) (e : Place → Place) → SameMap e (map_lists c) → occupied e ≡ map (nat_le 8) c.edges
slice_shown c v e same =
    ext_get_or false (occupied e) (map (nat_le 8) c.edges) (sym (length-map c.edges (nat_le 8) ∙ v.edges_placed.places)) (λ i l.
    let li : i < 12 = l in
    let test = brings e (firsts (drop 8 edge_facelets)) in
    get_or-map (list_any test) edge_facelets i [] false li
    ∙ list_any-is test (row_at edge_facelets i) (facelet U 5) (nat_le 8 (get_or c.edges i 0)) (get_or c.flips i 0) (omega (arith, v.flips_oriented.range i li, row_len Edges i li))
    (λ j lj. brings_test Edges c v e same (nat_le 8) i j li (omega (arith, lj, row_len Edges i li)))
    ∙ sym (get_or-map (nat_le 8) c.edges i 0 false (omega (arith, v.edges_placed.places))))

-- two cubes with the same map have the same cubies at each place, turned alike
same_home : (k : Kind) (c d : CubieLists) → Valid c → Valid d → SameMap (map_lists c) (map_lists d) → (i : ℕ) → i < count k → home_at k c i ≡ home_at k d i
same_home k c d v w same i l =
    let h : ℕ = home_at k c i in
    let lh : h < count k = (stand k c v).placed.range i l in
    let here = stands k c v h lh in
    let there = stands k d w h lh in
    let f = same_facelet k (place_of k c h) (turn_at k c (place_of k c h)) (place_of k d h) (turn_at k d (place_of k d h)) here.0 ((stand k c v).oriented.range _ here.0) there.0 ((stand k d w).oriented.range _ there.0)
    (sym (first_at k c v (map_lists c) (λ q p. refl) h lh) ∙ first_at k d w (map_lists c) same h lh) in
    sym there.1 ∙ ap (home_at k d) (sym f.0 ∙ stands-at k c v i l)

same_rows : (k : Kind) (c d : CubieLists) → Valid c → Valid d → SameMap (map_lists c) (map_lists d) → (homes k c ≡ homes k d) × (turns k c ≡ turns k d)
same_rows k c d v w same =
    let len = (stand k c v).placed.places in (
      ext_get_or 0 (homes k c) (homes k d) (len ∙ sym (stand k d w).placed.places) (λ i l. same_home k c d v w same i (omega (arith, l, len))),
      sym (turns_shown k c v (map_lists c) (λ q p. refl)) ∙ turns_shown k d w (map_lists c) same,
    )

equal_texts : (xs ys : List ℕ) → xs ≡ ys → pointwise nat_eq xs ys ≡ true
equal_texts xs ys e = true_from_ne_false (pointwise nat_eq xs ys) (λ n. other_text xs ys (sym n) e)

pub equal_cubes : (c d : Cube) → (same_cubies c d ≡ true) ↔ SameMap (map_of c) (map_of d)
equal_cubes c d = (
  (λ t.
      let rest = and_right (pointwise nat_eq c.corners d.corners) _ t in
      let last = and_right (pointwise nat_eq c.twists d.twists) _ rest in
      let same = lists_path (lists_of c) (lists_of d) (same_text _ _ (sym (and_left _ _ t))) (same_text _ _ (sym (and_left _ _ rest)))
      (same_text _ _ (sym (and_left _ _ last))) (same_text _ _ (sym (and_right (pointwise nat_eq c.edges d.edges) _ last))) in
      λ q p i. map_lists (same i) q),
  (λ s.
      let corners = same_rows Corners (lists_of c) (lists_of d) c.are_cubies d.are_cubies s in
      let edges = same_rows Edges (lists_of c) (lists_of d) c.are_cubies d.are_cubies s in
      and_both _ _ (equal_texts _ _ corners.0)
      (and_both _ _ (equal_texts _ _ corners.1) (and_both _ _ (equal_texts _ _ edges.0) (equal_texts _ _ edges.1)))),
)

-- The letters of two maps are the same at two places to which they bring the same stickers.
letter_of-alike : (d e : Place → Place) (p q : Place) → ((x : Place) → same_place (d x) p ≡ same_place (e x) q) → (ps : List Place) → letter_of d ps p ≡ letter_of e ps q
unfolding letter_of
letter_of-alike d e p q h [] = refl
letter_of-alike d e p q h (x ∷ ps) = rw (h x, letter_of-alike d e p q h ps) refl

own_letter : (q : Place) → is_place q ≡ true → letter_of (λ x. x) places q ≡ letter_at q
unfolding letter_of
own_letter = holds (Places λ q. Equal (letter_of (λ x. x) places q) (letter_at q)) refl

-- the letter at the place to which a map brings the sticker of a place, and of no other one
pub brought_letter : (e : Place → Place) → ((p q : Place) → e p ≡ e q → p ≡ q) → (p : Place) → is_place p ≡ true → letter_of e places (e p) ≡ letter_at p
brought_letter e one p l =
    letter_of-alike e (λ x. x) (e p) p (λ x. same_truth _ _
    (λ h. same_place_of x p (one x p (same_place_is (e x) (e p) h)))
    (λ h. same_place_of (e x) (e p) (ap e (same_place_is x p h)))) places
    ∙ own_letter p l

-- a move brings the letters along
pub moved_letter : (m : Token) (e : Place → Place) (q : Place) → letter_of (λ x. moved_by m (e x)) places (moved_by m q) ≡ letter_of e places q
moved_letter m e q =
    letter_of-alike (λ x. moved_by m (e x)) e (moved_by m q) q (λ x. same_truth _ _
    (λ h. same_place_of (e x) q (one (e x) q (same_place_is _ _ h)))
    (λ h. same_place_of _ _ (ap (moved_by m) (same_place_is (e x) q h)))) places
  where
    one : (p q : Place) → moved_by m p ≡ moved_by m q → p ≡ q
    one p q h = sym (inverse_after (m ∷ []) p) ∙ ap (effect (inverse (m ∷ []))) h ∙ inverse_after (m ∷ []) q

-- the solved cube's text, by positions
pub solved_letter : (i : ℕ) → i < 54 → (is_place (place_at i) ≡ true) × (get_or SOLVED_TEXT i 0 ≡ letter_at (place_at i))
unfolding place_at
solved_letter = holds (Numbers 54 λ i. Both (Yes (is_place (place_at i))) (Equal (get_or SOLVED_TEXT i 0) (letter_at (place_at i)))) refl

-- the text, letter by letter
pub text_is : (e : Place → Place) (text : List ℕ) → length text ≡ 54 → ((j : ℕ) → j < 54 → get_or text j 0 ≡ letter_of e places (place_at j)) → text ≡ letters e
unfolding place_at letters
text_is e text long h =
    ext_get_or 0 text (map (letter_of e places) places) (long ∙ sym (length-map places (letter_of e places))) (λ j lj.
    let l : j < 54 = omega (arith, lj, long) in
    h j l ∙ sym (get_or-map (letter_of e places) places j (facelet U 5) 0 l))

pub text_at : (e : Place → Place) (text : List ℕ) → text ≡ letters e → (j : ℕ) → j < 54 → get_or text j 0 ≡ letter_of e places (place_at j)
unfolding place_at letters
text_at e text h j l = ap (λ t. get_or t j 0) h ∙ get_or-map (letter_of e places) places j (facelet U 5) 0 l

-- The test of the solved cube's map.
pub home_is_tested : HomeIsTested
unfolding is_home
home_is_tested e = (
  (λ h q p. holds (Places λ q. Alike (e q) q) h q p),
  (λ s.
      list_all-from_AllPass (λ q. same_place (e q) q) places (λ i d l.
      same_place_of _ _ (s (get_or places i d) (ap is_place (get_or_default places i d (facelet U 5) l) ∙ (of_rank i l).1)))),
)

pub home_sees_places : HomeSeesPlaces
home_sees_places d e s =
    same_truth _ _
    (λ h. (home_is_tested e).1 (λ q p. sym (s q p) ∙ (home_is_tested d).0 h q p))
    (λ h. (home_is_tested d).1 (λ q p. s q p ∙ (home_is_tested e).0 h q p))
