-- Turns and renamings move cubies by tables: what they make of cubies is cubies again, with the moved map.
use Rattle.niss_cube.proofs.Words.{◌≡◌, ℕ, zero, suc, ◌+◌, ◌-◌, ◌%◌, ◌<◌, ◌==◌, refl, sym, ◌∙◌, ap, subst, get_or}
use Rattle.niss_cube.proofs.Words.{length, not, sum, arith, inl, inr, Turn, Renaming, Place, SameMap, is_corner}
use Rattle.niss_cube.proofs.Words.{is_edge, turned, inverse_turn, turn_table, every_turn, every_face, every_power, eqb-true, eq-eqb}
use Rattle.niss_cube.proofs.Words.{same_truth, Fact, Both, Below, Equal, Alike, Same, When, Numbers, Places, Turns}
use Rattle.niss_cube.proofs.Words.{Holds, holds, rotated, rotated_back, renaming_table, true, is_place, renamed_turn}
use Rattle.niss_cube.proofs.Words.{renamed_by, Yes, face_by, tested, XCounter, XQuarter, YQuarter}
use Rattle.niss_cube.proofs.Words.{ZCounter}
use Rattle.niss_cube.proofs.CubieKinds.{lists_path, CubieLists, Valid, map_lists, tabulated, tabulated-length}
use Rattle.niss_cube.proofs.CubieKinds.{tabulated-at, Kind, Corners, Edges, count, facelets, at, home_at, turn_at}
use Rattle.niss_cube.proofs.CubieKinds.{homes, turns, place_of, Stand, stand, standing-valid, stands, once, low}
use Rattle.niss_cube.proofs.CubieKinds.{kind_of, Located, located, map_at, centre_stays, map_place}
use Rattle.niss_cube.proofs.Sums.{place_in-is, count_by-times, below, one_if, below_same, below_add, below_permuted}
use Rattle.niss_cube.proofs.Sums.{sum_by-below}

pub data Motion : Type 0 where
  By : Turn → Motion
  Before : Turn → Motion
  Under : Renaming → Motion

-- where a motion brings a place, and whence it takes what it brings
abbrev pub out : Motion → Place → Place
out (By t) = turned t
out (Before t) = λ q. q
out (Under v) = rotated v

abbrev pub back : Motion → Place → Place
back (By t) q = q
back (Before t) q = turned t q
back (Under v) q = rotated_back v q

-- From which place a cubie comes, which one it becomes and was, and how it is turned: by its home and by its place.
abbrev pub from_at : Kind → Motion → ℕ → ℕ
from_at Corners (By t) i = get_or (turn_table t.face t.power).corners i 0
from_at Edges (By t) i = get_or (turn_table t.face t.power).edges i 0
from_at k (Before t) i = i
from_at Corners (Under v) i = get_or (renaming_table v).corners.from i 0
from_at Edges (Under v) i = get_or (renaming_table v).edges.from i 0

abbrev to_at : Kind → Motion → ℕ → ℕ
to_at k (By t) h = h
to_at Corners (Before t) h = get_or (turn_table t.face t.power).corners h 0
to_at Edges (Before t) h = get_or (turn_table t.face t.power).edges h 0
to_at Corners (Under v) h = get_or (renaming_table v).corners.to h 0
to_at Edges (Under v) h = get_or (renaming_table v).edges.to h 0

abbrev was_at : Kind → Motion → ℕ → ℕ
was_at k (By t) h = h
was_at Corners (Before t) h = get_or (turn_table t.face (inverse_turn t).power).corners h 0
was_at Edges (Before t) h = get_or (turn_table t.face (inverse_turn t).power).edges h 0
was_at k (Under v) h = from_at k (Under v) h

abbrev inward_at : Kind → Motion → ℕ → ℕ
inward_at k (By t) h = 0
inward_at Corners (Before t) h = get_or (turn_table t.face t.power).twists h 0
inward_at Edges (Before t) h = get_or (turn_table t.face t.power).flips h 0
inward_at Corners (Under v) h = get_or (renaming_table v).corners.inward h 0
inward_at Edges (Under v) h = get_or (renaming_table v).edges.inward h 0

abbrev pub outward_at : Kind → Motion → ℕ → ℕ
outward_at Corners (By t) i = get_or (turn_table t.face t.power).twists i 0
outward_at Edges (By t) i = get_or (turn_table t.face t.power).flips i 0
outward_at k (Before t) i = 0
outward_at k (Under v) i = facelets k - inward_at k (Under v) (from_at k (Under v) i)

-- what computation shows of the tables: cubies are permuted, as the motion brings their facelets, and whole rounds are added
abbrev place_fact : Kind → Motion → ℕ → Fact
place_fact k m i =
    Both (Below (from_at k m i) (count k)) (Both (Below (to_at k m i) (count k)) (Both (Below (was_at k m i) (count k))
    (Both (Equal (to_at k m (was_at k m i)) i) (Both (Equal (was_at k m (to_at k m i)) i)
    (Both (Equal (below (count k) (λ n. one_if (from_at k m n == i))) 1) (Numbers (facelets k) λ j. Both
    (Alike (back m (at k i j)) (at k (was_at k m i) ((j + inward_at k m (was_at k m i)) % facelets k)))
    (Alike (out m (at k (from_at k m i) j)) (at k i ((j + outward_at k m i) % facelets k)))))))))

abbrev table_fact : Kind → Motion → Fact
table_fact k m =
    Both (Numbers (count k) (place_fact k m)) (Equal ((below (count k) (inward_at k m) + below (count k) (outward_at k m)) % facelets k) 0)

-- corners, edges and centres stay such, and centres where they are
abbrev kinds_fact : Motion → Fact
kinds_fact m = Places λ q.
    Both (Same (is_corner (back m q)) (is_corner q)) (Both (Same (is_edge (back m q)) (is_edge q))
    (When (not (is_corner q)) (When (not (is_edge q)) (Alike (out m (back m q)) q))))

abbrev renamings : (Renaming → Fact) → Fact
renamings f = Both (f XCounter) (Both (f XQuarter) (Both (f YQuarter) (f ZCounter)))

at_renaming : (f : Renaming → Fact) → Holds (renamings f) → (v : Renaming) → Holds (f v)
at_renaming f h XCounter = h.0
at_renaming f h XQuarter = h.1.0
at_renaming f h YQuarter = h.1.1.0
at_renaming f h ZCounter = h.1.1.1

each_renaming : (f : Renaming → Fact) → tested (renamings f) ≡ true → (v : Renaming) → Holds (f v)
each_renaming f h = at_renaming f (holds (renamings f) h)

abbrev motion_fact : (Motion → Fact) → Fact
motion_fact f = Both (Turns λ t. f (By t)) (Both (Turns λ t. f (Before t)) (renamings λ v. f (Under v)))

at_motion : (f : Motion → Fact) → Holds (motion_fact f) → (m : Motion) → Holds (f m)
at_motion f h (By t) = h.0 t
at_motion f h (Before t) = h.1.0 t
at_motion f h (Under v) = at_renaming (λ v. f (Under v)) h.1.1 v

tables : (k : Kind) → Holds (motion_fact (table_fact k))
unfolding every_turn every_face every_power
tables Corners = holds (motion_fact (table_fact Corners)) refl
tables Edges = holds (motion_fact (table_fact Edges)) refl

kinds : (m : Motion) → Holds (kinds_fact m)
unfolding every_turn every_face every_power
kinds = at_motion kinds_fact (holds (motion_fact kinds_fact) refl)

pub record Table (k : Kind) (m : Motion) : Type 0 where
  pub from_below : (i : ℕ) → i < count k → from_at k m i < count k
  pub to_below : (h : ℕ) → h < count k → to_at k m h < count k
  pub was_below : (h : ℕ) → h < count k → was_at k m h < count k
  pub to_was : (h : ℕ) → h < count k → to_at k m (was_at k m h) ≡ h
  pub was_to : (h : ℕ) → h < count k → was_at k m (to_at k m h) ≡ h
  pub once : (h : ℕ) → h < count k → below (count k) (λ i. one_if (from_at k m i == h)) ≡ 1
  pub facelet : (i : ℕ) → i < count k → (j : ℕ) → j < facelets k →
      (back m (at k i j) ≡ at k (was_at k m i) ((j + inward_at k m (was_at k m i)) % facelets k))
      × (out m (at k (from_at k m i) j) ≡ at k i ((j + outward_at k m i) % facelets k))
  pub whole : (below (count k) (inward_at k m) + below (count k) (outward_at k m)) % facelets k ≡ 0

pub table : (k : Kind) (m : Motion) → Table k m
table k m =
    let t = at_motion (table_fact k) (tables k) m in
    record {
      from_below = λ i l. (t.0 i l).0;
      to_below = λ h l. (t.0 h l).1.0;
      was_below = λ h l. (t.0 h l).1.1.0;
      to_was = λ h l. (t.0 h l).1.1.1.0;
      was_to = λ h l. (t.0 h l).1.1.1.1.0;
      once = λ h l. (t.0 h l).1.1.1.1.1.0;
      facelet = λ i l. (t.0 i l).1.1.1.1.1.1;
      whole = t.1;
    }

-- remainders of sums
pub record Mod (m : ℕ) : Type 0 where
  pub add : (a b c d : ℕ) → a % m ≡ c % m → b % m ≡ d % m → (a + b) % m ≡ (c + d) % m
  pub twice : (a : ℕ) → (a % m) % m ≡ a % m
  pub zeros : (a b : ℕ) → a % m ≡ 0 → b % m ≡ 0 → (a + b) % m ≡ 0
  pub regroup : (j a t b : ℕ) → (j + (a + t + b) % m) % m ≡ ((((j + a) % m) + t) % m + b) % m

pub remainders : (k : Kind) → Mod (facelets k)
remainders Corners = record { add = λ a b c d p q. omega arith; twice = λ a. omega arith; zeros = λ a b p q. omega arith; regroup = λ j a t b. omega arith }
remainders Edges = record { add = λ a b c d p q. omega arith; twice = λ a. omega arith; zeros = λ a b p q. omega arith; regroup = λ j a t b. omega arith }

pub below_mod : (m : ℕ) → Mod m → (n : ℕ) (f : ℕ → ℕ) → below n (λ i. f i % m) % m ≡ below n f % m
below_mod m laws zero f = refl
below_mod m laws (suc n) f = laws.add (below n (λ i. f i % m)) (f n % m) (below n f) (f n) (below_mod m laws n f) (laws.twice (f n))

-- how the cubies of a kind are turned, as a sum over the places
pub sum_turns : (k : Kind) (c : CubieLists) → length (turns k c) ≡ count k → sum (turns k c) ≡ below (count k) (turn_at k c)
sum_turns k c l = sum_by-below (λ x. x) 0 (turns k c) ∙ ap (λ n. below n (turn_at k c)) l

-- the cubies after a motion
abbrev new_home : Kind → Motion → CubieLists → ℕ → ℕ
new_home k m c i = to_at k m (home_at k c (from_at k m i))

abbrev turned_sum : Kind → Motion → CubieLists → ℕ → ℕ
turned_sum k m c i = inward_at k m (home_at k c (from_at k m i)) + turn_at k c (from_at k m i) + outward_at k m i

-- the same sum as it is written: a turn adds nothing by the home, one before all others nothing by the place
abbrev written_sum : Kind → Motion → CubieLists → ℕ → ℕ
written_sum k (By t) c i = turn_at k c (from_at k (By t) i) + outward_at k (By t) i
written_sum k (Before t) c i = inward_at k (Before t) (home_at k c i) + turn_at k c i
written_sum k (Under v) c i = turned_sum k (Under v) c i

written-sum : (k : Kind) (m : Motion) (c : CubieLists) (i : ℕ) → written_sum k m c i ≡ turned_sum k m c i
written-sum k (By t) c i = omega arith
written-sum k (Before t) c i = omega arith
written-sum k (Under v) c i = refl

abbrev pub moved : Motion → CubieLists → CubieLists
moved m c =
    record {
      corners = tabulated 8 (new_home Corners m c);
      twists = tabulated 8 (λ i. written_sum Corners m c i % 3);
      edges = tabulated 12 (new_home Edges m c);
      flips = tabulated 12 (λ i. written_sum Edges m c i % 2);
    }

record Moved (k : Kind) (m : Motion) (c : CubieLists) : Type 0 where
  pub homes_len : length (homes k (moved m c)) ≡ count k
  pub turns_len : length (turns k (moved m c)) ≡ count k
  pub home_is : (i : ℕ) → i < count k → home_at k (moved m c) i ≡ new_home k m c i
  pub turn_is : (i : ℕ) → i < count k → turn_at k (moved m c) i ≡ turned_sum k m c i % facelets k

moved-is : (k : Kind) (m : Motion) (c : CubieLists) → Moved k m c
moved-is Corners m c = record {
  homes_len = tabulated-length 8 _;
  turns_len = tabulated-length 8 _;
  home_is = tabulated-at 8 _;
  turn_is = λ i l. tabulated-at 8 _ i l ∙ ap (λ x. x % 3) (written-sum Corners m c i);
}
moved-is Edges m c = record {
  homes_len = tabulated-length 12 _;
  turns_len = tabulated-length 12 _;
  home_is = tabulated-at 12 _;
  turn_is = λ i l. tabulated-at 12 _ i l ∙ ap (λ x. x % 2) (written-sum Edges m c i);
}

module _ (m : Motion) (c : CubieLists) (v : Valid c) where
  abbrev d : CubieLists
  d = moved m c

  home-was : (k : Kind) (i : ℕ) → i < count k → was_at k m (home_at k d i) ≡ home_at k c (from_at k m i)
  home-was k i l =
      let t : Table k m = table k m in
      ap (was_at k m) ((moved-is k m c).home_is i l) ∙ t.was_to _ ((stand k c v).placed.range _ (t.from_below i l))

  moved-stand : (k : Kind) → Stand k d
  moved-stand k =
      let s : Stand k c = stand k c v in
      let t : Table k m = table k m in
      let b : Moved k m c = moved-is k m c in
      let all_once : (h : ℕ) → h < count k → below (count k) (λ i. one_if (home_at k c i == h)) ≡ 1 = λ h l. ap (λ n. below n (λ i. one_if (home_at k c i == h))) (sym s.placed.places) ∙ once k c v h l in
      let turns_from : ℕ → ℕ = λ i. inward_at k m (home_at k c i) + turn_at k c i in
      record {
        placed = record {
          places = b.homes_len;
          each = λ h l.
              count_by-times (homes k d) h
              ∙ ap (λ n. below n (λ i. one_if (home_at k d i == h))) b.homes_len
              ∙ below_same (count k) (λ i. one_if (home_at k d i == h)) (λ i. one_if (home_at k c (from_at k m i) == was_at k m h)) (λ i li.
              ap one_if (same_truth _ _
              (λ e. eq-eqb _ _ (sym (home-was k i li) ∙ ap (was_at k m) (eqb-true _ _ e)))
              (λ e. eq-eqb _ _ (b.home_is i li ∙ ap (to_at k m) (eqb-true _ _ e) ∙ t.to_was h l))))
              ∙ below_permuted (count k) (from_at k m) (λ i. one_if (home_at k c i == was_at k m h)) t.from_below t.once
              ∙ all_once (was_at k m h) (t.was_below h l);
          range = λ i l. let s : new_home k m c i < count k = t.to_below _ (s.placed.range _ (t.from_below i l)) in rw (b.home_is i l) s;
        };
        oriented = record {
          places = b.turns_len;
          range = λ i l. rw (b.turn_is i l) (low k _);
          whole =
              let sum_is : below (count k) (turned_sum k m c) ≡ sum (turns k c) + (below (count k) (inward_at k m) + below (count k) (outward_at k m)) =
              below_add (count k) (λ i. turns_from (from_at k m i)) (outward_at k m)
              ∙ ap (λ x. x + below (count k) (outward_at k m))
              (below_permuted (count k) (from_at k m) turns_from t.from_below t.once
              ∙ below_add (count k) (λ i. inward_at k m (home_at k c i)) (turn_at k c)
              ∙ ap (λ x. x + below (count k) (turn_at k c)) (below_permuted (count k) (home_at k c) (inward_at k m) s.placed.range all_once))
              ∙ omega (arith, sum_turns k c s.oriented.places) in
              ap (λ x. x % facelets k) (sum_turns k d b.turns_len ∙ below_same (count k) (turn_at k d) (λ i. turned_sum k m c i % facelets k) b.turn_is)
              ∙ below_mod (facelets k) (remainders k) (count k) (turned_sum k m c)
              ∙ ap (λ x. x % facelets k) sum_is
              ∙ (remainders k).zeros (sum (turns k c)) (below (count k) (inward_at k m) + below (count k) (outward_at k m)) s.oriented.whole t.whole;
        };
      }

  pub moved-valid : Valid d
  moved-valid = standing-valid d moved-stand

  moved-facelet : (k : Kind) (h j : ℕ) → h < count k → j < facelets k → map_lists d (at k h j) ≡ out m (map_lists c (back m (at k h j)))
  moved-facelet k h j lh lj =
      let s : Stand k c = stand k c v in
      let t : Table k m = table k m in
      let w : ℕ = was_at k m h in
      let lw : w < count k = t.was_below h lh in
      let x : ℕ = (j + inward_at k m w) % facelets k in
      let n : ℕ = place_of k d h in
      let p : ℕ = from_at k m n in
      let new : (n < count k) × (home_at k d n ≡ h) = stands k d moved-valid h lh in
      let home : home_at k c p ≡ w = sym (home-was k n new.0) ∙ ap (was_at k m) new.1 in
      let stood : place_of k c w ≡ p = place_in-is (homes k c) w p (once k c v w lw) (omega (arith, t.from_below n new.0, s.placed.places)) home in
      map_at k d h j lh lj
      ∙ ap (λ y. at k n ((j + y) % facelets k)) ((moved-is k m c).turn_is n new.0 ∙ ap (λ y. (inward_at k m y + turn_at k c p + outward_at k m n) % facelets k) home)
      ∙ ap (at k n) ((remainders k).regroup j (inward_at k m w) (turn_at k c p) (outward_at k m n))
      ∙ sym (t.facelet n new.0 ((x + turn_at k c p) % facelets k) (low k _)).1
      ∙ ap (λ y. out m (at k y ((x + turn_at k c y) % facelets k))) (sym stood)
      ∙ ap (out m) (sym (map_at k c w x lw (low k _)))
      ∙ ap (λ q. out m (map_lists c q)) (sym (t.facelet h lh j lj).0)

  pub moved-map : SameMap (map_lists d) (λ q. out m (map_lists c (back m q)))
  moved-map q p = elim (kind_of q) [
    | inl w ↦
        let a : Located w.0 q = located w.0 q w.1 in
        ap (map_lists d) a.is ∙ moved-facelet w.0 a.row a.index a.row_below a.index_below ∙ ap (λ z. out m (map_lists c (back m z))) (sym a.is)
    | inr w ↦
        let k = kinds m q p in
        centre_stays d q w.0 w.1 ∙ sym (k.1.1 (ap not w.0) (ap not w.1)) ∙ ap (out m) (sym (centre_stays c (back m q) (k.0 ∙ w.0) (k.1.0 ∙ w.1)))
  ]

-- cubies that were written so
abbrev pub Made : Motion → (c d : CubieLists) → Type 0
Made m c d = Valid d × SameMap (map_lists d) (λ q. out m (map_lists c (back m q)))

pub made : (m : Motion) (c d : CubieLists) → Valid c → (let w : CubieLists = moved m c in
    d.corners ≡ w.corners → d.twists ≡ w.twists → d.edges ≡ w.edges → d.flips ≡ w.flips → Made m c d)
made m c d v p q r s = subst (Made m c) (sym (lists_path d (moved m c) p q r s)) (moved-valid m c v, moved-map m c v)

abbrev pub KeepsPlaces : (Place → Place) → Type 0
KeepsPlaces e = (q : Place) → is_place q ≡ true → is_place (e q) ≡ true

-- how the cube is renamed for a coordinate on an axis: its map, its turns and its cubies
pub record IsRenaming (rename : (Place → Place) → Place → Place) (turn : Turn → Turn) (cubies : CubieLists → CubieLists) : Type 0 where
  pub valid : (c : CubieLists) → Valid c → Valid (cubies c)
  pub map_is : (c : CubieLists) → Valid c → SameMap (map_lists (cubies c)) (rename (map_lists c))
  pub same : (d e : Place → Place) → SameMap d e → SameMap (rename d) (rename e)
  pub turned_is : (t : Turn) (e : Place → Place) → KeepsPlaces e → SameMap (rename (λ q. turned t (e q))) (λ q. turned (turn t) (rename e q))
  pub onto : (c : CubieLists) → Valid c → (w : CubieLists) × Valid w × SameMap (map_lists c) (rename (map_lists w))

-- a rotation of the whole cube keeps the places, and is taken back
pub back-place : (v : Renaming) (q : Place) → is_place q ≡ true → is_place (rotated_back v q) ≡ true
back-place = each_renaming (λ v. Places λ q. Yes (is_place (rotated_back v q))) refl

pub out-back : (v : Renaming) (q : Place) → is_place q ≡ true → rotated v (rotated_back v q) ≡ q
out-back = each_renaming (λ v. Places λ q. Alike (rotated v (rotated_back v q)) q) refl

pub back-out : (v : Renaming) (q : Place) → is_place q ≡ true → rotated_back v (rotated v q) ≡ q
back-out = each_renaming (λ v. Places λ q. Alike (rotated_back v (rotated v q)) q) refl

-- under a renaming a turn becomes that of the face to which the face is brought
renamed-turn : (v : Renaming) (t : Turn) (q : Place) → is_place q ≡ true → rotated v (turned t q) ≡ turned (renamed_turn (face_by v) t) (rotated v q)
unfolding every_turn every_face every_power
renamed-turn = each_renaming (λ v. Turns λ t. Places λ q. Alike (rotated v (turned t q)) (turned (renamed_turn (face_by v) t) (rotated v q))) refl

-- A rotation made three times takes it back: so the cubies that become c under a renaming are c renamed thrice.
thrice : (v : Renaming) (q : Place) → is_place q ≡ true → rotated v (rotated v (rotated v q)) ≡ rotated_back v q
thrice = each_renaming (λ v. Places λ q. Alike (rotated v (rotated v (rotated v q))) (rotated_back v q)) refl

thrice-back : (v : Renaming) (q : Place) → is_place q ≡ true → rotated_back v (rotated_back v (rotated_back v (rotated_back v q))) ≡ q
thrice-back = each_renaming (λ v. Places λ q. Alike (rotated_back v (rotated_back v (rotated_back v (rotated_back v q)))) q) refl

renamed_from : (v : Renaming) (c : CubieLists) → Valid c → (w : CubieLists) × Valid w × SameMap (map_lists c) (renamed_by v (map_lists w))
renamed_from v c h =
    let m : Motion = Under v in
    let r : Place → Place = rotated_back v in
    let d : CubieLists = moved m c in
    let dh : Valid d = moved-valid m c h in
    let b : CubieLists = moved m d in
    let bh : Valid b = moved-valid m d dh in (
      moved m b,
      moved-valid m b bh,
      λ q p.
          let q₁ = back-place v q p in
          let q₂ = back-place v (r q) q₁ in
          sym (ap (rotated v) (moved-map m b bh (r q) q₁ ∙ ap (rotated v) (moved-map m d dh (r (r q)) q₂ ∙ ap (rotated v) (moved-map m c h (r (r (r q))) (back-place v (r (r q)) q₂))))
          ∙ ap (λ x. rotated v (rotated v (rotated v (rotated v (map_lists c x))))) (thrice-back v q p)
          ∙ ap (rotated v) (thrice v (map_lists c q) (map_place c h q p)) ∙ out-back v (map_lists c q) (map_place c h q p)),
    )

pub by_rotation : (v : Renaming) → IsRenaming (renamed_by v) (renamed_turn (face_by v)) (λ c. moved (Under v) c)
by_rotation v = record {
  valid = moved-valid (Under v);
  map_is = moved-map (Under v);
  same = λ d e s q p. ap (rotated v) (s (rotated_back v q) (back-place v q p));
  turned_is = λ t e keep q p. renamed-turn v t (e (rotated_back v q)) (keep (rotated_back v q) (back-place v q p));
  onto = renamed_from v;
}

pub not_renamed : IsRenaming (λ e. e) (λ t. t) (λ c. c)
not_renamed = record { valid = λ c v. v; map_is = λ c v q p. refl; same = λ d e s. s; turned_is = λ t e keep q p. refl; onto = λ c v. (c, v, λ q p. refl) }
