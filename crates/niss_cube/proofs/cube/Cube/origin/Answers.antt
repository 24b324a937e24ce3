use Rattle.niss_cube.proofs.Words.{Fact, Same, Below, Alike, Both, When, Numbers, Holds, holds, refl, ap, ◌∙◌, ◌≡◌, ℕ}
use Rattle.niss_cube.proofs.Words.{◌+◌, ◌-◌, ◌*◌, ◌%◌, ◌<◌, get_or, false, nat_lt, nat_le, ◌&&◌, arith, is_corner}
use Rattle.niss_cube.proofs.Words.{is_edge, place_at, CUBIES, FACELETS, CORNER_POSITIONS, EDGE_POSITIONS, lt-ltb}
use Rattle.niss_cube.proofs.Words.{le-leb, and_both}
use Rattle.niss_cube.proofs.CubieKinds.{CubieLists, Valid, lists_of, map_lists, Kind, Corners, Edges, count, facelets}
use Rattle.niss_cube.proofs.CubieKinds.{at, home_at, turn_at, Stand, stand, low, rewound, origin, centre_stays}
use Rattle.niss_cube.proofs.cube.Cube.origin.Goals as goal

-- the position of a facelet of a cubie
abbrev position : Kind → ℕ → ℕ → ℕ
position Corners h j = get_or CORNER_POSITIONS (3 * h + j) 0
position Edges h j = get_or EDGE_POSITIONS (2 * h + j) 0

abbrev positions_fact : Kind → Fact
positions_fact k = Numbers (count k) λ h. Numbers (facelets k) λ j. Both (Below (position k h j) 54) (Alike (place_at (position k h j)) (at k h j))

positions_are : (k : Kind) → Holds (positions_fact k)
unfolding place_at
positions_are Corners = holds (positions_fact Corners) refl
positions_are Edges = holds (positions_fact Edges) refl

-- which facelet is at a position
abbrev facelet_fact : ℕ → Fact
facelet_fact i =
    Both (When (nat_lt (get_or CUBIES i 0) 8) (Both (Below (get_or FACELETS i 0) 3) (Alike (at Corners (get_or CUBIES i 0) (get_or FACELETS i 0)) (place_at i))))
    (Both (When (nat_le 8 (get_or CUBIES i 0) && nat_lt (get_or CUBIES i 0) 20) (Both (Below (get_or FACELETS i 0) 2) (Alike (at Edges (get_or CUBIES i 0 - 8) (get_or FACELETS i 0)) (place_at i))))
    (When (nat_le 20 (get_or CUBIES i 0)) (Both (Same (is_corner (place_at i)) false) (Same (is_edge (place_at i)) false))))

facelet_at : (i : ℕ) → i < 54 → Holds (facelet_fact i)
unfolding place_at
facelet_at = holds (Numbers 54 facelet_fact) refl

-- where the sticker began that a cube has at this facelet
began : (k : Kind) (c : CubieLists) → Valid c → (i n j : ℕ) → n < count k → (j < facelets k) × (at k n j ≡ place_at i) →
    (let o = position k (home_at k c n) ((facelets k - turn_at k c n + j) % facelets k) in (o < 54) × (map_lists c (place_at o) ≡ place_at i))
began k c v i n j ln t =
    let s : Stand k c = stand k c v in
    let p = positions_are k (home_at k c n) (s.placed.range n ln) _ (low k (facelets k - turn_at k c n + j)) in
    (p.0, ap (map_lists c) p.1 ∙ origin k c v n j _ ln (low k _) (rewound k j (turn_at k c n) t.0 (s.oriented.range n ln)) ∙ t.1)

pub returns-then-cubie-lt8 : goal.returns-then-cubie-lt8
returns-then-cubie-lt8 c =
    let cube = c.args.self.now in
    began Corners (lists_of cube) cube.are_cubies c.args.position _ _ c.if-cubie-lt8.true ((facelet_at c.args.position c.requires).0 (lt-ltb _ _ c.if-cubie-lt8.true))

pub returns-then-cubie-lt20 : goal.returns-then-cubie-lt20
returns-then-cubie-lt20 c =
    let cube = c.args.self.now in
    began Edges (lists_of cube) cube.are_cubies c.args.position (get_or CUBIES c.args.position 0 - 8) _ (omega (arith, c.if-cubie-lt8.false, c.if-cubie-lt20.true))
    ((facelet_at c.args.position c.requires).1.0 (and_both _ _ (le-leb _ _ c.if-cubie-lt8.false) (lt-ltb _ _ c.if-cubie-lt20.true)))

pub returns : goal.returns
returns c =
    let f = (facelet_at c.args.position c.requires).1.1 (le-leb _ _ c.if-cubie-lt20.false) in
    (c.requires, centre_stays (lists_of c.args.self.now) (place_at c.args.position) f.0 f.1)
