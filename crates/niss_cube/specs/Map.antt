-- A cube as a map of the sticker places, when two cubes are equal, and places by their positions in the facelet text.
use Rattle.std.specs.Prelude.{◌≡◌, ℕ, ◌+◌, ◌%◌, ◌<◌, if◌then◌else◌, List, slice_index, get_or, ◌==◌, Bool, ◌&&◌, nat_eq, IsTrue, ◌↔◌}
use Rattle.std.specs.List.{list_any, list_all}
use Rattle.niss_cube.specs.Names.{Place, places, facelet, U, same_place, is_corner, is_edge, Cube, SameMap}
use Rattle.niss_cube.specs.Cubies.{index_in, row_at, facelet_at, corner_facelets, edge_facelets}
use lib.Pointwise.{pointwise}

-- Where the sticker that began at p stands: p is facelet k of the home of cubie h, which stands at place n.
abbrev pub sticker_place : (facelets : ℕ) → List (List Place) → (homes orientations : List ℕ) → Place → Place
sticker_place facelets rows homes orientations p =
    let h : ℕ = index_in (λ row. list_any (same_place p) row) rows in
    let k : ℕ = index_in (same_place p) (row_at rows h) in
    let n : ℕ = index_in (λ x. x == h) homes in
    facelet_at rows n ((k + slice_index orientations n) % facelets)

-- where the sticker that began at a place stands, with the centres home
abbrev pub sticker_map : (corners twists edges flips : List ℕ) → Place → Place
sticker_map corners twists edges flips p =
    if is_corner p
    then sticker_place 3 corner_facelets corners twists p
    else (if is_edge p then sticker_place 2 edge_facelets edges flips p else p)

-- where the cube has the sticker that began at a place
abbrev pub map_of : Cube → Place → Place
map_of c = sticker_map c.corners c.twists c.edges c.flips

-- each of the 54 stickers stands where it began
unfoldable pub is_home : (Place → Place) → Bool
is_home e = list_all (λ q. same_place (e q) q) places

-- The test says whether a map is that of the solved cube, and sees the 54 places alone.
abbrev pub HomeIsTested : Type 0
HomeIsTested = (e : Place → Place) → IsTrue (is_home e) ↔ SameMap e (λ q. q)

abbrev pub HomeSeesPlaces : Type 0
HomeSeesPlaces = (d e : Place → Place) → SameMap d e → is_home d ≡ is_home e

-- the same cubies at the same places, turned alike
abbrev pub same_cubies : Cube → Cube → Bool
same_cubies c d =
    pointwise nat_eq c.corners d.corners
    && (pointwise nat_eq c.twists d.twists
    && (pointwise nat_eq c.edges d.edges && pointwise nat_eq c.flips d.flips))

unfoldable pub place_at : ℕ → Place
place_at n = get_or places n (facelet U 5)

-- The sticker that a cube has at a position began at another one.
abbrev pub BeganAt : Cube → (position origin : ℕ) → Type 0
BeganAt c position origin = (origin < 54) × (map_of c (place_at origin) ≡ place_at position)
