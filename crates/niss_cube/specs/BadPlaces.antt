-- Where the bad pieces of a cube stand: at which places of edges or corners a sticker is on the wrong side of a coordinate's set.
use Rattle.std.specs.Prelude.{◌≡◌, ℕ, ◌+◌, ◌*◌, ◌%◌, Bool, ◌&&◌, ◌||◌, not, ◌==◌, List, map, length, count_by, slice_index}
use Rattle.std.specs.List.{list_any, range_with_len}
use Rattle.niss_cube.specs.Names.{Place, places, same_place, Axis, Coordinate, Twist, Slice, Cube, SameMap}
use Rattle.niss_cube.specs.Cubies.{corner_facelets, edge_facelets, index_in}
use Rattle.niss_cube.specs.Map.{map_of}
use Rattle.niss_cube.specs.Sets.{set_of}
use Rattle.niss_cube.specs.BadPieces.{bad_pieces}
use lib.Lanes.{mask_l}

-- The sticker that began at a place is on the wrong side of a set: it began in it and stands outside, or the other way round.
abbrev pub strays : (Place → Bool) → (Place → Place) → Place → Bool
strays set e q = (set q && not (set (e q))) || (not (set q) && set (e q))

-- A sticker that a map brings to one of these facelets is on the wrong side.
unfoldable pub has_stray : (Place → Bool) → (Place → Place) → List Place → Bool
has_stray set e row = list_any (λ q. list_any (same_place (e q)) row && strays set e q) places

-- the facelets of each place that a coordinate depends on: of the eight corners, or of the twelve edges
abbrev pub rows_of : Coordinate → List (List Place)
rows_of Twist = corner_facelets
rows_of _ = edge_facelets

-- Which of these places have a bad piece: a flipped edge, a twisted corner, or an edge on the wrong side of the slice, which is
-- one of the slice outside it, or another one in it.
abbrev pub bad_places : Coordinate → Axis → (Place → Place) → List Bool
bad_places k a e = map (has_stray (set_of k a) e) (rows_of k)

-- the same as a number, of which bit i is set if place i has a bad piece
abbrev pub bad_mask : Coordinate → Axis → (Place → Place) → ℕ
bad_mask k a e = mask_l (bad_places k a e)

-- how many places have one
abbrev pub bad_count : Coordinate → Axis → (Place → Place) → ℕ
bad_count k a e = count_by (has_stray (set_of k a) e) (rows_of k)

-- So many pieces are bad as places have one. On the wrong side of a slice are two edges for each of its own outside it.
abbrev pub sides : Coordinate → ℕ
sides Slice = 2
sides _ = 1

abbrev pub BadPlacesAreCounted : Type 0
BadPlacesAreCounted = (k : Coordinate) (a : Axis) (c : Cube) → bad_count k a (map_of c) ≡ sides k * bad_pieces k a (map_of c)

-- Places are bad by the 54 places alone.
abbrev pub BadPlacesSeePlaces : Type 0
BadPlacesSeePlaces =
    (k : Coordinate) (a : Axis) (d e : Place → Place) → SameMap d e →
    (bad_mask k a d ≡ bad_mask k a e) × (bad_count k a d ≡ bad_count k a e)

-- The first facelet of each place that is in a coordinate's set, or their number if none is.
abbrev pub marks_of : Coordinate → Axis → List ℕ
marks_of k a = map (index_in (set_of k a)) (rows_of k)

-- Which cubies stand turned away from their place: the mark of its home, moved on by its turns, isn't the mark of its place.
abbrev pub turned_away : (facelets : ℕ) → (homes turns marks : List ℕ) → List Bool
turned_away facelets homes turns marks =
    map (λ i. not ((slice_index marks (slice_index homes i) + slice_index turns i) % facelets == slice_index marks i))
    (range_with_len 0 (length homes))
