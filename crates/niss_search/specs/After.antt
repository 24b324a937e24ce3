-- The order in which a search hands out solutions, and those of them that come after a sequence.
use Rattle.std.specs.Prelude.{ℕ, ◌+◌, ◌*◌, ◌==◌, ◌&&◌, ◌||◌, nat_lt, Bool, false, if◌then◌else◌}
use Rattle.std.specs.Prelude.{List, [], ◌∷◌, length, filter, flat_map, sum_by}
use Rattle.niss_moves.specs.Places.{Place}
use Rattle.niss_moves.specs.Indices.{face_index, power_index}
use Rattle.niss_search.specs.Names.{Turn, Step}
use Rattle.niss_search.specs.Solutions.{reaching, looks, up_to}
use Rattle.niss_search.specs.Cubes.{cubes, distance_of}

-- the place of a turn in turn order
abbrev pub turn_place : Turn → ℕ
turn_place t = 3 * face_index t.face + power_index t.power

-- Is the second of two sequences the later one in turn order? Where they first differ, its turn is.
unfoldable pub is_later : List Turn → List Turn → Bool
is_later [] q = false
is_later (t ∷ ts) [] = false
is_later (t ∷ ts) (u ∷ us) = if turn_place t == turn_place u then is_later ts us else nat_lt (turn_place t) (turn_place u)

-- Does the second one come after the first? It is longer, or of the same length and later in turn order.
abbrev pub comes_after : List Turn → List Turn → Bool
comes_after p q = nat_lt (length p) (length q) || length p == length q && is_later p q

-- the canonical sequences of at most n turns that reach the step, by length and then in turn order
abbrev pub sequences_of : Step → (Place → Place) → ℕ → List (List Turn)
sequences_of step e n = flat_map (reaching (cubes step) e) (up_to n)

-- those of them that come after p
abbrev pub sequences_after : Step → (Place → Place) → ℕ → List Turn → List (List Turn)
sequences_after step e n p = filter (comes_after p) (sequences_of step e n)

-- the looks of the deepenings to each length up to n
abbrev pub deepening_looks_of : Step → (Place → Place) → ℕ → ℕ
deepening_looks_of step e n = sum_by (looks (cubes step) (distance_of step) e) (up_to n)
