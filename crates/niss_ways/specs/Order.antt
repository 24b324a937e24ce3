-- The order of ways.
use Rattle.std.specs.Prelude.{◌≡◌, ◌⊎◌, ℕ, suc, ◌+◌, ◌*◌, ◌<◌, ◌≤◌, ◌==◌, if◌then◌else◌, List, length, get_or}
use Rattle.niss_ways.specs.declared.way.Part.{Part}
use Rattle.niss_ways.specs.declared.way.Way.{Way}

-- the first step: the orientation, or the reduction if one holds already
abbrev pub first_part : Way → Part
first_part w = if w.eo.step == 255 then w.dr else w.eo

-- how many turns a part has on both sides
abbrev pub part_length : Part → ℕ
part_length p = p.normal.count + p.inverse.count

-- What ways are put in order by: all moves, then those of the first step, then the pieces of the case, then the first
-- step, in the order of the steps.
unfoldable pub rank_of : Way → ℕ
rank_of w =
    ((w.total * 512 + part_length (first_part w)) * 512 + (w.corners + w.edges)) * 256 + (first_part w).step

-- of the first n rows none has a greater rank than one behind it
abbrev pub IsSorted : ℕ → List Way → Type 0
IsSorted n rows = (i j : ℕ) (d : Way) → i < j → j < n → rank_of (get_or rows i d) ≤ rank_of (get_or rows j d)

-- None of the first n rows has a greater rank than that.
abbrev pub AreWithin : ℕ → ℕ → List Way → Type 0
AreWithin rank n rows = (k : ℕ) (d : Way) → k < n → rank_of (get_or rows k d) ≤ rank

-- Each of the first m rows that stood in a room stands there still, among n, or the room is full of rows none of which
-- comes after it.
abbrev pub AreKept : (m : ℕ) → List Way → (n : ℕ) → List Way → Type 0
AreKept m old n new =
    (j : ℕ) (d : Way) → j < m → ((k : ℕ) × (k < n) × (get_or new k d ≡ get_or old j d)) ⊎ ((n ≡ length new) × AreWithin (rank_of (get_or old j d)) n new)

-- The first n rows come before a row of that rank and number: each has a smaller rank, or the same and a smaller number.
abbrev pub ComeBefore : (rank place : ℕ) → Way → (number : ℕ → ℕ) → (n : ℕ) → List Way → Type 0
ComeBefore rank place d number n rows =
    (k : ℕ) → k < n → (rank_of (get_or rows k d) ≤ rank) × (rank_of (get_or rows k d) ≡ rank → number k < place)

-- Rows have numbers in the order in which they came: of the first m that stood in a room each has its place for a number,
-- and those that came have greater ones. Of two with the same rank the one with the smaller number stands before the other.
-- One that stood there stands there still, or the room is full of rows that come before it; and what came into a full room
-- has a smaller rank than the last one had.
pub record CameInTurn (m : ℕ) (old : List Way) (n : ℕ) (new : List Way) : Type 0 where
  pub number : ℕ → ℕ
  pub most : ℕ
  pub no_fewer : m ≤ most
  pub within : (k : ℕ) → k < n → number k < most
  pub stood : (k : ℕ) (d : Way) → k < n → number k < m → get_or new k d ≡ get_or old (number k) d
  pub in_turn : (i j : ℕ) (d : Way) → i < j → j < n → rank_of (get_or new i d) ≡ rank_of (get_or new j d) → number i < number j
  pub stay : (j : ℕ) (d : Way) → j < m
      → ((k : ℕ) × (k < n) × (number k ≡ j)) ⊎ ((n ≡ length new) × ComeBefore (rank_of (get_or old j d)) j d number n new)
  pub better : (rank : ℕ) (d : Way) → m ≡ length old → ((k : ℕ) → k < m → rank_of (get_or old k d) ≤ rank)
      → (k : ℕ) → k < n → m ≤ number k → rank_of (get_or new k d) < rank

unfoldable pub AreInTurn : (m : ℕ) → List Way → (n : ℕ) → List Way → Type 0
AreInTurn m old n new = CameInTurn m old n new

-- A way was put into a place among n rows, all from there on come after it, and stand one place further.
pub record IsPut (way : Way) (n : ℕ) (old new : List Way) : Type 0 where
  pub at : ℕ
  pub there : at ≤ n
  pub before : (k : ℕ) (d : Way) → k < at → get_or new k d ≡ get_or old k d
  pub here : (d : Way) → get_or new at d ≡ way
  pub behind : (k : ℕ) (d : Way) → at ≤ k → k < n → get_or new (suc k) d ≡ get_or old k d
  pub after : (k : ℕ) (d : Way) → at ≤ k → k < n → rank_of way < rank_of (get_or old k d)
