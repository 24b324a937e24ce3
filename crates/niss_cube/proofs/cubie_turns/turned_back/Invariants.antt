use Rattle.niss_cube.proofs.Words.{◌≡◌, ℕ, ◌<◌, ◌-◌, ◌%◌, get_or, length}
use Rattle.niss_cube.proofs.cubie_turns.turned_back.Given as goal

abbrev pub invariant-loop-home : goal.invariant-loop-home
invariant-loop-home g l =
    (length l.back ≡ g.row.PLACES)
    × ((i : ℕ) → i < l.home → get_or l.back i 0 ≡ (g.row.FACELETS - get_or l.orientations (get_or l.places i 0) 0) % g.row.FACELETS)
