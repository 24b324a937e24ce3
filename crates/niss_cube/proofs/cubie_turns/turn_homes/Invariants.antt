use Rattle.niss_cube.proofs.Words.{◌≡◌, ℕ, ◌<◌, get_or, length}
use Rattle.niss_cube.proofs.cubie_turns.turn_homes.Given as goal

abbrev pub invariant-loop-place : goal.invariant-loop-place
invariant-loop-place g l =
    (length l.turned ≡ g.row.PLACES) × ((i : ℕ) → i < l.place → get_or l.turned i 0 ≡ get_or l.homes (get_or l.from i 0) 0)
