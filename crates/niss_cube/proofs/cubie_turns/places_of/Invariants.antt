use Rattle.niss_cube.proofs.Words.{◌≡◌, ℕ, ◌<◌, get_or, length}
use Rattle.niss_cube.proofs.cubie_turns.places_of.Given as goal

abbrev pub invariant-loop-place : goal.invariant-loop-place
invariant-loop-place g l =
    (length l.places ≡ g.row.PLACES) × ((i : ℕ) → i < l.place → get_or l.places (get_or l.homes i 0) 0 ≡ i)
