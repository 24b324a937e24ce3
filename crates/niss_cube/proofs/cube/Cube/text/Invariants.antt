use Rattle.niss_cube.proofs.Words.{◌≡◌, ℕ, ◌<◌, get_or, map_of, letter_of, places, place_at}
use Rattle.niss_cube.proofs.cube.Cube.text.Given as goal

abbrev pub invariant-loop-position : goal.invariant-loop-position
invariant-loop-position l = (i : ℕ) → i < l.position → get_or l.letter-items i 0 ≡ letter_of (map_of l.self) places (place_at i)
