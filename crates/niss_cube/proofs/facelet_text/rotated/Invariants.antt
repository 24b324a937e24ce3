use Rattle.niss_cube.proofs.Words.{◌≡◌, ℕ, ◌<◌, get_or}
use Rattle.niss_cube.proofs.facelet_text.rotated.Given as goal

abbrev pub invariant-loop-position : goal.invariant-loop-position
invariant-loop-position l = (i : ℕ) → i < l.position → get_or l.letter-items i 0 ≡ get_or l.text (get_or l.before i 0) 0
