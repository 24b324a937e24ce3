use Rattle.niss_cube.proofs.Words.{◌≡◌, ◌+◌, ◌*◌, drop, fold, number}
use Rattle.niss_cube.proofs.cube.coordinate.ranking.rank_digits.Given as goal

abbrev pub invariant-loop-d : goal.invariant-loop-d
invariant-loop-d l = fold (λ n d. l.base * n + d) l.n (drop l.d-index l.digits) ≡ number l.base l.digits
