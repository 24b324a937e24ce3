use Rattle.niss_cube.proofs.Words.{◌≡◌, ◌≤◌, ◌<◌, ◌+◌, ◌*◌, arith, ℕ, drop, suc, get_or, List, [], ◌∷◌, length, ap}
use Rattle.niss_cube.proofs.Words.{drop-cons, fold}
use Rattle.niss_cube.proofs.cube.coordinate.ranking.rank_digits.Goals as goal

abbrev number_from : ℕ → ℕ → List ℕ → ℕ
number_from b a ds = fold (λ n d. b * n + d) a ds

mul_least : (a b : ℕ) → 0 < b → a ≤ b * a
mul_least a b h = grind arith

at_least : (b a : ℕ) (ds : List ℕ) → 0 < b → a ≤ number_from b a ds
at_least b a [] h = omega arith
at_least b a (d ∷ ds) h =
    let r : b * a + d ≤ number_from b (b * a + d) ds = at_least b (b * a + d) ds h in
    let s : a ≤ b * a = mul_least a b h in
    omega arith

-- the number so far and one more digit are no more than the whole number
step : (b n i : ℕ) (ds : List ℕ) (total : ℕ) → 0 < b → i < length ds → number_from b n (drop i ds) ≡ total → b * n + get_or ds i 0 ≤ total
step b n i ds total h l e =
    let r : b * n + get_or ds i 0 ≤ number_from b (b * n + get_or ds i 0) (drop (suc i) ds) = at_least b (b * n + get_or ds i 0) (drop (suc i) ds) h in
    let s : number_from b n (drop i ds) ≡ number_from b (b * n + get_or ds i 0) (drop (suc i) ds) = ap (number_from b n) (drop-cons ds i 0 l) in
    omega arith

pub overflow_mul-n : goal.overflow_mul-n
overflow_mul-n c = omega (arith, step c.args.base c.loop-d.n c.loop-d.d-index c.args.digits.now _ c.requires.some c.loop-d-test.true c.loop-d.invariant, c.requires.fits)

pub overflow_add-n : goal.overflow_add-n
overflow_add-n c = omega (arith, step c.args.base c.loop-d.n c.loop-d.d-index c.args.digits.now _ c.requires.some c.loop-d-test.true c.loop-d.invariant, c.requires.fits, c.from.ensures)
