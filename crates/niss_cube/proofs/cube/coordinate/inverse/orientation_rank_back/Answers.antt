use Rattle.std.proofs.Common.{ap₂}
use Rattle.niss_cube.proofs.Words.{◌≡◌, ◌∙◌, ◌+◌, ◌-◌, ◌*◌, ◌%◌, ◌<◌, ◌≤◌, ℕ, ap, sym, arith, get_or}
use Rattle.niss_cube.proofs.Sums.{below}
use Rattle.niss_cube.proofs.InverseRanks.{sum_below, below-push, counted_small, low_by, back_by}
use Rattle.niss_cube.specs.Inverses.{counted_back}
use Rattle.niss_cube.proofs.cube.coordinate.inverse.orientation_rank_back.Goals as goal

pub loop-place-preserved : goal.loop-place-preserved
loop-place-preserved g c =
    let l = c.loop-place in
    let b : ℕ = g.row.FACELETS in
    let i : ℕ = l.place in
    let digits = c.args.digits.now in
    let from = c.args.from.now in
    let old : ℕ = get_or from i 0 in
    let home : ℕ = get_or c.args.homes.now old 0 in
    let w : ℕ = get_or digits.weights home 0 in
    let li : i < g.row.PLACES = omega arith in
    let lo : old < g.row.PLACES = c.requires.from_range i (omega arith) in
    let lh : home < g.row.PLACES = c.requires.home_range old (omega arith) in
    let digit = c.from.ensures ∙ back_by b (get_or digits.inward i 0) (get_or c.args.turns.now old 0) (get_or c.args.added.now i 0) (b - get_or digits.inward home 0)
    c.requires.facelets (c.requires.turn_range old (omega arith)) (c.requires.added_range i (omega arith)) in
    let small : w * c.from.result ≤ 2048 = counted_small w c.from.result (c.requires.digits.weight_small home (omega (arith, c.requires.digits.weight_at_each, lh))) (rw c.from.ensures (low_by b _ c.requires.facelets)) in
    record {
      so_far = ap₂ (λ n m. n + m) l.invariant.so_far (ap (λ d. w * d) digit) ∙ sym (below-push i _);
      small = omega (arith, l.invariant.small, small);
    }

pub returns : goal.returns
returns g c =
    let from = c.args.from.now in
    let term : ℕ → ℕ = λ i.
    counted_back g.row.FACELETS c.args.digits.now (get_or c.args.homes.now (get_or from i 0) 0)
    ((get_or c.args.turns.now (get_or from i 0) 0 + get_or c.args.added.now i 0) % g.row.FACELETS) i in
    let end : c.loop-place.place ≡ g.row.PLACES = omega (arith, c.loop-place-test.false) in
    c.loop-place.invariant.so_far ∙ ap (λ n. below n term) end ∙ sym (sum_below g.row.PLACES term)
