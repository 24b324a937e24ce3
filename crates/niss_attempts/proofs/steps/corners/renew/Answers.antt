use Rattle.std.proofs.Common.{◌≡◌, ◌+◌, ◌-◌, ◌<◌, ℕ, length, subst, arith, rules}
use Rattle.niss_attempts.specs.Corners.{AreTails}
use Rattle.niss_attempts.proofs.TailLemmas.{tails_more}
use Rattle.niss_attempts.proofs.steps.corners.renew.Goals as goal

pub loop-step-preserved : goal.loop-step-preserved
loop-step-preserved c =
    let step : ℕ = c.loop-step.step - 1 in
    let next : c.loop-step.step ≡ step + 1 = omega (arith, c.loop-step-test.true) in
    let here : step < length c.args.steps.now = omega (arith, c.loop-step-test.true, c.loop-step.auto.step, c.requires.0) in
    record {
      places = search (rules, c.loop-step.invariant.places);
      are = λ text bounds are parted tails. tails_more text bounds c.args.set c.args.steps.now c.loop-step.tails step _ _ c.with_later.result c.has.result are parted
          here (omega (arith, here, c.requires.1, c.loop-step.invariant.places)) c.has.ensures c.with_later.ensures
          (subst (λ (k : ℕ). AreTails text bounds c.args.set k c.loop-step.tails) next (c.loop-step.invariant.are text bounds are parted tails));
    }
