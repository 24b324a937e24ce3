use Rattle.std.proofs.Common.{◌≡◌, ◌∙◌, ◌+◌, ◌<◌, ℕ, Ok, false, length, sym, arith}
use Rattle.niss_attempts.specs.MovedStep.{solves_moved}
use Rattle.niss_attempts.proofs.MovedLemmas.{down_more, moved_down, step_more, step_reads}
use Rattle.niss_attempts.proofs.doubts.moved_step.is_moved_down.Goals as goal

pub exchange_solves-requires-clause-stretches : goal.exchange_solves-requires-clause-stretches
exchange_solves-requires-clause-stretches c known =
    let whole = c.args.whole.now in
    let text = whole.steps.now in
    let bounds = whole.bounds.now in
    let attempt = c.requires.whole.corners in
    let inv = c.loop-above.invariant in
    record {
      front = c.requires.fronts.reads known c.args.step _ (omega (arith, c.requires.fronts.number, c.requires.step));
      early = step_more text bounds whole.corners.now.steps.items c.deref.result.now (c.args.step + 1) c.loop-above.above c.loop-above.early c.then-early.result _
          c.deref.ensures.0 (attempt.are_steps known) (attempt.are_parted known) inv.below (omega (arith, c.loop-above-test.true)) c.then-early.ensures (inv.early known);
      late = step_reads text bounds whole.corners.now.steps.items c.deref-in-loop-above.result.now c.args.step _ c.deref-in-loop-above.ensures.0 (attempt.are_steps known)
          c.requires.step;
    }

pub returns-then-exchange_solves : goal.returns-then-exchange_solves
returns-then-exchange_solves c =
    let whole = c.args.whole.now in
    let place : ℕ = c.loop-above.above + 1 in
    let below : c.args.step + 1 < place = omega (arith, c.loop-above.invariant.below) in
    let within : place < length whole.bounds.now = omega (arith, c.loop-above-test.true) in
    (place, (below, within), moved_down (Ok whole.scramble.now) whole.steps.now whole.bounds.now c.args.step place below ∙ sym c.exchange_solves.ensures ∙ c.if-exchange_solves.true)

pub loop-above-preserved : goal.loop-above-preserved
loop-above-preserved c =
    let whole = c.args.whole.now in
    let text = whole.steps.now in
    let bounds = whole.bounds.now in
    let above : ℕ = c.loop-above.above in
    let attempt = c.requires.whole.corners in
    let inv = c.loop-above.invariant in
    record {
      below = omega (arith, inv.below);
      early = λ known.
          step_more text bounds whole.corners.now.steps.items c.deref.result.now (c.args.step + 1) above c.loop-above.early c.then-early.result _
          c.deref.ensures.0 (attempt.are_steps known) (attempt.are_parted known) inv.below (omega (arith, c.loop-above-test.true)) c.then-early.ensures (inv.early known);
      none = down_more (λ place. solves_moved (Ok whole.scramble.now) text bounds c.args.step place ≡ false) c.args.step above inv.none
          (moved_down (Ok whole.scramble.now) text bounds c.args.step (above + 1) (omega (arith, inv.below)) ∙ sym c.exchange_solves.ensures ∙ c.if-exchange_solves.false);
    }
