use Rattle.std.proofs.Common.{◌≡◌, ◌∙◌, ◌+◌, ◌-◌, ◌<◌, ℕ, Ok, false, sym, subst, arith}
use Rattle.niss_attempts.specs.Corners.{Reads}
use Rattle.niss_attempts.specs.MovedStep.{solves_moved}
use Rattle.niss_attempts.specs.Parts.{steps_line}
use Rattle.niss_attempts.proofs.MovedLemmas.{above_reads, moved_up, step_less, step_reads, up_more}
use Rattle.niss_attempts.proofs.doubts.moved_step.is_moved_up.Goals as goal

pub loop-place-init : goal.loop-place-init
loop-place-init c =
    let whole = c.args.whole.now in
    let step : ℕ = c.args.step in
    let last : step - 1 + 1 ≡ step = omega (arith, c.if-step-eq0.false) in
    record {
      above = omega (arith, last);
      late = λ known.
          above_reads whole.steps.now whole.bounds.now whole.corners.now.steps.items c.deref.result.now step _ c.deref.ensures.0 (c.requires.whole.corners.are_steps known)
          last (omega (arith, c.requires.step));
      none = λ place low high. absurd (omega (arith, low, high, last));
    }

pub exchange_solves-requires-clause-stretches : goal.exchange_solves-requires-clause-stretches
exchange_solves-requires-clause-stretches c known =
    let whole = c.args.whole.now in
    let text = whole.steps.now in
    let bounds = whole.bounds.now in
    let attempt = c.requires.whole.corners in
    let inv = c.loop-place.invariant in
    let place : ℕ = c.loop-place.place - 1 in
    let next : c.loop-place.place ≡ place + 1 = omega (arith, c.loop-place-test.true) in
    record {
      front = c.requires.fronts.reads known place _ (omega (arith, c.requires.fronts.number, c.requires.step, inv.above));
      early = step_reads text bounds whole.corners.now.steps.items c.deref-in-loop-place-2.result.now c.args.step _ c.deref-in-loop-place-2.ensures.0 (attempt.are_steps known)
          c.requires.step;
      late = step_less text bounds whole.corners.now.steps.items c.deref-in-loop-place.result.now place c.args.step c.loop-place.late c.then-late.result _
          c.deref-in-loop-place.ensures.0 (attempt.are_steps known) (attempt.are_parted known) (omega (arith, next, inv.above)) (omega (arith, c.requires.step)) c.then-late.ensures
          (subst (λ (n : ℕ). Reads (steps_line text bounds n c.args.step) c.loop-place.late) next (inv.late known));
    }

pub returns-then-exchange_solves : goal.returns-then-exchange_solves
returns-then-exchange_solves c =
    let whole = c.args.whole.now in
    let place : ℕ = c.loop-place.place - 1 in
    let above : place + 1 < c.args.step = omega (arith, c.loop-place-test.true, c.loop-place.invariant.above) in
    (place, above, moved_up (Ok whole.scramble.now) whole.steps.now whole.bounds.now c.args.step place (omega (arith, above)) ∙ sym c.exchange_solves.ensures ∙ c.if-exchange_solves.true)

pub loop-place-preserved : goal.loop-place-preserved
loop-place-preserved c =
    let whole = c.args.whole.now in
    let text = whole.steps.now in
    let bounds = whole.bounds.now in
    let attempt = c.requires.whole.corners in
    let inv = c.loop-place.invariant in
    let place : ℕ = c.loop-place.place - 1 in
    let next : c.loop-place.place ≡ place + 1 = omega (arith, c.loop-place-test.true) in
    record {
      above = omega (arith, next, inv.above);
      late = λ known.
          step_less text bounds whole.corners.now.steps.items c.deref-in-loop-place.result.now place c.args.step c.loop-place.late c.then-late.result _
          c.deref-in-loop-place.ensures.0 (attempt.are_steps known) (attempt.are_parted known) (omega (arith, next, inv.above)) (omega (arith, c.requires.step)) c.then-late.ensures
          (subst (λ (n : ℕ). Reads (steps_line text bounds n c.args.step) c.loop-place.late) next (inv.late known));
      none = up_more (λ at. solves_moved (Ok whole.scramble.now) text bounds c.args.step at ≡ false) c.args.step place
          (λ at low high. inv.none at (omega (arith, next, low)) high)
          (moved_up (Ok whole.scramble.now) text bounds c.args.step place (omega (arith, next, inv.above)) ∙ sym c.exchange_solves.ensures ∙ c.if-exchange_solves.false);
    }
