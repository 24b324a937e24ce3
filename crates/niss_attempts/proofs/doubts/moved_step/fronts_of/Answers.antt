use Rattle.std.proofs.Common.{◌≡◌, ◌∙◌, ◌+◌, ◌<◌, ◌∷◌, [], ℕ, true, length, sym, ap, subst, arith, length-append}
use Rattle.niss_attempts.specs.Corners.{Reads}
use Rattle.niss_attempts.specs.Parts.{steps_line}
use Rattle.niss_attempts.proofs.CornerLines.{each_more}
use Rattle.niss_attempts.proofs.MovedLemmas.{step_more}
use Rattle.niss_attempts.proofs.doubts.moved_step.fronts_of.Goals as goal

pub loop-step-preserved : goal.loop-step-preserved
loop-step-preserved c =
    let whole = c.args.whole.now in
    let text = whole.steps.now in
    let bounds = whole.bounds.now in
    let step : ℕ = c.loop-step.step in
    let attempt = c.requires.whole.corners in
    let inv = c.loop-step.invariant in
    let within : step + 1 < length bounds = omega (arith, c.loop-step-test.true) in
    let long : length c.push-in-loop-step.new.self.items ≡ length c.loop-step.fronts.items + 1 =
    ap length c.push-in-loop-step.ensures.items ∙ length-append c.loop-step.fronts.items (c.then-front.result ∷ []) in
    let front = λ (known : whole.corners.now.are_lines ≡ true).
    step_more text bounds whole.corners.now.steps.items c.deref.result.now 0 step c.loop-step.front c.then-front.result _
    c.deref.ensures.0 (attempt.are_steps known) (attempt.are_parted known) (omega arith) within c.then-front.ensures (inv.front known) in
    record {
      number = omega (arith, long, inv.number);
      front = front;
      reads = λ known.
          each_more (λ k c. Reads (steps_line text bounds 0 k) c) c.loop-step.fronts.items c.push-in-loop-step.new.self.items c.then-front.result c.push-in-loop-step.ensures.items (inv.reads known)
          (subst (λ (n : ℕ). Reads (steps_line text bounds 0 n) c.then-front.result) (sym inv.number) (front known));
    }
