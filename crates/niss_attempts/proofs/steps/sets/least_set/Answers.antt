use Rattle.std.proofs.Common.{◌≡◌, ◌∙◌, ◌+◌, ◌-◌, ◌<◌, ℕ, List, true, false, Ok, sym, subst, arith}
use Rattle.niss_attempts.specs.declared.steps.corners.StepCorners.{StepCorners}
use Rattle.niss_attempts.specs.Corners.{AreSteps, AreTails}
use Rattle.niss_attempts.specs.Parts.{solves_with, line_with}
use Rattle.niss_attempts.proofs.SetLemmas.{of, tails_kept, whole_tail, none_below_more}
use Rattle.niss_attempts.proofs.steps.sets.least_set.Goals as goal
use Rattle.niss_attempts.proofs.steps.sets.least_set.Goals.{else-may_solve-via-then-may_solve+else-solves_with, else-may_solve-via-else-may_solve}

pub loop-number-preserved : goal.loop-number-preserved
loop-number-preserved c =
    let text : List ℕ = c.args.whole.now.steps.now in
    let bounds : List ℕ = c.args.whole.now.bounds.now in
    let n : ℕ = c.loop-number.number in
    let few : n < 256 = omega (arith, c.loop-number-test.true, c.count_of_sets-number-end.ensures.few) in
    let some : 0 < n = omega (arith, c.loop-number.auto.number) in
    let tails : c.args.whole.now.corners.now.are_lines ≡ true → AreTails text bounds (of n) 0 c.renew.new.tails =
    λ known. c.renew.ensures text bounds
    (subst (λ (steps : List StepCorners). AreSteps text bounds steps) (sym c.as_slice-steps.ensures.value) (c.requires.whole.corners.are_steps known))
    (c.requires.whole.corners.are_parted known)
    (subst (λ (k : ℕ). AreTails text bounds (of n) (k + 1) c.loop-number.tails) (sym c.first.ensures.is)
    (tails_kept text bounds c.loop-number.tails n some few c.requires.whole.few.1 (c.loop-number.invariant.tails known))) in
    let not : solves_with (Ok c.args.whole.now.scramble.now) text bounds (of n) ≡ false = elim c.else-may_solve.branch [
      | else-may_solve-via-then-may_solve+else-solves_with w ↦ sym w.solves_with.ensures ∙ w.if-solves_with.false
      | else-may_solve-via-else-may_solve w ↦ c.may_solve.ensures c.args.whole.now.scramble.now (line_with text bounds (of n)) c.requires.whole.corners.scrambles
          (λ known. whole_tail text bounds (of n) c.renew.new.tails _ c.requires.whole.few.0 (tails known)) w.if-may_solve.false
    ] in
    let same : n ≡ n + 1 - 1 = omega arith in
    record {
      tails = λ known. subst (λ (k : ℕ). AreTails text bounds (of k) 0 c.renew.new.tails) same (tails known);
      none = none_below_more (solves_with (Ok c.args.whole.now.scramble.now) text bounds) n not c.loop-number.invariant.none;
    }
