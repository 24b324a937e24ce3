use Rattle.std.proofs.Common.{◌∙◌, ℕ, List, ◌++◌, map, subst, arith}
use Rattle.std.specs.Prelude.{flat_map}
use Rattle.std.specs.List.{range_with_len}
use Rattle.niss_moves.specs.Reader.{IsFed}
use Rattle.niss_attempts.specs.declared.steps.reading.Reading.TheVariants.{AsWritten}
use Rattle.niss_attempts.specs.Parts.{read_byte, step_with, in_brackets_if}
use Rattle.niss_attempts.proofs.SetLemmas.{line_more}
use Rattle.niss_attempts.proofs.steps.sets.feed_steps.Goals as goal

pub loop-step-preserved : goal.loop-step-preserved
loop-step-preserved c =
    let text : List ℕ = c.args.whole.now.steps.now in
    let bounds : List ℕ = c.args.whole.now.bounds.now in
    let before : List ℕ = flat_map (step_with text bounds c.args.set) (range_with_len 0 c.loop-step.step) in
    record {
      fed = omega (arith, c.feed_step.ensures.fed, c.loop-step.invariant.fed, c.stretch-own.ensures.fits, c.requires.whole.room);
      bytes = subst (IsFed c.feed_step.new.reader)
          ((λ i. before ++ in_brackets_if (c.has.ensures i) (map (read_byte AsWritten) (c.stretch-own.ensures.is i))) ∙ line_more text bounds c.args.set c.loop-step.step)
          (c.feed_step.ensures.bytes before c.loop-step.invariant.bytes);
    }
