use Rattle.std.proofs.Common.{◌+◌, ℕ, List, map, subst}
use Rattle.std.specs.Prelude.{IfSome, slice_index, slice_range}
use Rattle.niss_attempts.specs.declared.steps.reading.Reading.TheVariants.{WithoutBrackets}
use Rattle.niss_attempts.specs.Corners.{Reads}
use Rattle.niss_attempts.specs.Parts.{read_byte}
use Rattle.niss_attempts.proofs.CornerLines.{bare_reads}
use Rattle.niss_attempts.proofs.steps.repeated.corners_of_bare.Goals as goal

pub returns : goal.returns
returns c scramble is =
    subst (λ (step : List ℕ). IfSome c.corners_of_step.result (Reads (map (read_byte WithoutBrackets) step))) c.stretch.ensures.is c.corners_of_step.ensures

pub returns-then-around-2 : goal.returns-then-around-2
returns-then-around-2 c scramble is =
    bare_reads (slice_range c.args.whole.now.steps.now (slice_index c.args.whole.now.bounds.now c.args.step) (slice_index c.args.whole.now.bounds.now (c.args.step + 1)))
    c.args.around.now.own c.if-around-2.true (is.are c.if-around.true).reads_own
