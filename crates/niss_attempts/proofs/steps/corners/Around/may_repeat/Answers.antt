use Rattle.std.proofs.Common.{◌+◌, ◌++◌, arith}
use Rattle.niss_attempts.specs.Parts.{bare_step, number_of_steps, repeated, repeated_line, steps_line}
use Rattle.niss_attempts.proofs.DeadLemmas.{stays_repeated}
use Rattle.niss_attempts.proofs.TailLemmas.{bare_none, bare_parted, before_parted, tail_between}
use Rattle.niss_attempts.proofs.steps.corners.Around.may_repeat.Goals as goal

pub returns : goal.returns
returns c scramble text bounds step is bare =
    let before = steps_line text bounds 0 step in
    let written = steps_line text bounds step (step + 1) in
    let alone = bare_step text bounds step in
    let own = repeated c.args.thrice alone in
    let after = steps_line text bounds (step + 1) (number_of_steps bounds) in
    c.may_solve.ensures scramble (repeated_line text bounds step c.args.thrice) is.attempt.scrambles
    (λ known.
    let around = is.are known in
    let up = (is.attempt.are_steps known).are_bounds.ascend in
    let parted = is.attempt.are_parted known in
    tail_between before own after c.with_later.result.to
    (c.with_later.ensures before (own ++ after) around.reads_before
    (c.repeated-later.ensures alone after bare around.ends (bare_parted text bounds step parted is.ordered.1))
    (stays_repeated before written after alone c.args.thrice (bare_none text bounds step)
    (before_parted text bounds step (step + 1) parted up (omega arith) is.ordered.1))))
