use Rattle.niss_attempts.specs.Parts.{number_of_steps, steps_line, arranged}
use Rattle.niss_attempts.proofs.TailLemmas.{before_parted, steps_parted}
use Rattle.niss_attempts.proofs.steps.corners.Around.may_arrange.Goals as goal

pub returns : goal.returns
returns c scramble text bounds first end is =
    let before = steps_line text bounds 0 first in
    let own = steps_line text bounds first end in
    let after = steps_line text bounds end (number_of_steps bounds) in
    c.may_solve.ensures scramble (arranged c.args.how before own after) is.attempt.scrambles
    (λ known.
    let up = (is.attempt.are_steps known).are_bounds.ascend in
    let parted = is.attempt.are_parted known in
    c.line.ensures before own after (is.are known) (before_parted text bounds first end parted up is.ordered.0 is.ordered.1)
    (steps_parted text bounds first end parted up is.ordered.0 is.ordered.1))
