use Rattle.std.proofs.Common.{◌++◌, inl, arith}
use Rattle.niss_attempts.specs.Parts.{number_of_steps, steps_line}
use Rattle.niss_attempts.proofs.DeadLemmas.{dead_after, stays_dead}
use Rattle.niss_attempts.proofs.TailLemmas.{rests_between, tail_between}
use Rattle.niss_attempts.proofs.steps.corners.Around.may_insert.Goals as goal

pub returns : goal.returns
returns c scramble text bounds number bytes is within reads rests =
    let before = steps_line text bounds 0 number in
    let after = steps_line text bounds number (number_of_steps bounds) in
    c.may_solve.ensures scramble (before ++ bytes ++ after) is.attempt.scrambles
    (λ known.
    let around = is.are known in
    let up = (is.attempt.are_steps known).are_bounds.ascend in
    let parted = is.attempt.are_parted known in
    tail_between before bytes after c.with_later.result.to
    (c.with_later.ensures before (bytes ++ after) around.reads_before
    (c.with_later-later.ensures bytes after reads around.ends (stays_dead bytes after (inl rests)))
    (λ dead. dead_after before (bytes ++ after) (rests_between text bounds 0 number parted up (omega arith) within) dead)))
