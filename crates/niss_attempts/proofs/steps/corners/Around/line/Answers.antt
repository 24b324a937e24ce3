use Rattle.std.proofs.Common.{true, [], ◌++◌}
use Rattle.niss_attempts.specs.Parts.{in_brackets_if}
use Rattle.niss_attempts.proofs.DeadLemmas.{nothing_lives, stays_dead, stays_left_out, stays_in_brackets}
use Rattle.niss_attempts.proofs.TailLemmas.{tail_of_none, one_tail, tail_between}
use Rattle.niss_attempts.proofs.steps.corners.Around.line.Goals as goal

pub returns-in-Alone : goal.returns-in-Alone
returns-in-Alone c before own after around parted_before parted_own =
    rw c.in-Alone.is (one_tail own c.with_later.result.to (c.with_later.ensures own [] around.reads_own tail_of_none (λ dead. absurd (nothing_lives dead))))

pub returns-in-LeftOut : goal.returns-in-LeftOut
returns-in-LeftOut c before own after around parted_before parted_own = rw c.in-LeftOut.is (c.with_later-in-LeftOut.ensures before after around.reads_before around.ends (stays_left_out before own after parted_before))

pub returns-in-InBrackets : goal.returns-in-InBrackets
returns-in-InBrackets c before own after around parted_before parted_own =
    let later = c.with_later-later.ensures own after around.reads_own around.ends (stays_dead own after parted_own) in
    rw c.in-InBrackets.is (tail_between before (in_brackets_if true own) after c.with_later-in-InBrackets.result.to
    (c.with_later-in-InBrackets.ensures before (in_brackets_if true own ++ after) around.reads_before later (stays_in_brackets before own after parted_before)))
