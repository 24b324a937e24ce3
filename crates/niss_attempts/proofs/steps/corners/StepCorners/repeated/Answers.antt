use Rattle.std.proofs.Common.{◌++◌}
use Rattle.niss_attempts.proofs.DeadLemmas.{stays_dead, stays_twice, stays_thrice}
use Rattle.niss_attempts.proofs.TailLemmas.{tail_between, tail_of_four}
use Rattle.niss_attempts.proofs.steps.corners.StepCorners.repeated.Goals as goal

pub returns-then-not-thrice : goal.returns-then-not-thrice
returns-then-not-thrice c bytes more one later parted =
    rw c.if-not-thrice.true (tail_between bytes bytes more c.with_later-twice.result.to
    (c.with_later-twice.ensures bytes (bytes ++ more) one (c.with_later.ensures bytes more one later (stays_dead bytes more parted)) (stays_twice bytes more parted)))

pub returns : goal.returns
returns c bytes more one later parted =
    rw c.if-not-thrice.false (tail_of_four bytes bytes bytes more c.with_later-2.result.to
    (c.with_later-2.ensures bytes (bytes ++ (bytes ++ more)) one (c.with_later-twice.ensures bytes (bytes ++ more) one (c.with_later.ensures bytes more one later (stays_dead bytes more parted)) (stays_twice bytes more parted))
    (stays_thrice bytes more parted)))
