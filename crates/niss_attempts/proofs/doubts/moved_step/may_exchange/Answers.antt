use Rattle.std.proofs.Common.{◌++◌, List, ℕ}
use Rattle.niss_attempts.specs.MovedStep.{line_exchanged, with_blank}
use Rattle.niss_attempts.specs.Parts.{number_of_steps, steps_line}
use Rattle.niss_attempts.proofs.MovedLemmas.{blank_reads, blank_stays}
use Rattle.niss_attempts.proofs.TailLemmas.{plain_tail, tail_of_four}
use Rattle.niss_attempts.proofs.doubts.moved_step.may_exchange.Goals as goal

pub returns : goal.returns
returns c none =
    let whole = c.args.whole.now in
    let steps = whole.steps.now in
    let bounds = whole.bounds.now in
    let places = c.args.exchange.now in
    let attempt = c.requires.whole.corners in
    let does = c.args.stretches.now in
    let front : List ℕ = steps_line steps bounds 0 places.first in
    let early : List ℕ = steps_line steps bounds places.middle places.last in
    let late : List ℕ = steps_line steps bounds places.first places.middle in
    let rest : List ℕ = steps_line steps bounds places.last (number_of_steps bounds) in
    c.may_solve.ensures whole.scramble.now (line_exchanged steps bounds places) attempt.scrambles
    (λ known.
    let are = c.requires.stretches known in
    let last = plain_tail steps bounds whole.corners.now.tails places.last _ (attempt.are_steps known).are_bounds.ascend (attempt.are_tails known) c.requires.within.within in
    tail_of_four (with_blank front) (with_blank early) (with_blank late) rest c.with_later-all.result.to
    (c.with_later-all.ensures (with_blank front) (with_blank early ++ (with_blank late ++ rest)) (blank_reads front does.front are.front)
    (c.with_later-later.ensures (with_blank early) (with_blank late ++ rest) (blank_reads early does.early are.early)
    (c.with_later-last.ensures (with_blank late) rest (blank_reads late does.late are.late) last (blank_stays late rest))
    (blank_stays early (with_blank late ++ rest)))
    (blank_stays front (with_blank early ++ (with_blank late ++ rest)))))
    none
