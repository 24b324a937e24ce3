use Rattle.std.proofs.Common.{◌≡◌, ap, slice_range, arith}
use Rattle.niss_text.specs.Moves.{most_bytes}
use Rattle.niss_attempts.proofs.AttemptLemmas.{most_between}
use Rattle.niss_attempts.proofs.attempts.checks.Attempts.judge_part.Goals as goal

pub returns-clause-room : goal.returns-clause-room
returns-clause-room c = λ one two.
    let part = c.args.part.now in
    let lines = c.args.self.now.lines.now in
    let own : most_bytes c.stretch-own.result.now ≡ most_bytes (slice_range lines part.first_line part.solution_end) = ap most_bytes c.stretch-own.ensures.is in
    let others : most_bytes c.stretch-others.result.now ≡ most_bytes (slice_range lines 0 part.end_line) = ap most_bytes c.stretch-others.ensures.is in
    let few = most_between lines part.first_line part.solution_end in
    let all = most_between lines 0 part.end_line in
    c.check.ensures.room (omega (arith, own, few, one)) (omega (arith, own, few, two)) (omega (arith, others, all, one)) (omega (arith, others, all, two))
