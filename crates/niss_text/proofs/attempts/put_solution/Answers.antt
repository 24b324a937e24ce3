use Rattle.std.proofs.Common.{refl, arith}
use Rattle.niss_text.proofs.LineLemmas.{no_attempt, one_attempt}
use Rattle.niss_text.proofs.attempts.put_solution.Goals as goal

pub returns-then-length-eq0-clause-one : goal.returns-then-length-eq0-clause-one
returns-then-length-eq0-clause-one c = refl

pub returns-then-length-eq0-clause-first : goal.returns-then-length-eq0-clause-first
returns-then-length-eq0-clause-first c = λ room. no_attempt c.args.lines.now c.args.so_far.lines

pub returns-clause-one : goal.returns-clause-one
returns-clause-one c = refl

pub returns-clause-first : goal.returns-clause-first
returns-clause-first c = λ room.
    one_attempt c.args.lines.now c.put_attempt-count.new.lines c.args.so_far.lines c.put_attempt-count.result.0 c.solution_alone-attempt.result.number
    c.solution_alone-attempt.ensures.first
    (λ begun. c.put_attempt-count.ensures.numbers 0 c.args.so_far.lines (omega arith) begun room)
