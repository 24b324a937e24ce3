use Rattle.std.proofs.Common.{◌∙◌, min, length, sym, arith}
use Rattle.niss_attempts.specs.Attempts.{most_tried, solves_known}
use Rattle.niss_search.proofs.CallerLemmas.{any_at, none_more}
use Rattle.niss_attempts.proofs.attempts.known_parts.Known.is_one_solved.Goals as goal

pub loop-number-preserved : goal.loop-number-preserved
loop-number-preserved c line read =
    none_more (solves_known c.args.self.now.scrambles.now c.args.self.now.ends.now line) c.loop-number.number (c.loop-number.invariant line read)
    (sym (c.is_solved_by.ensures line read) ∙ c.if-is_solved_by.false)

pub returns-then-is_solved_by : goal.returns-then-is_solved_by
returns-then-is_solved_by c line read =
    let it = c.args.self.now in
    sym (any_at (solves_known it.scrambles.now it.ends.now line) (min most_tried (length it.ends.now)) c.loop-number.number
    (omega arith) (sym (c.is_solved_by.ensures line read) ∙ c.if-is_solved_by.true))
