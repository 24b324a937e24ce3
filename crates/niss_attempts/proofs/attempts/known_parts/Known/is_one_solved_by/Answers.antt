use Rattle.std.proofs.Common.{sym, arith}
use Rattle.niss_attempts.proofs.KnownLemmas.{faulty_solves_none, long_solves_none}
use Rattle.niss_attempts.proofs.attempts.known_parts.Known.is_one_solved_by.Goals as goal

pub returns-in-Err : goal.returns-in-Err
returns-in-Err c = sym (faulty_solves_none c.args.self.now.scrambles.now c.args.self.now.ends.now c.args.solution.now _ c.in-Err.ensures.fault)

pub returns-then-solution-gt-MOST_BYTES : goal.returns-then-solution-gt-MOST_BYTES
returns-then-solution-gt-MOST_BYTES c =
    sym (long_solves_none c.args.self.now.scrambles.now c.args.self.now.ends.now c.args.solution.now (omega (arith, c.if-solution-gt-MOST_BYTES.true)))
