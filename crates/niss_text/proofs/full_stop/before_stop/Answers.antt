use Rattle.std.proofs.Common.{◌-◌, ◌∙◌, sym, arith}
use Rattle.niss_text.proofs.StopLemmas.{stop_byte, no_stop}
use Rattle.niss_text.proofs.full_stop.before_stop.Goals as goal

pub returns-then-end-eq0-clause-last : goal.returns-then-end-eq0-clause-last
returns-then-end-eq0-clause-last c = λ count long is.
    absurd (omega (arith, c.if-end-eq0.true, c.filled_length-end.ensures.all count long (stop_byte c.args.line.now count is)))

pub returns-then-is_stop-clause-last : goal.returns-then-is_stop-clause-last
returns-then-is_stop-clause-last c = λ count long is.
    omega (arith, c.filled_length-end.ensures.all count long (stop_byte c.args.line.now count is))

pub returns-clause-last : goal.returns-clause-last
returns-clause-last c = λ count long is.
    absurd (no_stop c.args.line.now (c.filled_length-end.result - 1) count
    (omega (arith, c.filled_length-end.ensures.all count long (stop_byte c.args.line.now count is))) is (sym c.is_stop.ensures ∙ c.if-is_stop.false))
