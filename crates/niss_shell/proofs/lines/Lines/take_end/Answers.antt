use Rattle.niss_shell.proofs.Names.{Ok, Err, true, false, refl, ◌∙◌, err_from_is_err_and, CannotWrite}
use Rattle.niss_shell.proofs.EngineLemmas.{last_line, last_sent}
use Rattle.niss_shell.proofs.lines.Lines.take_end.Goals as goal

pub returns-in_err-send-clause-ends : goal.returns-in_err-send-clause-ends
returns-in_err-send-clause-ends g c =
    let p = err_from_is_err_and c.from_residual-in_err-send.result c.from_residual-in_err-send.ensures.1 in
    rw (p.1, p.2) (last_sent g.W.Target.call true (Err CannotWrite) refl (last_line g.W.Target.call (λ e. c.if-fed-eq0.false (c.fed.ensures ∙ e)) c.in_ok-end_line.ensures.answers)
    (c.in_err-send.ensures.sent c.end_line.new.self.looks.now))

pub returns-clause-ends : goal.returns-clause-ends
returns-clause-ends g c =
    last_sent g.W.Target.call false (Ok tt) refl (last_line g.W.Target.call (λ e. c.if-fed-eq0.false (c.fed.ensures ∙ e)) c.in_ok-end_line.ensures.answers)
    (c.in_ok-send.ensures.sent c.end_line.new.self.looks.now)

pub returns-in_err-end_line-clause-ends : goal.returns-in_err-end_line-clause-ends
returns-in_err-end_line-clause-ends g c =
    let p = err_from_is_err_and c.from_residual.result c.from_residual.ensures.1 in
    rw (p.1, p.2) (last_line g.W.Target.call (λ e. c.if-fed-eq0.false (c.fed.ensures ∙ e)) c.in_err-end_line.ensures.answers)
