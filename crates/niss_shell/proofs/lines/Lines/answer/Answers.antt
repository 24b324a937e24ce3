use Rattle.niss_shell.proofs.Names.{Ok, Err, true, false, refl, err_from_is_err_and, home, CannotWrite}
use Rattle.niss_shell.proofs.SearchLemmas.{all_reported, not_started}
use Rattle.niss_shell.proofs.StateLemmas.{answered}
use Rattle.niss_shell.proofs.lines.Lines.answer.Goals as goal

pub returns-in_err-put-in-Rewrite-clause-answers : goal.returns-in_err-put-in-Rewrite-clause-answers
returns-in_err-put-in-Rewrite-clause-answers g c =
    let p = err_from_is_err_and c.from_residual.result c.from_residual.ensures.1 in
    rw (p.1, p.2, c.in-Rewrite.is, ← c.moves.ensures, ← c.rewrite.ensures)
    (answered g.W.Target.call true _ (Err CannotWrite) _ _ refl (c.in_err-put-in-Rewrite.ensures.taken c.args.self.now.looks.now))

pub returns-in_ok-put-in-Rewrite-clause-answers : goal.returns-in_ok-put-in-Rewrite-clause-answers
returns-in_ok-put-in-Rewrite-clause-answers g c =
    rw (c.in-Rewrite.is, ← c.moves.ensures, ← c.rewrite.ensures)
    (answered g.W.Target.call false _ (Ok tt) _ _ refl (c.in_ok-put-in-Rewrite.ensures.taken c.args.self.now.looks.now))

pub returns-in_default-clause-answers : goal.returns-in_default-clause-answers
returns-in_default-clause-answers g c =
    not_started g.W.Target.call c.in-Search.tables c.in-Search.query _ c.moves-in-Search.result.now _ _ c.in-Search.is c.moves-in-Search.ensures
    c.step.result (Err c.refuse.result) c.in_default.ensures c.step.ensures c.refuse.ensures.refused

pub returns-in_ok-answer-in-Search-clause-answers : goal.returns-in_ok-answer-in-Search-clause-answers
returns-in_ok-answer-in-Search-clause-answers g c =
    all_reported g.W.Target.call c.in-Search.tables c.in-Search.query _ c.moves-in-Search.result.now _ _ c.in-Search.is c.moves-in-Search.ensures
    false (Ok tt) refl c.in-Some.ensures.starts (c.in_ok-answer-in-Search.ensures.reports (home c.moves-in-Search.result.now) c.in-Some.ensures)

pub returns-in_err-answer-in-Search-clause-answers : goal.returns-in_err-answer-in-Search-clause-answers
returns-in_err-answer-in-Search-clause-answers g c =
    let p = err_from_is_err_and c.from_residual-in_err-answer-in-Search.result c.from_residual-in_err-answer-in-Search.ensures.1 in
    rw (p.1, p.2)
    (all_reported g.W.Target.call c.in-Search.tables c.in-Search.query _ c.moves-in-Search.result.now _ _ c.in-Search.is c.moves-in-Search.ensures
    true (Err CannotWrite) refl c.in-Some.ensures.starts (c.in_err-answer-in-Search.ensures.reports (home c.moves-in-Search.result.now) c.in-Some.ensures))
