use Rattle.niss_shell.proofs.Names.{Ok, Err, true, false, refl, subst, err_from_is_err_and, Delivered, output_state, CannotWrite}
use Rattle.niss_shell.proofs.StateLemmas.{answered}
use Rattle.niss_shell.proofs.shell.write_steps.Goals as goal

pub returns-in_err-write-clause-answers : goal.returns-in_err-write-clause-answers
returns-in_err-write-clause-answers g c =
    let p = err_from_is_err_and c.from_residual.result c.from_residual.ensures.1 in
    rw (p.1, p.2) (λ looks. answered g.W.Target.call true _ (Err CannotWrite) _ _ refl
    (subst (λ t. Delivered g.W.Target.call true t 0 (output_state c.args.output.now looks) (output_state c.write.new.self looks))
    c.set_steps.ensures (c.in_err-write.ensures.written looks)))

pub returns-clause-answers : goal.returns-clause-answers
returns-clause-answers g c = λ looks. answered g.W.Target.call false _ (Ok tt) _ _ refl
    (subst (λ t. Delivered g.W.Target.call false t 0 (output_state c.args.output.now looks) (output_state c.write.new.self looks))
    c.set_steps.ensures (c.in_ok-write.ensures.written looks))
