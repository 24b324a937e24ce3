use Rattle.niss_shell.proofs.Names.{append-nil, [], refl, is_err, output_state, err_from_is_err_and}
use Rattle.niss_shell.proofs.StateLemmas.{delivers_more}
use Rattle.niss_shell.proofs.output.Output.write.Goals as goal

pub returns-clause-written : goal.returns-clause-written
returns-clause-written g c = λ looks.
    let text = c.args.self.now.next.items in
    delivers_more g.W.Target.call (is_err c.send.result) text [] text 0 0 0
    (output_state c.args.self.now looks) (output_state c.put.new.self looks) (output_state c.send.new.self looks)
    (append-nil text) refl (c.in_ok-put.ensures.taken looks) (c.send.ensures.sent looks)

pub returns-in_err-put-clause-written : goal.returns-in_err-put-clause-written
returns-in_err-put-clause-written g c =
    let p = err_from_is_err_and c.from_residual.result c.from_residual.ensures.1 in
    rw p.1 c.in_err-put.ensures.taken
