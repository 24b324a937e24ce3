use Rattle.niss_shell.proofs.Names.{◌≡◌, [], ◌++◌, false, refl, ap, ◌∙◌, arith, err_from_is_err_and, output_state, Delivered}
use Rattle.niss_shell.proofs.StateLemmas.{waits, delivers_nothing, delivers_more, refuses_front}
use Rattle.niss_shell.proofs.output.Output.put.Goals as goal
use Rattle.niss_shell.proofs.output.Output.put.Goals.{then-len-remaining_capacity+in_ok-send, else-len-remaining_capacity}

pub returns-in_err-send-clause-taken : goal.returns-in_err-send-clause-taken
returns-in_err-send-clause-taken g c =
    let p = err_from_is_err_and c.from_residual.result c.from_residual.ensures.1 in
    let text = c.args.self.now.next.items in
    rw p.1 (λ looks. refuses_front g.W.Target.call [] text text 0 0 (output_state c.args.self.now looks) (output_state c.send.new.self looks)
    refl (omega arith) (c.in_err-send.ensures.sent looks))

pub returns-clause-taken : goal.returns-clause-taken
returns-clause-taken g c = λ looks.
    let text = c.args.self.now.next.items in
    let mid = c.if-len-remaining_capacity.self in
    let sent : Delivered g.W.Target.call false [] 0 (output_state c.args.self.now looks) (output_state mid looks) =
    elim c.if-len-remaining_capacity.branch [
      | then-len-remaining_capacity+in_ok-send w ↦ rw w.self-is (w.in_ok-send.ensures.sent looks)
      | else-len-remaining_capacity w ↦ rw w.self-is (delivers_nothing g.W.Target.call (output_state c.args.self.now looks))
    ] in
    let same : mid.next.items ≡ text =
    elim c.if-len-remaining_capacity.branch [
      | then-len-remaining_capacity+in_ok-send w ↦ rw w.self-is (ap (λ t. t.items) w.in_ok-send.ensures.next)
      | else-len-remaining_capacity w ↦ rw w.self-is refl
    ] in
    delivers_more g.W.Target.call false [] text text 0 0 0 (output_state c.args.self.now looks) (output_state mid looks) _ refl refl sent
    (waits g.W.Target.call text (output_state mid looks) _ refl refl (c.put_text.ensures.words ∙ ap (λ t. mid.pending.items ++ t) (c.as_slice.ensures.value ∙ same)) refl)
