use Rattle.niss_shell.proofs.Names.{◌≡◌, ◌<◌, length, drop, subst, false, true, arith, common_steps, err_from_is_err_and, Writes}
use Rattle.niss_shell.proofs.StateLemmas.{writes_none, writes_more, writes_some, refuses_none, refuses_fault}
use Rattle.niss_shell.proofs.writing.write_all.Goals as goal

pub loop-rest-init : goal.loop-rest-init
loop-rest-init g c = writes_none g.W.Target.call c.args.piece.now c.args.out.now

pub returns-in_err-count : goal.returns-in_err-count
returns-in_err-count g c =
    let p = err_from_is_err_and c.from_residual.result c.from_residual.ensures.1 in
    let some : 0 < length c.loop-rest.rest.now = grind (arith, common_steps) in
    rw p.1 (writes_more g.W.Target.call true _ _ _ _ c.loop-rest.out _ c.loop-rest.invariant
    (refuses_fault g.W.Target.call c.in_err-count.field-0.0 c.loop-rest.out c.write.new.self some c.in_err-count.ensures.made))

pub returns-then-count-eq0 : goal.returns-then-count-eq0
returns-then-count-eq0 g c =
    let some : 0 < length c.loop-rest.rest.now = grind (arith, common_steps) in
    writes_more g.W.Target.call true _ _ _ _ c.loop-rest.out _ c.loop-rest.invariant
    (refuses_none g.W.Target.call c.in_ok-count.count c.loop-rest.out c.write.new.self c.if-count-eq0.true some c.in_ok-count.ensures.made)

pub loop-rest-preserved : goal.loop-rest-preserved
loop-rest-preserved g c =
    let left : drop c.in_ok-count.count c.loop-rest.rest.now ≡ _ = grind (arith, common_steps) in
    subst (λ t. Writes g.W.Target.call false c.args.piece.now t c.args.out.now c.write.new.self) left
    (writes_more g.W.Target.call false _ _ _ _ c.loop-rest.out _ c.loop-rest.invariant
    (writes_some g.W.Target.call c.in_ok-count.count c.loop-rest.out c.write.new.self c.if-count-eq0.false c.in_ok-count.ensures.bound c.in_ok-count.ensures.made))
