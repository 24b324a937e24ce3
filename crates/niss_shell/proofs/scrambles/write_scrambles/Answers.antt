use Rattle.niss_shell.proofs.Names.{◌≡◌, Ok, Err, true, false, refl, ap, ◌∙◌, arith, err_from_is_err_and, after_words}
use Rattle.niss_shell.proofs.Names.{CannotWrite}
use Rattle.niss_shell.proofs.StateLemmas.{delivers_nothing, answered}
use Rattle.niss_shell.proofs.ScrambleLemmas.{no_scramble, after_scramble, line_of_next, written_more, all_written, refused_line}
use Rattle.niss_shell.proofs.scrambles.write_scrambles.Goals as goal

pub loop-init : goal.loop-init
loop-init g c = record {
  generator = no_scramble _ _;
  written = λ looks. delivers_nothing g.W.Target.call _;
}

pub loop-preserved : goal.loop-preserved
loop-preserved g c = record {
  generator = c.draw_line.ensures.words ∙ ap (after_words c.args.turns) c.loop.invariant.generator ∙ after_scramble _ _ _;
  written = λ looks. written_more g.W.Target.call _ _ _ _ _ _ _ (c.draw_line.ensures.line ∙ line_of_next _ _ _ c.loop.invariant.generator)
      (c.loop.invariant.written looks) (c.in_ok-put.ensures.taken looks);
}

pub returns-in_err-put-clause-answers : goal.returns-in_err-put-clause-answers
returns-in_err-put-clause-answers g c =
    let p = err_from_is_err_and c.from_residual.result c.from_residual.ensures.1 in
    rw (p.1, p.2) (λ looks. answered g.W.Target.call true _ (Err CannotWrite) _ _ refl
    (refused_line g.W.Target.call _ _ _ _ _ _ _ _ c.loop-test.true (c.draw_line.ensures.line ∙ line_of_next _ _ _ c.loop.invariant.generator)
    (c.loop.invariant.written looks) (c.in_err-put.ensures.taken looks)))

pub returns-in_err-send-clause-answers : goal.returns-in_err-send-clause-answers
returns-in_err-send-clause-answers g c =
    let p = err_from_is_err_and c.from_residual-in_err-send.result c.from_residual-in_err-send.ensures.1 in
    let all : c.loop.counter ≡ c.args.count = omega (arith, c.loop-test.false, c.loop.auto.counter-end) in
    rw (p.1, p.2) (λ looks. answered g.W.Target.call true _ (Err CannotWrite) _ _ refl
    (all_written g.W.Target.call true _ _ _ _ _ all (c.loop.invariant.written looks) (c.in_err-send.ensures.sent looks)))

pub returns-clause-answers : goal.returns-clause-answers
returns-clause-answers g c = λ looks.
    let all : c.loop.counter ≡ c.args.count = omega (arith, c.loop-test.false, c.loop.auto.counter-end) in
    answered g.W.Target.call false _ (Ok tt) _ _ refl
    (all_written g.W.Target.call false _ _ _ _ _ all (c.loop.invariant.written looks) (c.in_ok-send.ensures.sent looks))
