use Rattle.niss_shell.proofs.Names.{err_from_is_err_and}
use Rattle.niss_shell.proofs.EngineLemmas.{line_feed_taken}
use Rattle.niss_shell.proofs.lines.Lines.take_piece.Goals as goal

pub returns-in_err-end_line-clause-takes : goal.returns-in_err-end_line-clause-takes
returns-in_err-end_line-clause-takes g c =
    let p = err_from_is_err_and c.from_residual.result c.from_residual.ensures.1 in
    rw (p.1, p.2) (line_feed_taken g.W.Target.call c.args.bytes.now c.requires.some c.if-bytes-eq10.true c.in_err-end_line.ensures.answers tt tt)

pub returns-then-bytes-eq10-clause-takes : goal.returns-then-bytes-eq10-clause-takes
returns-then-bytes-eq10-clause-takes g c =
    line_feed_taken g.W.Target.call c.args.bytes.now c.requires.some c.if-bytes-eq10.true c.in_ok-end_line.ensures.answers
    c.in_ok-end_line.ensures.reader c.in_ok-end_line.ensures.line
