use Rattle.niss_shell.proofs.Names.{arith, between_to_end, err_from_is_err_and}
use Rattle.niss_shell.proofs.EngineLemmas.{piece_within, none_taken, block_more, block_stopped, block_whole, block_sent, block_unsent, keeps_same, keeps_more, kept}
use Rattle.niss_shell.proofs.lines.Lines.take_block.Goals as goal

pub loop-index-init : goal.loop-index-init
loop-index-init g c = record {
  keeps = keeps_same;
  takes = none_taken g.W.Target.call _;
  rises = record { column = omega arith; line = omega arith; looks = c.requires.ready.looks };
  within = omega arith;
}

pub loop-index-preserved : goal.loop-index-preserved
loop-index-preserved g c = record {
  keeps = keeps_more c.loop-index.invariant.keeps c.in_ok-index.ensures.keeps;
  takes = block_more g.W.Target.call c.args.bytes.now c.loop-index.index c.in_ok-index.field-0 (between_to_end c.args.bytes.now c.loop-index.index _ (omega arith))
      c.loop-index.invariant.takes (kept g.W.Target.call c.loop-index.invariant.keeps c.in_ok-index.ensures.takes);
  rises = record {
    column = omega (arith, c.in_ok-index.ensures.rises.column, c.loop-index.invariant.rises.column);
    line = omega (arith, c.in_ok-index.ensures.rises.line, c.loop-index.invariant.rises.line);
    looks = c.in_ok-index.ensures.rises.looks;
  };
  within = piece_within _ _ c.loop-index-test.true c.in_ok-index.ensures.count.1;
}

pub returns-in_err-index-clause-takes : goal.returns-in_err-index-clause-takes
returns-in_err-index-clause-takes g c =
    let p = err_from_is_err_and c.from_residual.result c.from_residual.ensures.1 in
    rw (p.1, p.2) (block_stopped g.W.Target.call c.args.bytes.now c.loop-index.index 1 (between_to_end c.args.bytes.now c.loop-index.index _ (omega arith))
    c.loop-index.invariant.takes (kept g.W.Target.call c.loop-index.invariant.keeps c.in_err-index.ensures.takes))

pub returns-in_err-send-clause-takes : goal.returns-in_err-send-clause-takes
returns-in_err-send-clause-takes g c =
    let p = err_from_is_err_and c.from_residual-in_err-send.result c.from_residual-in_err-send.ensures.1 in
    rw (p.1, p.2) (block_unsent g.W.Target.call (block_whole g.W.Target.call c.args.bytes.now c.loop-index.index (omega (arith, c.loop-index-test.false)) c.loop-index.invariant.takes)
    (c.in_err-send.ensures.sent c.loop-index.self.looks.now))

pub returns-clause-takes : goal.returns-clause-takes
returns-clause-takes g c =
    block_sent g.W.Target.call (block_whole g.W.Target.call c.args.bytes.now c.loop-index.index (omega (arith, c.loop-index-test.false)) c.loop-index.invariant.takes)
    (c.in_ok-send.ensures.sent c.loop-index.self.looks.now)
