use Rattle.niss_shell.proofs.Names.{◌≡◌, Ok, take, length, ◌-◌, ◌∙◌, ap, ◌||◌, false, arith, most_bytes, err_from_is_err_and}
use Rattle.niss_shell.proofs.AnswerLemmas.{length_taken, at_start, at_more, at_failure, at_end, at_limit, at_stop}
use Rattle.niss_shell.proofs.StateLemmas.{still_open}
use Rattle.niss_shell.proofs.EngineLemmas.{keeps_same, keeps_more, kept, last_kept}
use Rattle.niss_shell.proofs.lines.Lines.read.Goals as goal

pub loop-given-init : goal.loop-given-init
loop-given-init g c = record {
  keeps = keeps_same;
  at = at_start g.W.Target.call _ g.S.Source.call _ c.args.source.now _ c.requires.first;
  reads = c.requires.begins.reads;
  goes_on = c.requires.begins.goes_on;
  empty = c.requires.begins.empty;
  room = omega arith;
  ready = record {
    column = omega (arith, c.requires.first.reader.fed);
    line = omega (arith, c.requires.first.line);
    looks = omega (arith, c.requires.first.line, c.requires.begins.room);
  };
  block = omega arith;
}

pub returns-in_default-clause-answers : goal.returns-in_default-clause-answers
returns-in_default-clause-answers g c =
    at_failure g.W.Target.call _ g.S.Source.call c.args.source.now c.loop-given.source c.read.new.self c.loop-given.invariant.at _ _
    c.loop-given.invariant.room c.requires.begins.empty c.loop-given.invariant.empty c.in_default.ensures.made

pub returns-then-given-eq0-clause-answers : goal.returns-then-given-eq0-clause-answers
returns-then-given-eq0-clause-answers g c =
    at_end g.W.Target.call _ g.S.Source.call c.args.source.now c.loop-given.source c.read.new.self c.loop-given.invariant.at c.in-Ok.given c.read.new.buf
    c.in-Ok.ensures.bound c.in-Ok.ensures.made _ _ c.loop-given.invariant.room c.requires.begins.empty c.loop-given.invariant.empty c.take_end.ensures.empty c.if-given-eq0.true (rw c.read.auto.buf c.loop-given.invariant.block)
    (last_kept g.W.Target.call c.loop-given.invariant.keeps c.take_end.ensures.ends)

pub returns-in_err-take_block-clause-answers : goal.returns-in_err-take_block-clause-answers
returns-in_err-take_block-clause-answers g c =
    let p = err_from_is_err_and c.from_residual.result c.from_residual.ensures.1 in
    rw (p.1, p.2) (at_limit g.W.Target.call _ g.S.Source.call c.args.source.now c.loop-given.source c.read.new.self c.loop-given.invariant.at c.in-Ok.given c.read.new.buf
    c.in-Ok.ensures.bound c.in-Ok.ensures.made (most_bytes - c.loop-given.count) _ _ c.requires.begins.empty c.loop-given.invariant.empty c.in_err-take_block.ensures.empty
    (omega (arith, c.loop-given.invariant.room)) c.if-given-room.true (kept g.W.Target.call c.loop-given.invariant.keeps c.in_err-take_block.ensures.takes))

pub returns-then-given-room-clause-answers : goal.returns-then-given-room-clause-answers
returns-then-given-room-clause-answers g c =
    at_limit g.W.Target.call _ g.S.Source.call c.args.source.now c.loop-given.source c.read.new.self c.loop-given.invariant.at c.in-Ok.given c.read.new.buf
    c.in-Ok.ensures.bound c.in-Ok.ensures.made (most_bytes - c.loop-given.count) (Ok tt) _ c.requires.begins.empty c.loop-given.invariant.empty c.in_ok-take_block.ensures.empty
    (omega (arith, c.loop-given.invariant.room)) c.if-given-room.true (kept g.W.Target.call c.loop-given.invariant.keeps c.in_ok-take_block.ensures.takes)

pub returns-in_err-take_block-2-clause-answers : goal.returns-in_err-take_block-2-clause-answers
returns-in_err-take_block-2-clause-answers g c =
    let p = err_from_is_err_and c.from_residual-in_err-take_block-2.result c.from_residual-in_err-take_block-2.ensures.1 in
    rw (p.1, p.2) (at_stop g.W.Target.call _ g.S.Source.call c.args.source.now c.loop-given.source c.read.new.self c.loop-given.invariant.at c.in-Ok.given c.read.new.buf
    c.in-Ok.ensures.bound c.in-Ok.ensures.made _ _ c.requires.begins.empty c.loop-given.invariant.empty c.in_err-take_block-2.ensures.empty
    (omega (arith, c.loop-given.invariant.room, c.if-given-room.false)) c.if-given-eq0.false
    (kept g.W.Target.call c.loop-given.invariant.keeps c.in_err-take_block-2.ensures.takes))

pub loop-given-preserved : goal.loop-given-preserved
loop-given-preserved g c =
    let e : length (take c.in-Ok.given c.read.new.buf) ≡ c.in-Ok.given = length_taken _ c.in-Ok.ensures.bound in
    let rises = c.in_ok-take_block-2.ensures.rises in
    let shown = g.met.S.Source.shown c.loop-given.source c.read.new.self _ c.in-Ok.ensures.made in
    record {
      keeps = keeps_more c.loop-given.invariant.keeps c.in_ok-take_block-2.ensures.keeps;
      at = at_more g.W.Target.call _ g.S.Source.call c.args.source.now c.loop-given.source c.read.new.self c.loop-given.invariant.at c.in-Ok.given c.read.new.buf
          c.in-Ok.ensures.bound c.in-Ok.ensures.made _ c.loop-given.invariant.room c.if-given-eq0.false (kept g.W.Target.call c.loop-given.invariant.keeps c.in_ok-take_block-2.ensures.takes);
      reads = shown.failed ∙ ap (λ f. f || false) c.loop-given.invariant.reads;
      goes_on = still_open c.in-Ok.given c.read.new.buf _ _ c.if-given-eq0.false c.in-Ok.ensures.bound c.loop-given.invariant.goes_on shown;
      empty = c.take_block-in-loop-given.ensures.empty;
      room = omega (arith, c.loop-given.invariant.room, c.if-given-room.false);
      ready = record {
        column = omega (arith, e, rises.column, c.loop-given.invariant.ready.column, c.if-given-room.false);
        line = omega (arith, e, rises.line, c.loop-given.invariant.ready.line, c.if-given-room.false);
        looks = rises.looks;
      };
      block = rw c.read.auto.buf c.loop-given.invariant.block;
    }
