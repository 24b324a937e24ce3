use Rattle.niss_moves.proofs.Names.{ap, length, arith, count, length-drop, between_to_end}
use Rattle.niss_moves.proofs.ReaderLemmas.{taken_next}
use Rattle.niss_moves.proofs.partial_line.PartialLine.take_moves.Goals as goal

pub loop-self-preserved : goal.loop-self-preserved
loop-self-preserved c =
    let bytes = c.args.bytes.now in
    let rest = between_to_end bytes c.loop-self.taken (length bytes) (omega arith) in
    record {
      within = omega (arith, c.in-Some.ensures.fits, ap length rest, length-drop c.loop-self.taken bytes, c.loop-self.invariant.within);
      taken = taken_next c.args.self.now c.loop-self.self c.push.new.self bytes _ c.loop-self.taken c.in-Some.length c.in-Some.token rest c.loop-self.invariant.taken (omega (arith, ap count c.self-in-loop-self.view_is, c.len.ensures, c.loop-self-test.true)) c.in-Some.ensures.moves c.push.ensures;
    }
