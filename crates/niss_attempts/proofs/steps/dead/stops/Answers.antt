use Rattle.std.proofs.Common.{arith, subst}
use Rattle.niss_moves.specs.Reader.{IsFed}
use Rattle.niss_attempts.specs.Parts.{read_byte}
use Rattle.niss_attempts.proofs.DeadLemmas.{fed_more, stops_here}
use Rattle.niss_attempts.proofs.steps.dead.stops.Goals as goal

pub returns-in-Err : goal.returns-in-Err
returns-in-Err c front fed stopped =
    stops_here c.feed.new.self front (read_byte c.args.reading) c.args.steps.now c.loop-byte.byte-index _ c.read.result c.in-Err.field-0 c.loop-byte-test.true c.read.ensures
    c.in-Err.ensures.reported (c.feed.ensures.bytes _ (c.loop-byte.invariant.bytes front fed))

pub loop-byte-preserved : goal.loop-byte-preserved
loop-byte-preserved c = record {
  fed = omega (arith, c.feed.ensures.fed, c.loop-byte.invariant.fed);
  bytes = λ front fed.
      subst (IsFed c.feed.new.self) (fed_more front (read_byte c.args.reading) c.args.steps.now c.loop-byte.byte-index _ c.read.result c.loop-byte-test.true c.read.ensures)
      (c.feed.ensures.bytes _ (c.loop-byte.invariant.bytes front fed));
}
