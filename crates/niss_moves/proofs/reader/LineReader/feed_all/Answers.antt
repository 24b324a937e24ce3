use Rattle.niss_moves.proofs.Names.{arith}
use Rattle.niss_moves.proofs.ReaderLemmas.{all_more, all_within}
use Rattle.niss_moves.proofs.reader.LineReader.feed_all.Goals as goal

pub loop-index-preserved : goal.loop-index-preserved
loop-index-preserved c =
    let l = c.loop-index in
    let s = c.feed_some-index in
    record {
      within = all_within c.args.bytes.now l.index s.result c.loop-index-test.true s.ensures.taken;
      fed = omega (arith, s.ensures.fed, l.invariant.fed);
      bytes = λ front h. all_more s.new.self front c.args.bytes.now l.index s.result (s.ensures.bytes _ (l.invariant.bytes front h));
      again = λ f h. s.ensures.again f (l.invariant.again f h);
    }
