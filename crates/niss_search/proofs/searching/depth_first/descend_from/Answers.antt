use Rattle.niss_search.proofs.Words.{◌≡◌, arith, sym, ap, length, List, Turn}
use Rattle.niss_search.proofs.DeepeningLemmas.{found-delivers}
use Rattle.niss_search.proofs.searching.depth_first.descend_from.Goals as goal

pub extend-ended-requires-clause-asked : goal.extend-ended-requires-clause-asked
extend-ended-requires-clause-asked g c =
    record {
      room = omega (arith, ap (λ (p : List Turn). length p) c.requires.empty, c.limit.ensures.value, c.get-length.ensures.value);
      countable = rw (c.requires.empty, c.take.ensures.value, c.get-length.ensures.value, c.limit.ensures.value) c.requires.meter;
      within = rw c.take.ensures.value c.requires.budget;
      found = omega (arith, c.requires.looked, c.take.ensures.value);
    }

pub returns-clause-delivers : goal.returns-clause-delivers
returns-clause-delivers g c =
    let back : c.sink-1.given.0 ≡ c.extend-ended.new.self.sink.now = c.sink-1.given.1 (sym c.extend-ended.ensures.keeps.same_sink) in
    let made = rw (c.requires.empty, c.get-length.ensures.value, c.limit.ensures.value, c.take.ensures.value) at c.extend-ended.ensures.makes in
    rw (c.finish.ensures.found, c.finish.ensures.meter, back)
    (found-delivers g.B.Budget.is_cut (g.B.Budget.bound c.args.guide.budget.now) c.extend-ended.result.0 c.extend-ended.new.self.count g.K.Sink.took g.K.Sink.refused c.args.path.now.limit _ c.args.meter.now c.args.sink.now _ c.extend-ended.result.1 made)
