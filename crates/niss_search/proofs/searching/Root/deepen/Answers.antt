use Rattle.niss_search.proofs.Words.{◌≡◌, arith, sym, ap, length, List, Part, Turn}
use Rattle.niss_search.proofs.DeepeningLemmas.{found-delivers}
use Rattle.niss_search.proofs.DepthFirst.{below_at-start}
use Rattle.niss_search.proofs.searching.Root.deepen.Goals as goal

pub begin-ended-requires-clause-asked : goal.begin-ended-requires-clause-asked
begin-ended-requires-clause-asked g c =
    let start = below_at-start c.args.self.now.tables.now c.args.self.now.position.now c.args.length in
    record {
      room = omega (arith, c.requires.within, ap (λ (p : List Turn). length p) c.requires.empty);
      countable = rw (c.requires.empty, c.take.ensures.value, ap (λ (q : Part). q.looks) start) c.requires.meter;
      within = rw c.take.ensures.value c.requires.budget;
      found = omega arith;
    }

pub returns-clause-delivers : goal.returns-clause-delivers
returns-clause-delivers g c =
    let back : c.sink-1.given.0 ≡ c.begin-ended.new.self.sink.now = c.sink-1.given.1 (sym c.begin-ended.ensures.keeps.same_sink) in
    let made = rw (c.requires.empty, below_at-start c.args.self.now.tables.now c.args.self.now.position.now c.args.length, c.take.ensures.value) at c.begin-ended.ensures.makes in
    rw (c.finish.ensures.found, c.finish.ensures.meter, back)
    (found-delivers g.B.Budget.is_cut (g.B.Budget.bound c.args.budget.now) c.begin-ended.result.0 c.begin-ended.new.self.count g.K.Sink.took g.K.Sink.refused c.args.path.now.limit _ c.args.meter.now c.args.sink.now _ c.begin-ended.result.1 made)
