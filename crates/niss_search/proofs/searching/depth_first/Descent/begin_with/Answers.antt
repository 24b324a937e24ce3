use Rattle.niss_search.proofs.Words.{arith, ◌<◌, distance_at, at_limit, beyond_at, below_at, progress_of}
use Rattle.niss_search.proofs.DescentParts.{StopsIn-cut, beyond_at-far, GoesThrough-looks, Descends-then}
use Rattle.niss_search.proofs.KeptLemmas.{Keeps-same, Keeps-wider}
use Rattle.niss_search.proofs.SpentLemmas.{some_turns}
use Rattle.niss_search.proofs.searching.depth_first.Descent.begin_with.Goals as goal

pub returns-then-look-left : goal.returns-then-look-left
returns-then-look-left g c =
    let step = c.args.guide.tables.now.step in
    let seen = rw c.state-state.ensures at c.look.ensures.value in
    let far : c.args.left < distance_at step c.args.position.now = omega arith in
    record {
      keeps = Keeps-same c.args.self.now (omega (arith, c.look.ensures.tick));
      within = omega (arith, c.look.ensures.tick, c.in_default.ensures.within);
      spent = tt;
      makes = rw (beyond_at-far step c.args.position.now c.args.self.now.path.now.turns c.args.left far)
          (GoesThrough-looks 1 c.args.meter c.look.new.meter c.args.self.now.count c.args.self.now.sink.now c.look.ensures.tick);
    }

pub returns : goal.returns
returns g c =
    let path = c.args.self.now.path.now in
    let made = c.extend.ensures in
    let looked = GoesThrough-looks {took = at_limit g.K.Sink.took path.limit} {refused = at_limit g.K.Sink.refused path.limit} 1 c.args.meter c.look.new.meter c.args.self.now.count c.args.self.now.sink.now c.look.ensures.tick in
    record {
      keeps = Keeps-wider made.keeps (omega (arith, c.look.ensures.tick)) (omega arith);
      within = made.within;
      spent = made.spent;
      makes = Descends-then g.B.Budget.is_cut (g.B.Budget.bound c.args.guide.budget.now) c.extend.result.1 (beyond_at c.args.guide.tables.now.step c.args.position.now path.turns c.args.left) (progress_of c.extend.result.0 c.extend.new.self) looked (rw c.state-state.ensures at made.makes);
    }

pub returns-in-Err : goal.returns-in-Err
returns-in-Err g c =
    let path = c.args.self.now.path.now in
    let below = below_at c.args.guide.tables.now.step c.args.position.now path.turns c.args.left in
    record {
      keeps = Keeps-same c.args.self.now (omega arith);
      within = c.requires.asked.within;
      spent = λ cut. omega (arith, c.in-Err.ensures.over, some_turns c.args.guide.tables.now.step);
      makes = StopsIn-cut (g.B.Budget.bound c.args.guide.budget.now) below (progress_of c.args.meter c.args.self.now)
          (g.B.Budget.is_cut c.in-Err.stop) c.in-Err.ensures.cut (omega (arith, c.in-Err.ensures.over)) tt;
    }
