use Rattle.niss_search.proofs.Words.{◌∙◌, ◌<◌, arith, refl, positions, distance_at, looks, ℕ}
use Rattle.niss_search.proofs.BothLemmas.{look_first}
use Rattle.niss_search.proofs.DepthFirst.{near_looks, far_paths, far_looks}
use Rattle.niss_search.proofs.DescentParts.{WentInto-none}
use Rattle.niss_search.proofs.InverseLemmas.{tail_after}
use Rattle.niss_search.proofs.SpentLemmas.{some_turns}
use Rattle.niss_search.specs.BothWalk.{done_after}
use Rattle.niss_search.proofs.searching.both.walk.Walk.search_by_kind.Goals as goal

pub returns-then-count-self : goal.returns-then-count-self
returns-then-count-self g c =
    let walk = c.args.self.now in
    let step = walk.tables.now in
    let x = g.S.StateSpace.seen c.args.tables.now.space c.inverse_after-state.result in
    let tail = tail_after c.tails_follow_heads.ensures walk c.args.head.now.turns c.args.last.cube.now c.args.last.turn c.args.tables.now.step x c.requires.last c.requires.of_step c.inverse_after-state.ensures in
    let looked = c.tails_follow_heads.ensures.looked step walk.side walk.cube.now c.args.head.now.turns x walk.tail tail in
    let some : 0 < looks (positions step) (distance_at step) x walk.tail = omega (arith, near_looks step x walk.tail) in
    rw (c.requires.end, looked) record {
      handed = record {
        taken = WentInto-none g.K.PairSink.took g.K.PairSink.refused c.args.sink.now _;
        over = λ cut. omega (arith, some, c.if-count-self.true, c.count.ensures);
        rises = omega arith;
        looked = omega arith;
      };
      counted = tt;
      within = c.requires.asked.within;
      spent = λ cut. omega (arith, c.if-count-self.true, c.count.ensures, some_turns step);
    }

pub returns-then-look-self : goal.returns-then-look-self
returns-then-look-self g c =
    let walk = c.args.self.now in
    let step = walk.tables.now in
    let head = c.args.head.now.turns in
    let x = g.S.StateSpace.seen c.args.tables.now.space c.inverse_after-state.result in
    let tail = tail_after c.tails_follow_heads.ensures walk head c.args.last.cube.now c.args.last.turn c.args.tables.now.step x c.requires.last c.requires.of_step c.inverse_after-state.ensures in
    let seen = rw c.requires.of_step at c.look.ensures.value in
    let far : walk.tail < distance_at step x = omega (arith, seen, c.if-look-self.true) in
    let none = c.tails_follow_heads.ensures.found step walk.side walk.cube.now head x walk.tail tail ∙ far_paths step x walk.tail far in
    let once = c.tails_follow_heads.ensures.looked step walk.side walk.cube.now head x walk.tail tail ∙ far_looks step x walk.tail far in
    rw (c.requires.end, none, once) record {
      handed = record { taken = refl; counted = refl; looked = omega (arith, c.look.ensures.tick) };
      counted = omega (arith, c.look.ensures.tick);
      within = omega (arith, c.look.ensures.tick, c.if-count-self.false, c.count.ensures);
      spent = tt;
    }

pub search_near-requires-clause-tail : goal.search_near-requires-clause-tail
search_near-requires-clause-tail g c =
    tail_after c.tails_follow_heads.ensures c.args.self.now c.args.head.now.turns c.args.last.cube.now c.args.last.turn c.args.tables.now.step _ c.requires.last c.requires.of_step c.inverse_after-state.ensures

pub returns : goal.returns
returns g c =
    let walk = c.args.self.now in
    let step = walk.tables.now in
    let head = c.args.head.now.turns in
    let x = g.S.StateSpace.seen c.args.tables.now.space c.inverse_after-state.result in
    let tail = tail_after c.tails_follow_heads.ensures walk head c.args.last.cube.now c.args.last.turn c.args.tables.now.step x c.requires.last c.requires.of_step c.inverse_after-state.ensures in
    let looked = c.tails_follow_heads.ensures.looked step walk.side walk.cube.now head x walk.tail tail in
    let some : 0 < (done_after walk head).looks = rw (c.requires.end, looked) (omega (arith, near_looks step x walk.tail)) in
    look_first g.K.PairSink.took g.K.PairSink.refused walk.budget.now.bound step (λ (n : ℕ). n) (done_after walk head) c.search_near.result some c.look.ensures.tick c.search_near.ensures
