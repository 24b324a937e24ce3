use Rattle.niss_search.proofs.Words.{◌≡◌, ◌∙◌, [], arith, sym, ap, refl, positions, distance_at, beyond_at, reaching, looks, err_from_is_err_and, Path}
use Rattle.niss_search.proofs.Bounds.{looks-small, turns_of-length}
use Rattle.niss_search.proofs.DepthFirst.{near_paths, near_looks}
use Rattle.niss_search.proofs.JoinedLemmas.{joined_went, joined_ended, pairs-few}
use Rattle.niss_search.proofs.searching.both.walk.Walk.search_near.Goals as goal

pub descend_from-requires-clause-meter : goal.descend_from-requires-clause-meter
descend_from-requires-clause-meter g c =
    let step = c.args.self.now.tables.now in
    let x = g.S.StateSpace.seen c.args.tables.now.space c.args.state in
    let d = c.new-path.result.limit in
    let lim : d ≡ c.args.self.now.tail = ap (λ (p : Path). p.limit) c.new-path.ensures ∙ rw c.unwrap.ensures at c.new.ensures.value in
    rw c.requires.of_step (omega (arith, c.requires.asked.within, c.requires.asked.countable, near_looks step x d, looks-small (positions step) (distance_at step) x d (turns_of-length step) (omega (arith, lim, c.requires.few))))

pub returns : goal.returns
returns g c =
    let walk = c.args.self.now in
    let step = walk.tables.now in
    let head = c.args.head.now.turns in
    let x = g.S.StateSpace.seen c.args.tables.now.space c.args.state in
    let d = c.new-path.result.limit in
    let lim : d ≡ walk.tail = ap (λ (p : Path). p.limit) c.new-path.ensures ∙ rw c.unwrap.ensures at c.new.ensures.value in
    let paths = (beyond_at step x [] d).paths in
    let same = c.tails_follow_heads.ensures.found step walk.side walk.cube.now head x walk.tail c.requires.tail ∙ ap (reaching (positions step) x) (sym lim) ∙ sym (near_paths step x d) in
    let looked = c.tails_follow_heads.ensures.looked step walk.side walk.cube.now head x walk.tail c.requires.tail ∙ ap (looks (positions step) (distance_at step) x) (sym lim) ∙ sym (near_looks step x d) in
    let went = rw (c.in_ok-descend_from.was, c.requires.of_step) at c.descend_from.ensures.delivers in
    let did = joined_went g.K.PairSink.took g.K.PairSink.refused walk.ends step walk.cube.now walk.side head d paths _ c.descend_from.new.sink record { of_ends = refl; of_step = c.step.ensures; of_cube = refl; on_side = refl; has_head = refl } (omega arith) went.delivered in
    let few = pairs-few g.K.PairSink.took g.K.PairSink.refused walk.ends step walk.cube.now walk.side head d paths in
    let back : c.sink-2-1.given.0 ≡ c.descend_from.new.sink.sink.now = c.sink-2-1.given.1 (sym did.stays.same_sink) in
    rw (c.requires.end, same, looked, back) record {
      handed = record {
        taken = did.went;
        counted = omega (arith, did.counted, few, went.counted, c.in_ok-descend_from.ensures.counted, c.descend_from.ensures.within, c.requires.asked.countable);
        looked = omega (arith, went.looked);
      };
      counted = omega (arith, did.counted, few, went.counted, c.in_ok-descend_from.ensures.counted);
      within = c.descend_from.ensures.within;
      spent = tt;
    }

pub returns-in_err-descend_from : goal.returns-in_err-descend_from
returns-in_err-descend_from g c =
    let walk = c.args.self.now in
    let step = walk.tables.now in
    let head = c.args.head.now.turns in
    let x = g.S.StateSpace.seen c.args.tables.now.space c.args.state in
    let d = c.new-path.result.limit in
    let lim : d ≡ walk.tail = ap (λ (p : Path). p.limit) c.new-path.ensures ∙ rw c.unwrap.ensures at c.new.ensures.value in
    let same = c.tails_follow_heads.ensures.found step walk.side walk.cube.now head x walk.tail c.requires.tail ∙ ap (reaching (positions step) x) (sym lim) ∙ sym (near_paths step x d) in
    let looked = c.tails_follow_heads.ensures.looked step walk.side walk.cube.now head x walk.tail c.requires.tail ∙ ap (looks (positions step) (distance_at step) x) (sym lim) ∙ sym (near_looks step x d) in
    let p = err_from_is_err_and c.from_residual.result c.from_residual.ensures.1 in
    let stops = rw (c.in_err-descend_from.was, c.requires.of_step) at c.descend_from.ensures.delivers in
    let spent = rw (c.in_err-descend_from.was, c.requires.of_step) at c.descend_from.ensures.spent in
    let did = joined_ended g.K.PairSink.took g.K.PairSink.refused walk.ends step walk.cube.now walk.side head d _ _ _ c.descend_from.new.sink record { of_ends = refl; of_step = c.step.ensures; of_cube = refl; on_side = refl; has_head = refl } stops.stopped in
    let back : c.in_err-descend_from.sink-1-own.given.0 ≡ c.descend_from.new.sink.sink.now = c.in_err-descend_from.sink-1-own.given.1 (sym did.0.same_sink) in
    rw (p.1, p.2, c.requires.end, same, looked, back) record {
      handed = record {
        taken = did.1;
        over = λ cut. omega (arith, stops.over cut);
        rises = stops.rises;
        looked = omega (arith, stops.looked);
      };
      counted = tt;
      within = c.descend_from.ensures.within;
      spent = spent;
    }
