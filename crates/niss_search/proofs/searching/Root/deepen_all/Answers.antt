use Rattle.niss_search.proofs.Words.{◌≡◌, ◌+◌, arith, ◌∙◌, sym, last_length, err_from_is_err_and, positions, distance_at, length}
use Rattle.niss_search.proofs.Words.{reaching}
use Rattle.niss_search.proofs.Bounds.{turns_of-length}
use Rattle.niss_search.proofs.ByLength.{least_below, least_below-more, length-next, least-is}
use Rattle.niss_search.proofs.DeepeningLemmas.{least-of, looks-room, goes-on, stops-here}
use Rattle.niss_search.proofs.DeepeningLemmas.{all-done}
use Rattle.niss_search.proofs.searching.Root.deepen_all.Goals as goal

pub deepen-requires-clause-meter : goal.deepen-requires-clause-meter
deepen-requires-clause-meter g c =
    let step = c.args.self.now.tables.now in
    looks-room (positions step) (distance_at step) c.args.self.now.position.now c.args.path.now.limit c.args.slack c.loop-length.length c.loop-length.invariant.went (turns_of-length step) c.requires.meter (omega arith)

pub overflow_add-solutions : goal.overflow_add-solutions
overflow_add-solutions g c =
    let step = c.args.self.now.tables.now in
    let went = rw (c.loop-length.invariant.path, c.in_ok-found.was) at c.deepen.ensures.delivers in
    omega (arith, c.loop-length.invariant.counted, c.in_ok-found.ensures.counted, went.looked, looks-room (positions step) (distance_at step) c.args.self.now.position.now c.args.path.now.limit c.args.slack c.loop-length.length c.loop-length.invariant.went (turns_of-length step) c.requires.meter (omega arith))

pub loop-length-preserved : goal.loop-length-preserved
loop-length-preserved g c =
    let inv = c.loop-length.invariant in
    let step = c.args.self.now.tables.now in
    let x = c.args.self.now.position.now in
    let d = c.loop-length.length in
    let went = rw (inv.path, c.in_ok-found.was) at c.deepen.ensures.delivers in
    let last = rw (inv.least, c.limit-limit.ensures.value) at c.last_length.ensures.value in
    let count : c.in_ok-found.found ≡ length (reaching (positions step) x d) = omega (arith, went.counted) in
    record {
      bounded = c.deepen.ensures.within;
      path = c.deepen.ensures.path ∙ inv.path;
      least = c.or-least.ensures ∙ rw (c.then_some.ensures, inv.least, count) (sym (least_below-more (reaching (positions step) x) d));
      within = omega (arith, length-next (reaching (positions step) x) c.args.path.now.limit c.args.slack d (omega (arith, last)));
      counted = omega (arith, inv.counted, c.in_ok-found.ensures.counted);
      went = goes-on (positions step) (distance_at step) x c.args.path.now.limit c.args.slack d inv.went went;
    }

pub returns-in_err-found : goal.returns-in_err-found
returns-in_err-found g c =
    let inv = c.loop-length.invariant in
    let step = c.args.self.now.tables.now in
    let x = c.args.self.now.position.now in
    let n = c.args.path.now.limit in
    let p = err_from_is_err_and c.from_residual.result c.from_residual.ensures.1 in
    let stops = rw (inv.path, c.in_err-found.was) at c.deepen.ensures.delivers in
    let last = rw (inv.least, c.limit-limit.ensures.value) at c.last_length.ensures.value in
    let stopped = stops-here (positions step) (distance_at step) x n c.args.slack c.loop-length.length inv.went (omega (arith, last)) stops in
    rw (p.1, p.2) record {
      length = tt;
      path = c.deepen.ensures.path ∙ inv.path;
      delivers = stopped;
      rises = omega (arith, inv.went.looked, stops.rises);
      within = c.deepen.ensures.within;
      spent = rw c.in_err-found.was at c.deepen.ensures.spent;
      limit = omega (arith, c.limit-limit.ensures.in_range, c.limit-limit.ensures.value);
    }

pub returns : goal.returns
returns g c =
    let inv = c.loop-length.invariant in
    let step = c.args.self.now.tables.now in
    let x = c.args.self.now.position.now in
    let n = c.args.path.now.limit in
    let last = rw (inv.least, c.limit-limit.ensures.value) at c.last_length.ensures.value in
    let end : c.loop-length.length ≡ last_length (least_below (reaching (positions step) x) c.loop-length.length) n c.args.slack + 1 = omega (arith, last, inv.within) in
    record {
      length = inv.least ∙ sym (least-of (positions step) x n ∙ least-is (reaching (positions step) x) n c.args.slack c.loop-length.length end);
      path = inv.path;
      delivers = all-done (positions step) (distance_at step) x n c.args.slack c.loop-length.length inv.went end;
      rises = omega (arith, inv.went.looked);
      within = inv.bounded;
      spent = tt;
      limit = omega (arith, c.limit-limit.ensures.in_range, c.limit-limit.ensures.value);
    }
