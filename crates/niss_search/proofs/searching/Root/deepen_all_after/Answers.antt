use Rattle.niss_search.proofs.Words.{◌≡◌, ◌+◌, ◌-◌, ◌≤◌, ◌∙◌, arith, length, range_with_len, for_each, err_from_is_err_and, positions, distance_at}
use Rattle.niss_search.proofs.Words.{deepening}
use Rattle.niss_search.proofs.DescentParts.{StopsIn-before, GoesThrough-looks}
use Rattle.niss_search.proofs.AfterParts.{later_at-small, all_after-none, all_after-is, all_after-start, goes-on_after, stops_after, room_after}
use Rattle.niss_search.proofs.searching.Root.deepen_all_after.Goals as goal

pub deepen_later-requires-clause-meter : goal.deepen_later-requires-clause-meter
deepen_later-requires-clause-meter g c =
    let few : length c.args.after.now ≤ 20 = omega arith in
    omega (arith, later_at-small c.args.self.now.tables.now c.args.self.now.position.now c.args.after.now few, c.requires.meter)

pub returns-in_err-solutions-clause-delivers : goal.returns-in_err-solutions-clause-delivers
returns-in_err-solutions-clause-delivers g c =
    let step = c.args.self.now.tables.now in
    let x = c.args.self.now.position.now in
    let after = c.args.after.now in
    let n = c.args.path.now.limit in
    let p = err_from_is_err_and c.from_residual.result c.from_residual.ensures.1 in
    let within : length after ≤ n = omega arith in
    let stops = rw c.in_err-solutions.was at c.deepen_later.ensures.delivers in
    rw (p.1, p.2, all_after-start step x after n within)
    (StopsIn-before (for_each (deepening (positions step) (distance_at step) x) (range_with_len (length after + 1) (n - length after))) stops)

pub deepen-requires-clause-meter : goal.deepen-requires-clause-meter
deepen-requires-clause-meter g c =
    let step = c.args.self.now.tables.now in
    let inv = c.loop-length.invariant in
    room_after step c.args.self.now.position.now c.args.after.now c.loop-length.length inv.went inv.from c.requires.meter (omega arith)

pub returns-in_err-solutions-2-clause-delivers : goal.returns-in_err-solutions-2-clause-delivers
returns-in_err-solutions-2-clause-delivers g c =
    let step = c.args.self.now.tables.now in
    let inv = c.loop-length.invariant in
    let p = err_from_is_err_and c.from_residual-in_err-solutions-2.result c.from_residual-in_err-solutions-2.ensures.1 in
    let stops = rw (inv.path, c.in_err-solutions-2.was) at c.deepen.ensures.delivers in
    let within : c.loop-length.length ≤ c.args.path.now.limit = omega arith in
    rw (p.1, p.2) (stops_after step c.args.self.now.position.now c.args.after.now c.loop-length.length inv.went inv.from c.args.path.now.limit within stops)

pub overflow_add-solutions : goal.overflow_add-solutions
overflow_add-solutions g c =
    let step = c.args.self.now.tables.now in
    let inv = c.loop-length.invariant in
    let went = rw (inv.path, c.in_ok-solutions-2.was) at c.deepen.ensures.delivers in
    omega (arith, inv.counted, c.in_ok-solutions-2.ensures.counted, went.looked, room_after step c.args.self.now.position.now c.args.after.now c.loop-length.length inv.went inv.from c.requires.meter (omega arith))

pub loop-length-preserved : goal.loop-length-preserved
loop-length-preserved g c =
    let step = c.args.self.now.tables.now in
    let inv = c.loop-length.invariant in
    let went = rw (inv.path, c.in_ok-solutions-2.was) at c.deepen.ensures.delivers in
    record {
      bounded = c.deepen.ensures.within;
      path = c.deepen.ensures.path ∙ inv.path;
      from = omega (arith, inv.from);
      within = omega arith;
      counted = omega (arith, inv.counted, c.in_ok-solutions-2.ensures.counted);
      went = goes-on_after step c.args.self.now.position.now c.args.after.now c.loop-length.length inv.went inv.from went;
    }

pub returns-then-after-from-clause-delivers : goal.returns-then-after-from-clause-delivers
returns-then-after-from-clause-delivers g c =
    rw (all_after-none c.args.self.now.tables.now c.args.self.now.position.now c.args.after.now c.args.path.now.limit (omega arith))
    (GoesThrough-looks 0 c.args.meter.now c.args.meter.now 0 c.args.sink.now (omega arith))

pub returns-clause-delivers : goal.returns-clause-delivers
returns-clause-delivers g c =
    let inv = c.loop-length.invariant in
    let n = c.args.path.now.limit in
    let end : c.loop-length.length ≡ n + 1 = omega arith in
    let within : length c.args.after.now ≤ n = omega (arith, inv.from) in
    rw (all_after-is c.args.self.now.tables.now c.args.self.now.position.now c.args.after.now n within, ← end) inv.went
