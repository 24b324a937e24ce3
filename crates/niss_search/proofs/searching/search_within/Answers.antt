use Rattle.niss_search.proofs.Words.{arith, cubes, distance_of, near_looks_of, ◌≤◌, ◌+◌}
use Rattle.niss_search.proofs.Bounds.{bound-small, all_looks-bound, turns_of-length}
use Rattle.niss_search.proofs.SpentLemmas.{spent-looks}
use Rattle.niss_search.proofs.LookLemmas.{least_length-same}
use Rattle.niss_search.proofs.DeepeningLemmas.{searched, cut-over}
use Rattle.niss_search.proofs.FoundLemmas.{cut_found, stopped_found}
use Rattle.niss_search.specs.Budgets.{is_cut_in}
use Rattle.niss_search.proofs.searching.search_within.Goals as goal

pub returns : goal.returns
returns g c =
    let step = c.args.tables.now in
    let x = c.args.position.now in
    let n = c.args.path.now.limit in
    let of = searched g.K.Sink.took g.K.Sink.refused is_cut_in c.saturating_add.result step x n c.args.slack c.args.meter.now c.deepen_all.new.meter c.args.sink.now c.deepen_all.new.sink c.deepen_all.result c.deepen_all.ensures.delivers c.positions_follow_cubes.ensures in
    let some = c.requires.position in
    let small : n ≤ 20 = c.deepen_all.ensures.limit in
    record {
      length = λ e h. rw (least_length-same (c.positions_follow_cubes.ensures.follow step) e x h n) c.deepen_all.ensures.length;
      solutions = λ e h. (of e h).solutions;
      path = c.deepen_all.ensures.path;
      ok = λ e h. (of e h).ok;
      err = λ e h. (of e h).err;
      cut = λ e h.
          cut-over is_cut_in c.saturating_add.result c.args.meter.now (near_looks_of step e n c.args.slack) c.args.looks
          (λ over. omega (arith, over, c.saturating_add.ensures, c.count.ensures, c.requires.meter, all_looks-bound (cubes step) (distance_of step) e n c.args.slack, bound-small step n (omega (arith, small))))
          c.deepen_all.result (of e h).over;
      found = λ e made h is.
          cut_found c.step_turns_in_order.ensures g.K.Sink.took g.K.Sink.refused is_cut_in c.saturating_add.result step x n c.args.slack c.args.meter.now c.deepen_all.new.meter c.args.sink.now c.deepen_all.new.sink c.positions_follow_cubes.ensures e h made is c.deepen_all.result c.deepen_all.ensures.delivers;
      stopped = λ e made h is.
          stopped_found c.step_turns_in_order.ensures g.K.Sink.took g.K.Sink.refused is_cut_in c.saturating_add.result step x n c.args.slack c.args.meter.now c.deepen_all.new.meter c.args.sink.now c.deepen_all.new.sink c.positions_follow_cubes.ensures e h made is c.deepen_all.result c.deepen_all.ensures.delivers;
      looks = λ e h. (of e h).looks;
      looks_at_most = λ e h. (of e h).looks_at_most;
      rises = c.deepen_all.ensures.rises;
      within = omega (arith, c.deepen_all.ensures.within, c.saturating_add.ensures);
      spent = spent-looks is_cut_in c.saturating_add.result (c.args.meter.now + c.args.looks) step c.deepen_all.new.meter c.deepen_all.result
          (λ left. omega (arith, left, c.saturating_add.ensures, c.count.ensures, c.requires.meter, (of some.0 some.1).looks_at_most, all_looks-bound (cubes step) (distance_of step) some.0 n c.args.slack, bound-small step n (omega (arith, small)), turns_of-length step))
          c.deepen_all.ensures.spent;
    }
