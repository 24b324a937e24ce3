use Rattle.niss_search.proofs.Words.{arith, ◌≤◌, ◌+◌, deepening_looks_of}
use Rattle.niss_search.proofs.Bounds.{turns_of-length}
use Rattle.niss_search.proofs.SpentLemmas.{spent-looks}
use Rattle.niss_search.specs.Deepening.{all_after}
use Rattle.niss_search.proofs.DeepeningLemmas.{cut-over}
use Rattle.niss_search.proofs.AfterParts.{after_searched, after_looked, after_ended, deepening_looks-small}
use Rattle.niss_search.specs.Budgets.{is_cut_in}
use Rattle.niss_search.proofs.searching.after.search_after.Goals as goal

pub returns : goal.returns
returns g c =
    let step = c.args.tables.now in
    let n = c.args.path.now.limit in
    let after = c.args.after.now in
    let of = after_searched g.K.Sink.took g.K.Sink.refused is_cut_in c.saturating_add.result step c.args.position.now n after c.args.meter.now c.deepen_all_after.new.meter c.args.sink.now c.deepen_all_after.new.sink c.deepen_all_after.result c.deepen_all_after.ensures.delivers c.positions_follow_cubes.ensures in
    let some = c.requires.position in
    let small : n ≤ 20 = c.deepen_all_after.ensures.limit in
    record {
      solutions = λ e h. (of e h).solutions;
      path = c.deepen_all_after.ensures.path;
      ok = λ e h. (of e h).ok;
      err = λ e h. (of e h).err;
      cut = λ e h.
          cut-over is_cut_in c.saturating_add.result c.args.meter.now (deepening_looks_of step e n) c.args.looks
          (λ over. omega (arith, over, c.saturating_add.ensures, c.count.ensures, c.requires.meter, deepening_looks-small step e n small))
          c.deepen_all_after.result (of e h).over;
      ends = after_ended g.K.Sink.took g.K.Sink.refused is_cut_in c.saturating_add.result (all_after step c.args.position.now n after) n c.args.meter.now c.deepen_all_after.new.meter c.args.sink.now c.deepen_all_after.new.sink c.deepen_all_after.result c.deepen_all_after.ensures.delivers;
      looks = after_looked g.K.Sink.took g.K.Sink.refused is_cut_in c.saturating_add.result (all_after step c.args.position.now n after) n c.args.meter.now c.deepen_all_after.new.meter c.args.sink.now c.deepen_all_after.new.sink c.deepen_all_after.result c.deepen_all_after.ensures.delivers;
      looks_at_most = λ e h. (of e h).looks_at_most;
      rises = c.deepen_all_after.ensures.rises;
      within = omega (arith, c.deepen_all_after.ensures.within, c.saturating_add.ensures);
      spent = spent-looks is_cut_in c.saturating_add.result (c.args.meter.now + c.args.looks) step c.deepen_all_after.new.meter c.deepen_all_after.result
          (λ left. omega (arith, left, c.saturating_add.ensures, c.count.ensures, c.requires.meter, (of some.0 some.1).looks_at_most, deepening_looks-small step some.0 n small, turns_of-length step))
          c.deepen_all_after.ensures.spent;
    }
