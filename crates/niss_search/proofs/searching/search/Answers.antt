use Rattle.niss_search.proofs.Words.{arith, cubes, distance_of, false, ◌^◌, StoppedAt, at_limit, look_number_of, near_solutions_of}
use Rattle.niss_search.proofs.Bounds.{all_looks-bound}
use Rattle.niss_search.proofs.LookLemmas.{least_length-same}
use Rattle.niss_search.proofs.DeepeningLemmas.{searched}
use Rattle.niss_search.proofs.FoundLemmas.{stopped_found, refused_found}
use Rattle.niss_search.proofs.searching.search.Goals as goal

pub returns : goal.returns
returns g c =
    let step = c.args.tables.now in
    let x = c.args.position.now in
    let n = c.args.path.now.limit in
    let of = searched g.K.Sink.took g.K.Sink.refused (λ stop. false) (2 ^ 128) step x n c.args.slack c.args.meter.now c.deepen_all.new.meter c.args.sink.now c.deepen_all.new.sink c.deepen_all.result c.deepen_all.ensures.delivers c.positions_follow_cubes.ensures in
    let some = c.requires.position in
    record {
      length = λ e h. rw (least_length-same (c.positions_follow_cubes.ensures.follow step) e x h n) c.deepen_all.ensures.length;
      solutions = λ e h. (of e h).solutions;
      path = c.deepen_all.ensures.path;
      ok = λ e h. (of e h).ok;
      err = λ e h. (of e h).err;
      stopped = λ e made h is.
          refused_found
          (StoppedAt (at_limit g.K.Sink.took n) (at_limit g.K.Sink.refused n) (look_number_of step e) c.args.sink.now (near_solutions_of step e n c.args.slack) c.deepen_all.new.sink made)
          c.deepen_all.result
          (stopped_found c.step_turns_in_order.ensures g.K.Sink.took g.K.Sink.refused (λ stop. false) (2 ^ 128) step x n c.args.slack c.args.meter.now c.deepen_all.new.meter c.args.sink.now c.deepen_all.new.sink c.positions_follow_cubes.ensures e h made is c.deepen_all.result c.deepen_all.ensures.delivers);
      looks = λ e h. (of e h).looks;
      looks_at_most = λ e h. (of e h).looks_at_most;
      rises = c.deepen_all.ensures.rises;
      bound = omega (arith, (of some.0 some.1).looks_at_most, all_looks-bound (cubes step) (distance_of step) some.0 n c.args.slack);
    }
