use Rattle.niss_cube.proofs.Words.{◌∙◌, ◌-◌, ap, refl, arith}
use Rattle.niss_cube.proofs.BadPlaces.{byte_is}
use Rattle.niss_cube.proofs.Ranks.{slice-at_most, counted_place}
use Rattle.niss_cube.proofs.cube.coordinate.ranking.rank_slice.Goals as goal

pub overflow_add-n : goal.overflow_add-n
overflow_add-n c =
    let l = c.loop-met in
    let is_there = c.is_of_slice-is_there in
    let e = counted_place c.args.edges.now (omega arith) l.met l.n c.loop-met-test.true l.wanted _ _ _ is_there.result is_there.ensures
    c.choices_passed-n.ensures refl l.invariant.counted in
    omega (arith, e, slice-at_most c.args.edges.now (omega arith))

pub loop-met-preserved : goal.loop-met-preserved
loop-met-preserved c =
    let l = c.loop-met in
    let is_there = c.is_of_slice-is_there in
    let less = c.saturating_sub-wanted.ensures ∙ ap (λ k. l.wanted - k) (c.from.ensures ∙ byte_is is_there.result) in
    record {
      wanted_below = omega (arith, l.invariant.wanted_below, c.saturating_sub-wanted.ensures);
      counted = counted_place c.args.edges.now (omega arith) l.met l.n c.loop-met-test.true l.wanted _ _ _ is_there.result is_there.ensures
          c.choices_passed-n.ensures less l.invariant.counted;
    }
