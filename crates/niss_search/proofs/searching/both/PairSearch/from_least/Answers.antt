use Rattle.niss_search.proofs.Words.{◌≡◌, ◌+◌, ◌-◌, ◌≤◌, ◌++◌, ◌∷◌, arith, ap, ◌∙◌, sym, refl, map_of, range_with_len, err_from_is_err_and, last_length, least_of}
use Rattle.niss_search.proofs.ByLength.{least_below, least_below-more, length-next, length-within, least-is}
use Rattle.niss_search.proofs.BothLemmas.{done-none, done-all, searched-same, whole-parts, least-is_of, parts_more, parts_stop, range_cut, range_push}
use Rattle.niss_search.specs.BothSides.{first_pairs}
use Rattle.niss_search.specs.BothWalk.{part_of_length, part_of_search, parts}
use Rattle.niss_search.specs.declared.searching.Outcome.{Outcome}
use Rattle.niss_search.specs.declared.searching.both.Ends.TheVariants.{Any}
use Rattle.niss_search.proofs.searching.both.PairSearch.from_least.Goals as goal

pub loop-length-init : goal.loop-length-init
loop-length-init g c = record {
  least = refl;
  within = omega arith;
  done = done-none g.K.PairSink.took g.K.PairSink.refused c.args.self.now.budget.bound c.args.meter.now c.args.sink.now c.requires.asked.within;
}

pub of_length-requires-clause-asked : goal.of_length-requires-clause-asked
of_length-requires-clause-asked g c = record { within = c.loop-length.invariant.done.within; countable = c.requires.asked.countable }

pub returns-in_err-found-clause-searched : goal.returns-in_err-found-clause-searched
returns-in_err-found-clause-searched g c =
    let search = c.args.self.now in
    let step = search.tables.now in
    let e = map_of search.cube.now in
    let each = first_pairs step e search.sides in
    let n = c.args.lengths.limit in
    let slack = c.args.lengths.slack in
    let d = c.loop-length.length in
    let inv = c.loop-length.invariant in
    let p = err_from_is_err_and c.from_residual.result c.from_residual.ensures.1 in
    let stops = rw (c.requires.any, c.in_err-found.was) at c.of_length.ensures in
    let last = rw inv.least at c.last_length.ensures.value in
    let within : d ≤ last_length (least_of each n) n slack = length-within each n slack d (omega (arith, last, c.loop-length-test.true)) in
    let here : 0 + d ≡ d = omega arith in
    let split = range_cut 0 d (last_length (least_of each n) n slack + 1) (omega (arith, within)) in
    let rest = last_length (least_of each n) n slack + 1 - d - 1 in
    let all = whole-parts step e search.sides n slack ∙ ap (parts (part_of_length Any step e search.sides)) (split ∙ ap (λ j. range_with_len 0 d ++ j ∷ range_with_len (j + 1) rest) here) in
    rw (p.1, p.2)
    (searched-same g.K.PairSink.took g.K.PairSink.refused search.budget.bound step (λ (o : Outcome). o.solutions) (part_of_search step e search.sides n slack) _ all _
    (parts_stop g.K.PairSink.took g.K.PairSink.refused search.budget.bound (part_of_length Any step e search.sides) (range_with_len 0 d) d inv.done step (λ (o : Outcome). o.solutions) _ _ stops))

pub overflow_add-solutions : goal.overflow_add-solutions
overflow_add-solutions g c =
    let went = rw c.in_ok-found.was at c.of_length.ensures in
    omega (arith, c.loop-length.invariant.done.counted, went.counted, went.within, c.requires.asked.countable)

pub loop-length-preserved : goal.loop-length-preserved
loop-length-preserved g c =
    let search = c.args.self.now in
    let step = search.tables.now in
    let e = map_of search.cube.now in
    let each = first_pairs step e search.sides in
    let d = c.loop-length.length in
    let inv = c.loop-length.invariant in
    let went = rw (c.requires.any, c.in_ok-found.was) at c.of_length.ensures in
    let last = rw inv.least at c.last_length.ensures.value in
    let here : 0 + d ≡ d = omega arith in
    record {
      least = c.or-least.ensures ∙ rw (c.then_some.ensures, inv.least, went.handed.counted) (sym (least_below-more each d));
      within = omega (arith, length-next each c.args.lengths.limit c.args.lengths.slack d (omega (arith, last, c.loop-length-test.true)));
      done = rw (range_push 0 d, here)
          (parts_more g.K.PairSink.took g.K.PairSink.refused search.budget.bound (part_of_length Any step e search.sides) (range_with_len 0 d) d inv.done step _ went);
    }

pub returns-clause-length : goal.returns-clause-length
returns-clause-length g c =
    let search = c.args.self.now in
    let step = search.tables.now in
    let e = map_of search.cube.now in
    let each = first_pairs step e search.sides in
    let n = c.args.lengths.limit in
    let inv = c.loop-length.invariant in
    let last = rw inv.least at c.last_length.ensures.value in
    let end : c.loop-length.length ≡ last_length (least_below each c.loop-length.length) n c.args.lengths.slack + 1 = omega (arith, last, inv.within, c.loop-length-test.false) in
    inv.least ∙ sym (least-is_of step e search.sides n ∙ least-is each n c.args.lengths.slack c.loop-length.length end)

pub returns-clause-searched : goal.returns-clause-searched
returns-clause-searched g c =
    let search = c.args.self.now in
    let step = search.tables.now in
    let e = map_of search.cube.now in
    let each = first_pairs step e search.sides in
    let n = c.args.lengths.limit in
    let slack = c.args.lengths.slack in
    let inv = c.loop-length.invariant in
    let last = rw inv.least at c.last_length.ensures.value in
    let end : c.loop-length.length ≡ last_length (least_below each c.loop-length.length) n slack + 1 = omega (arith, last, inv.within, c.loop-length-test.false) in
    let last_is : last_length (least_of each n) n slack + 1 ≡ c.loop-length.length = rw (least-is each n slack c.loop-length.length end) (sym end) in
    let all = whole-parts step e search.sides n slack ∙ ap (λ k. parts (part_of_length Any step e search.sides) (range_with_len 0 k)) last_is in
    done-all g.K.PairSink.took g.K.PairSink.refused search.budget.bound step (λ (o : Outcome). o.solutions) (part_of_search step e search.sides n slack) _ all (record { length = c.loop-length.least; solutions = c.loop-length.solutions }) inv.done
