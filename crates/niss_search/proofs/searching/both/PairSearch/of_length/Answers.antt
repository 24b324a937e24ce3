use Rattle.niss_search.proofs.Words.{◌≡◌, ◌+◌, ◌-◌, ◌++◌, ◌∷◌, arith, ap, ◌∙◌, sym, map_of, range_with_len, err_from_is_err_and, ℕ}
use Rattle.niss_search.proofs.BothBounds.{fewest-within}
use Rattle.niss_search.proofs.BothLemmas.{part_of_split, length-parts, done-all, searched-same, parts_more, parts_stop, range_cut, range_push}
use Rattle.niss_search.specs.BothSides.{fewest_normal, most_normal}
use Rattle.niss_search.specs.BothWalk.{parts, part_of_length}
use Rattle.niss_search.proofs.searching.both.PairSearch.of_length.Goals as goal

pub returns-in_err-count : goal.returns-in_err-count
returns-in_err-count g c =
    let search = c.args.self.now in
    let step = search.tables.now in
    let e = map_of search.cube.now in
    let n = c.args.length in
    let least = fewest_normal search.sides n in
    let k = c.loop-normal.normal in
    let all = most_normal search.sides n + 1 - least in
    let inv = c.loop-normal.invariant in
    let p = err_from_is_err_and c.from_residual.result c.from_residual.ensures.1 in
    let stops = rw c.in_err-count.was at c.of_lengths.ensures in
    let here : least + (k - least) ≡ k = omega (arith, inv.from) in
    let split = range_cut least (k - least) all (omega (arith, inv.from, c.loop-normal-test.true, c.fewest_normal-normal.ensures, c.most_normal-normal-end.ensures)) in
    let each = part_of_split search.ends step e n in
    let whole = length-parts search.ends step e c.idle_turns_leave_steps.ensures search.sides n ∙ ap (parts each) (split ∙ ap (λ j. range_with_len least (k - least) ++ j ∷ range_with_len (j + 1) (all - (k - least) - 1)) here) in
    rw (p.1, p.2)
    (searched-same g.K.PairSink.took g.K.PairSink.refused search.budget.bound step (λ (n : ℕ). n) (part_of_length search.ends step e search.sides n) _ whole _
    (parts_stop g.K.PairSink.took g.K.PairSink.refused search.budget.bound each (range_with_len least (k - least)) k inv.done step (λ (n : ℕ). n) _ _ stops))

pub loop-normal-preserved : goal.loop-normal-preserved
loop-normal-preserved g c =
    let search = c.args.self.now in
    let step = search.tables.now in
    let n = c.args.length in
    let least = fewest_normal search.sides n in
    let k = c.loop-normal.normal in
    let inv = c.loop-normal.invariant in
    let went = rw c.in_ok-count.was at c.of_lengths.ensures in
    let here : least + (k - least) ≡ k = omega (arith, inv.from) in
    let next : k + 1 - least ≡ k - least + 1 = omega (arith, inv.from) in
    record {
      from = omega (arith, inv.from);
      done = rw (next, range_push least (k - least), here)
          (parts_more g.K.PairSink.took g.K.PairSink.refused search.budget.bound (part_of_split search.ends step (map_of search.cube.now) n) (range_with_len least (k - least)) k inv.done step _ went);
    }

pub returns : goal.returns
returns g c =
    let search = c.args.self.now in
    let step = search.tables.now in
    let e = map_of search.cube.now in
    let n = c.args.length in
    let least = fewest_normal search.sides n in
    let inv = c.loop-normal.invariant in
    let end : c.loop-normal.normal - least ≡ most_normal search.sides n + 1 - least =
    omega (arith, inv.from, c.loop-normal-test.false, c.loop-normal.auto.normal-end, c.fewest_normal-normal.ensures, c.most_normal-normal-end.ensures, fewest-within search.sides n) in
    let whole = length-parts search.ends step e c.idle_turns_leave_steps.ensures search.sides n ∙ ap (λ k. parts (part_of_split search.ends step e n) (range_with_len least k)) (sym end) in
    done-all g.K.PairSink.took g.K.PairSink.refused search.budget.bound step (λ (n : ℕ). n) (part_of_length search.ends step e search.sides n) _ whole c.loop-normal.count inv.done
