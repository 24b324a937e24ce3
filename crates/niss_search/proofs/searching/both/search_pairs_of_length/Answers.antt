use Rattle.niss_search.proofs.Words.{arith, ◌+◌, ◌≤◌, map_of}
use Rattle.niss_search.proofs.Bounds.{turns_of-length}
use Rattle.niss_search.proofs.BothBounds.{length-small, hands-bounded, hands-within}
use Rattle.niss_search.proofs.SpentLemmas.{spent-looks}
unfoldable use Rattle.niss_search.specs.BothSides.{pairs_with, looks_with}
use Rattle.niss_search.specs.Budgets.{is_cut_in}
use Rattle.niss_search.proofs.searching.both.search_pairs_of_length.Goals as goal

pub returns-clause-solutions : goal.returns-clause-solutions
returns-clause-solutions g c =
    let step = c.args.from.now.tables.now in
    let e = map_of c.args.from.now.cube.now in
    let few : c.args.wanted.length ≤ 20 = omega (arith, c.get.ensures.value, c.get.ensures.in_range) in
    let bound = c.budget_of.result.bound in
    hands-bounded g.K.PairSink.took g.K.PairSink.refused (pairs_with step e c.args.wanted.ends c.args.wanted.sides c.args.wanted.length) (looks_with step e c.args.wanted.ends c.args.wanted.sides c.args.wanted.length) c.args.meter.now c.of_length.new.meter c.args.sink.now c.of_length.new.sink is_cut_in bound (λ count. count)
    (c.args.meter.now + c.args.looks)
    (λ over. omega (arith, over, c.budget_of.ensures, c.requires.meter, length-small c.args.wanted.ends step e c.args.wanted.sides c.args.wanted.length few))
    c.of_length.result (rw c.get.ensures.value at c.of_length.ensures.handed)

pub returns-clause-spent : goal.returns-clause-spent
returns-clause-spent g c =
    let step = c.args.from.now.tables.now in
    let e = map_of c.args.from.now.cube.now in
    let few : c.args.wanted.length ≤ 20 = omega (arith, c.get.ensures.value, c.get.ensures.in_range) in
    let bound = c.budget_of.result.bound in
    let within = hands-within g.K.PairSink.took g.K.PairSink.refused (pairs_with step e c.args.wanted.ends c.args.wanted.sides c.args.wanted.length) (looks_with step e c.args.wanted.ends c.args.wanted.sides c.args.wanted.length) c.args.meter.now c.of_length.new.meter c.args.sink.now c.of_length.new.sink is_cut_in bound (λ count. count) c.of_length.result (rw c.get.ensures.value at c.of_length.ensures.handed) in
    spent-looks is_cut_in bound (c.args.meter.now + c.args.looks) step c.of_length.new.meter c.of_length.result
    (λ left. omega (arith, left, within, c.budget_of.ensures, c.requires.meter, turns_of-length step, length-small c.args.wanted.ends step e c.args.wanted.sides c.args.wanted.length few))
    c.of_length.ensures.spent
