use Rattle.niss_search.proofs.Words.{arith, ◌+◌, map_of}
use Rattle.niss_search.proofs.Bounds.{turns_of-length}
use Rattle.niss_search.proofs.BothBounds.{whole-small, hands-bounded, hands-within}
use Rattle.niss_search.proofs.SpentLemmas.{spent-looks}
unfoldable use Rattle.niss_search.specs.BothSides.{pair_solutions, pair_looks}
use Rattle.niss_search.specs.Budgets.{is_cut_in}
use Rattle.niss_search.specs.declared.searching.both.Sides.TheVariants.{Both}
use Rattle.niss_search.proofs.searching.both.search_both_within.Goals as goal

pub returns-clause-solutions : goal.returns-clause-solutions
returns-clause-solutions g c =
    let step = c.args.from.now.tables.now in
    let e = map_of c.args.from.now.cube.now in
    let bound = c.budget_of.result.bound in
    hands-bounded g.K.PairSink.took g.K.PairSink.refused (pair_solutions step e Both c.args.lengths.limit c.args.lengths.slack) (pair_looks step e Both c.args.lengths.limit c.args.lengths.slack) c.args.meter.now c.from_least.new.meter c.args.sink.now c.from_least.new.sink is_cut_in bound (λ o. o.solutions)
    (c.args.meter.now + c.args.looks)
    (λ over. omega (arith, over, c.budget_of.ensures, c.requires.meter, whole-small step e Both c.args.lengths.limit c.args.lengths.slack c.from_least.ensures.limit))
    c.from_least.result c.from_least.ensures.searched.handed

pub returns-clause-spent : goal.returns-clause-spent
returns-clause-spent g c =
    let step = c.args.from.now.tables.now in
    let e = map_of c.args.from.now.cube.now in
    let bound = c.budget_of.result.bound in
    let within = hands-within g.K.PairSink.took g.K.PairSink.refused (pair_solutions step e Both c.args.lengths.limit c.args.lengths.slack) (pair_looks step e Both c.args.lengths.limit c.args.lengths.slack) c.args.meter.now c.from_least.new.meter c.args.sink.now c.from_least.new.sink is_cut_in bound (λ o. o.solutions) c.from_least.result c.from_least.ensures.searched.handed in
    spent-looks is_cut_in bound (c.args.meter.now + c.args.looks) step c.from_least.new.meter c.from_least.result
    (λ left. omega (arith, left, within, c.budget_of.ensures, c.requires.meter, turns_of-length step, whole-small step e Both c.args.lengths.limit c.args.lengths.slack c.from_least.ensures.limit))
    c.from_least.ensures.searched.spent
