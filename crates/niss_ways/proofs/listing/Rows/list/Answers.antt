use Rattle.std.proofs.Common.{◌+◌, ap, subst, ℕ}
use Rattle.niss_cube.specs.Map.{map_of}
use Rattle.niss_search.specs.BothSides.{first_pairs, looks_of_pairs}
use Rattle.niss_ways.specs.Listing.{EndsListing}
use Rattle.niss_ways.proofs.ListingLemmas.{lists_into, lists_stays}
use Rattle.niss_ways.proofs.listing.Rows.list.Goals as goal

pub returns-clause-stays : goal.returns-clause-stays
returns-clause-stays g c =
    let step = c.args.tables.now in
    let e = map_of c.args.cube.now in
    let listed = c.args.listed.now in
    let ended = c.search_pairs_of_length-ended in
    lists_stays c.args.self.now ended.new.sink (first_pairs step e listed.sides listed.length) (looks_of_pairs step e listed.sides listed.length)
    c.new-meter.result ended.new.meter (c.new-meter.result + c.from-most.result) ended.result ended.ensures.solutions

pub returns-clause-lists : goal.returns-clause-lists
returns-clause-lists g c =
    let listed = c.args.listed.now in
    let ended = c.search_pairs_of_length-ended in
    lists_into c.args.self.now ended.new.sink c.args.tables.now (map_of c.args.cube.now) listed c.found.result c.new-meter.result ended.new.meter
    (c.new-meter.result + c.from-most.result) ended.result ended.ensures.solutions c.new-meter.ensures
    (ap (λ (n : ℕ). c.new-meter.result + n) c.from-most.ensures) c.requires.empty c.requires.step c.requires.passed c.requires.counts
    (subst (λ (n : ℕ). EndsListing ended.result ended.new.sink.rows ended.new.sink.came n c.found.result) c.count.ensures c.found.ensures)
    ended.ensures.spent
