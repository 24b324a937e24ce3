use Rattle.niss_moves.specs.declared.turn.Power.TheVariants.{Half}
use Rattle.niss_search.proofs.Words.{[], map_of, Turn, U}
use Rattle.niss_search.proofs.BothLemmas.{heads-end}
use Rattle.niss_search.proofs.InverseLemmas.{stands_before}
use Rattle.niss_search.proofs.searching.both.walk.Walk.go.Goals as goal

pub search_other-requires-clause-last : goal.search_other-requires-clause-last
search_other-requires-clause-last g c =
    let turn : Turn = record { face = U; power = Half } in
    rw c.new-path.ensures
    (stands_before c.tails_follow_heads.ensures c.args.self.now [] c.steps_see_places.ensures c.start-here.result c.turn.new.self turn c.start-here.ensures c.turn.ensures)

pub returns-then-head-eq0 : goal.returns-then-head-eq0
returns-then-head-eq0 g c =
    let walk = c.args.self.now in
    rw (c.if-head-eq0.true, heads-end walk.ends walk.tables.now (map_of walk.cube.now) walk.side walk.tail [])
    (rw c.new-path.ensures at c.search_other.ensures)
