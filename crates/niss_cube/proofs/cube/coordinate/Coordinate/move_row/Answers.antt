use Rattle.niss_cube.proofs.Words.{◌≡◌, ◌∙◌, arith, rules, turn_in, rank_after}
use Rattle.niss_cube.proofs.CoordinateLaws.{after_standard_turn, row-below}
use Rattle.niss_cube.proofs.cube.coordinate.Coordinate.move_row.Goals as goal

pub loop-column-preserved : goal.loop-column-preserved
loop-column-preserved c =
    let k = c.args.self in
    let turn = turn_in c.args.turns.now c.loop-column.column in
    let after : c.standard_rank_after.result ≡ rank_after k c.args.axis c.args.rank turn =
    c.standard_rank_after.ensures
    ∙ after_standard_turn k c.args.axis c.args.rank c.unrank-cube.result c.standard_turn.result turn c.unrank-cube.ensures c.standard_turn.ensures.same_rank in
    search (rules, after)

pub returns : goal.returns
returns c = let inv = c.loop-column.invariant in record {
  after = λ column l. inv.right column (omega (arith, l, inv.end, c.loop-column-test.false));
  below = λ column l. row-below c.args.self c.args.axis c.args.rank (turn_in c.args.turns.now column) _ c.requires.rank
      (inv.right column (omega (arith, l, inv.end, c.loop-column-test.false)));
}
