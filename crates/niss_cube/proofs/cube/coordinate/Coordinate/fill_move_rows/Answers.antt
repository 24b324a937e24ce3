use Rattle.niss_cube.proofs.Words.{◌∙◌, [], arith, length-set, IsMoveRow}
use Rattle.niss_cube.proofs.CubieKinds.{written_more}
use Rattle.niss_cube.proofs.cube.coordinate.Coordinate.fill_move_rows.Goals as goal

pub loop-rank-preserved : goal.loop-rank-preserved
loop-rank-preserved c =
    let l = c.loop-rank in
    record {
      end = l.invariant.end;
      size = length-set l.rows l.rank _ ∙ l.invariant.size;
      each = written_more (IsMoveRow c.args.self c.args.axis c.args.turns.now) l.rows l.rank _ [] (omega arith) c.move_row.ensures l.invariant.each;
    }
