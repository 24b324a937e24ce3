use Rattle.niss_search.proofs.Words.{arith, ap, ◌∙◌, ◌*◌}
use Rattle.niss_search.proofs.EntryLemmas.{row-domino}
use Rattle.niss_search.proofs.tables.goal_moves.DominoMovesGoalMoves.starts.Goals as goal

pub returns : goal.returns
returns g c =
    let m = c.args.self.now in
    let inv = c.loop-column.invariant in
    row-domino m.twists.step m.edges m.twists.axis c.args.row c.loop-column.starts
    (λ k l. inv.written k (omega (arith, m.turns)) ∙ ap (λ n. n * 495) (rw m.are_twists at c.row-twists.ensures.after k l))
