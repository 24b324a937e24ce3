use Rattle.niss_moves.proofs.Names.{arith, turns_in}
use Rattle.niss_moves.proofs.Home.{left_more}
use Rattle.niss_moves.proofs.rotation.to_faces.Goals as goal

pub loop-token-preserved : goal.loop-token-preserved
loop-token-preserved c =
    let l = c.loop-token in
    let m = c.take_move in
    record {
      room = omega (arith, c.push_turns.ensures.len, l.invariant.room);
      left = rw c.push_turns.ensures.items (left_more c.args.tokens.now l.token-index _ l.turns.items (turns_in m.result) l.rotation m.new.self c.loop-token-test.true l.invariant.left m.ensures);
    }
