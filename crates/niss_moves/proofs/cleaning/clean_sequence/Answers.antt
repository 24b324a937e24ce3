use Rattle.niss_moves.proofs.Names.{◌∙◌, sym, subst, arith, append_assoc, append-nil, List, [], ◌++◌, Cleans, Clean, turns_in, Turn}
use Rattle.niss_moves.proofs.Cleaned.{clean_turns_are_clean, one_clean_list}
use Rattle.niss_moves.proofs.Home.{left_more, left_faces, left_rotation}
use Rattle.niss_moves.proofs.Effects.{rotation_left_is}
use Rattle.niss_moves.proofs.cleaning.clean_sequence.Goals as goal

pub loop-token-preserved : goal.loop-token-preserved
loop-token-preserved c =
    let l = c.loop-token in
    let m = c.take_move in
    let more = turns_in m.result in
    record {
      room = omega (arith, c.push_all_and_clean.ensures.len, l.invariant.room);
      canonical = c.push_all_and_clean.ensures.canonical;
      taken = l.invariant.taken ++ more;
      left = left_more c.args.tokens.now l.token-index _ l.invariant.taken more l.rotation m.new.self c.loop-token-test.true l.invariant.left m.ensures;
      cleans = λ rest s d. rw append_assoc (l.invariant.cleans (more ++ rest) s (c.push_all_and_clean.ensures.cleans rest s d));
    }

pub returns-clause-turns : goal.returns-clause-turns
returns-clause-turns c =
    let l = c.loop-token in
    let cleaned : Cleans (l.invariant.taken ++ []) l.turns.items = l.invariant.cleans [] l.turns.items (rw append-nil (Clean l.invariant.canonical)) in
    one_clean_list _ _ _ (subst (λ (s : List Turn). Cleans s l.turns.items) (append-nil l.invariant.taken ∙ left_faces c.args.tokens.now l.token-index _ l.rotation c.loop-token-test.false l.invariant.left) cleaned) (clean_turns_are_clean _)

pub returns-clause-rotation : goal.returns-clause-rotation
returns-clause-rotation c =
    let l = c.loop-token in
    c.rotation.ensures ∙ sym (rotation_left_is _ _ (left_rotation c.args.tokens.now l.token-index _ l.rotation c.loop-token-test.false l.invariant.left))
