use Rattle.niss_moves.proofs.Names.{Token, ap, map, ◌∙◌, with_words, drop_all}
use Rattle.niss_moves.proofs.Words.{words_of_turns, writes_all}
use Rattle.niss_moves.proofs.text.put_faces.Goals as goal

pub returns-clause-items : goal.returns-clause-items
returns-clause-items c =
    let l = c.loop-turn in
    writes_all c.write.new.self.no_gap (ap (map Token.Face) (drop_all l.turn-index c.args.turns.now c.loop-turn-test.false)) c.write.ensures.items l.invariant.writes
    ∙ ap (with_words c.args.text.now.items) (words_of_turns c.args.turns.now)
