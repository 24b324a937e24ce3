use Rattle.niss_moves.proofs.Names.{Token, ◌≡◌, ◌++◌, ap, sym, ◌∙◌, arith, cond, map, word, with_words, rotation_if, between}
use Rattle.niss_moves.proofs.Words.{word_written}
use Rattle.niss_moves.proofs.text.put_about_axis.Goals as goal

pub returns-clause-items : goal.returns-clause-items
returns-clause-items c =
    let old = c.args.text.now.items in
    let w = c.of_rotation-word in
    let e : c.try_extend_from_slice.new.self.items ≡ old ++ between (cond c.has_no_gap.result 1 0) w.result.len w.result.bytes = grind arith in
    word_written old _ w.result.bytes w.result.len c.has_no_gap.result (Token.Rotation c.in-Some.axis c.in-Some.power) c.has_no_gap.ensures w.ensures.bytes (omega arith) e
    ∙ ap (λ r. with_words old (map word (rotation_if r))) (sym c.in-Some.is)
