use Rattle.niss_moves.proofs.Names.{sym, subst, take, ap, ◌+◌, ◌∙◌, Reader, IsFed, length-take-le}
use Rattle.niss_moves.proofs.ReaderLemmas.{fed_moves, is_fed_on}
use Rattle.niss_moves.proofs.reader.LineReader.feed_moves.Goals as goal

pub returns-in-None-clause-bytes : goal.returns-in-None-clause-bytes
returns-in-None-clause-bytes c front h =
    let xs = take c.take_moves.result c.args.bytes.now in
    let counts = c.take_moves.ensures.fed ∙ ap (λ n. c.self.inside.line.fed + n) (sym (length-take-le c.take_moves.result c.args.bytes.now c.take_moves.ensures.taken)) in
    is_fed_on _ _ xs front (fed_moves c.self.inside.fault c.self.inside.line c.take_moves.new.self xs c.in-None.is counts c.take_moves.ensures.runs) (subst (λ (r : Reader). IsFed r front) (sym c.self.view_is) h)
