use Rattle.std.proofs.Common.{ℕ, List, take, refl, arith}
use Rattle.niss_text.proofs.TitleLemmas.{title_line}
use Rattle.niss_text.proofs.piece.first_of_line.Goals as goal

pub returns-else-title-gt0-clause-title : goal.returns-else-title-gt0-clause-title
returns-else-title-gt0-clause-title c = λ title.
    let text : List ℕ = c.args.text.now in
    let n : ℕ = c.line_length.result in
    omega (arith, c.if-title-gt0.false, c.title_length-title.ensures.title (title_line text (take n text) n refl c.line_length.ensures.ends title))
