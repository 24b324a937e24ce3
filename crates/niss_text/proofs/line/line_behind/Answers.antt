use Rattle.std.proofs.Common.{arith}
use Rattle.niss_text.proofs.NamedLemmas.{solution_longer}
use Rattle.niss_text.proofs.line.line_behind.Goals as goal

pub returns-clause-said : goal.returns-clause-said
returns-clause-said c = λ yes.
    let parts = c.parts_of-parts.result in
    solution_longer c.args.line.now parts.label_begin parts.title_end parts.label_end parts.title_in parts.label_in
    (omega (arith, parts.words_in, parts.moves_in, parts.comment_in, c.parts_of-parts.ensures.fits)) c.parts_of-parts.ensures.entitled
    (c.says_solution-is_solution.ensures yes)
