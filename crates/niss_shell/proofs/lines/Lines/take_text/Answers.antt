use Rattle.niss_shell.proofs.AnswerLemmas.{text_done}
use Rattle.niss_shell.proofs.EngineLemmas.{last_kept}
use Rattle.niss_shell.proofs.lines.Lines.take_text.Goals as goal

pub returns-clause-answers : goal.returns-clause-answers
returns-clause-answers g c =
    text_done g.W.Target.call _ c.requires.fits c.requires.first c.in_ok-take_block.ensures.takes
    (last_kept g.W.Target.call c.in_ok-take_block.ensures.keeps c.take_end.ensures.ends)
