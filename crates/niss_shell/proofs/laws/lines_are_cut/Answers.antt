use Rattle.niss_shell.proofs.LinesLemmas.{text_is_cut, one_cut}
use Rattle.niss_shell.proofs.laws.lines_are_cut.Goals as goal

pub returns-clause-cut : goal.returns-clause-cut
returns-clause-cut c = text_is_cut

pub returns-clause-only : goal.returns-clause-only
returns-clause-only c = one_cut
