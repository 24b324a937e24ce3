use Rattle.niss_shell.proofs.SearchLemmas.{accepted_lines}
use Rattle.niss_shell.proofs.laws.accepted_lines_are_solved.Goals as goal

pub returns : goal.returns
returns c = accepted_lines c.line_is_read.ensures.spelled c.counts_and_bounds.ensures.within
