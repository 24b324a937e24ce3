use Rattle.std.proofs.Common.{◌≤◌}
use Rattle.niss_text.proofs.marks.last_word.Given as goal

abbrev pub invariant-loop-at : goal.invariant-loop-at
invariant-loop-at l = l.begin ≤ l.at
