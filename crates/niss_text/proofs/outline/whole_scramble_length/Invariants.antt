use Rattle.std.proofs.Common.{◌≤◌, length}
use Rattle.niss_text.proofs.outline.whole_scramble_length.Given as goal

abbrev pub invariant-loop : goal.invariant-loop
invariant-loop l = l.end ≤ length l.text
