use Rattle.std.proofs.Common.{◌≤◌, length}
use Rattle.niss_text.proofs.word.spelled.Given as goal

abbrev pub invariant-loop-sign : goal.invariant-loop-sign
invariant-loop-sign l = length l.rest ≤ length l.text

abbrev pub decreases-loop-sign : goal.decreases-loop-sign
decreases-loop-sign l = length l.rest
