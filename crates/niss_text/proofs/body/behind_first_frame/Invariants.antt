use Rattle.std.proofs.Common.{◌≤◌, length}
use Rattle.niss_text.proofs.body.behind_first_frame.Given as goal

abbrev pub invariant-loop-behind : goal.invariant-loop-behind
invariant-loop-behind l = length l.rest ≤ length l.text

abbrev pub decreases-loop-behind : goal.decreases-loop-behind
decreases-loop-behind l = length l.rest
