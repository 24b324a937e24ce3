use Rattle.std.proofs.Common.{◌≤◌, length}
use Rattle.niss_text.proofs.outline.length_behind_scramble.Given as goal

abbrev pub invariant-loop-line : goal.invariant-loop-line
invariant-loop-line l = length l.rest ≤ length l.text

abbrev pub decreases-loop-line : goal.decreases-loop-line
decreases-loop-line l = length l.rest
