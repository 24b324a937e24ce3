use Rattle.std.proofs.Common.{◌≤◌, ◌-◌, length}
use Rattle.niss_text.proofs.worded_heads.count_blocks.Given as goal

abbrev pub invariant-loop-next : goal.invariant-loop-next
invariant-loop-next l = l.next ≤ length l.lines

abbrev pub decreases-loop-next : goal.decreases-loop-next
decreases-loop-next l = length l.lines - l.next
