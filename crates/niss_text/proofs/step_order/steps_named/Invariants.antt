use Rattle.std.proofs.Common.{length}
use Rattle.niss_text.proofs.step_order.steps_named.Given as goal

abbrev pub decreases-loop-rest : goal.decreases-loop-rest
decreases-loop-rest l = length l.rest
