use Rattle.std.proofs.Common.{◌≡◌}
use Rattle.niss_ways.proofs.reductions_after.ReductionsAfter.at_most.Given as goal

abbrev pub invariant-loop-number : goal.invariant-loop-number
invariant-loop-number g l = l.looks.most ≡ l.initial.looks.most
