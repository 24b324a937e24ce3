use Rattle.std.proofs.Common.{◌≡◌}
use Rattle.niss_ways.specs.Sinks.{Keeps}
use Rattle.niss_ways.proofs.first_steps.FirstSteps.take_after_all.Given as goal

abbrev pub invariant-loop-axis : goal.invariant-loop-axis
invariant-loop-axis g l = record { most : l.looks.most ≡ l.initial.looks.most; room : Keeps l.initial.self l.self }
