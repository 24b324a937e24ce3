use Rattle.std.proofs.Common.{◌≡◌}
use Rattle.niss_ways.specs.Sinks.{Keeps}
use Rattle.niss_ways.proofs.first_steps.FirstSteps.go_on_axes.Given as goal

abbrev pub invariant-loop-axis : goal.invariant-loop-axis
invariant-loop-axis g l = record { most : l.outer.most ≡ l.initial.outer.most; room : Keeps l.initial.self l.self }
