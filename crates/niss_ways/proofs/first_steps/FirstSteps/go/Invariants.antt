use Rattle.std.proofs.Common.{◌≡◌}
use Rattle.niss_ways.specs.Sinks.{Keeps}
use Rattle.niss_ways.proofs.first_steps.FirstSteps.go.Given as goal

abbrev pub invariant-loop-length : goal.invariant-loop-length
invariant-loop-length g l = record { most : l.outer.most ≡ l.initial.outer.most; room : Keeps l.initial.self l.self }
