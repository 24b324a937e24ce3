use Rattle.std.proofs.Common.{◌+◌, Ok}
use Rattle.niss_attempts.specs.Corners.{IsAroundPart}
use Rattle.niss_attempts.specs.Parts.{solves_part}
use Rattle.niss_attempts.proofs.PartLemmas.{NoneFrom}
use Rattle.niss_attempts.proofs.steps.parts.part_from.Given as goal

abbrev pub invariant-loop-step : goal.invariant-loop-step
invariant-loop-step l = record {
  around : IsAroundPart l.whole.scramble.now l.whole.steps.now l.whole.bounds.now l.first l.step l.around;
  none : NoneFrom (solves_part (Ok l.whole.scramble.now) l.whole.steps.now l.whole.bounds.now) l.first (l.step + 1);
}
