use Rattle.std.proofs.Common.{Ok}
use Rattle.niss_attempts.specs.Corners.{IsAroundPart}
use Rattle.niss_attempts.specs.Parts.{number_of_steps, solves_part}
use Rattle.niss_attempts.proofs.PartLemmas.{NoneBefore}
use Rattle.niss_attempts.proofs.steps.parts.first_part.Given as goal

abbrev pub invariant-loop-first : goal.invariant-loop-first
invariant-loop-first l = record {
  before : IsAroundPart l.whole.scramble.now l.whole.steps.now l.whole.bounds.now l.first l.first l.before;
  none : NoneBefore (number_of_steps l.whole.bounds.now) (solves_part (Ok l.whole.scramble.now) l.whole.steps.now l.whole.bounds.now) l.first;
}
