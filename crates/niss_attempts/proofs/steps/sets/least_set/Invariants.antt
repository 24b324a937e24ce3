use Rattle.std.proofs.Common.{◌≡◌, ◌-◌, true, Ok}
use Rattle.niss_attempts.specs.Corners.{AreTails}
use Rattle.niss_attempts.specs.Parts.{solves_with}
use Rattle.niss_attempts.proofs.SetLemmas.{of, NoneBelow}
use Rattle.niss_attempts.proofs.steps.sets.least_set.Given as goal

abbrev pub invariant-loop-number : goal.invariant-loop-number
invariant-loop-number l = record {
  tails : l.whole.corners.now.are_lines ≡ true → AreTails l.whole.steps.now l.whole.bounds.now (of (l.number - 1)) 0 l.tails;
  none : NoneBelow (solves_with (Ok l.whole.scramble.now) l.whole.steps.now l.whole.bounds.now) l.number;
}
