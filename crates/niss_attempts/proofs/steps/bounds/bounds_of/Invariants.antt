use Rattle.std.proofs.Common.{◌≡◌}
use Rattle.niss_attempts.specs.Parts.{in_bracket}
use Rattle.niss_attempts.proofs.PartLemmas.{bounds_to}
use Rattle.niss_attempts.proofs.steps.bounds.bounds_of.Given as goal

abbrev pub invariant-loop-at : goal.invariant-loop-at
invariant-loop-at l = record {
  bracket : l.is_open ≡ in_bracket l.text l.at;
  bounds : l.bounds.items ≡ bounds_to l.text l.at;
}
