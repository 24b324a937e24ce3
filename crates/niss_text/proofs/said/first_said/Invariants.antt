use Rattle.std.proofs.Common.{◌-◌, slice_range}
use Rattle.niss_text.proofs.DeniedLemmas.{Knows}
use Rattle.niss_text.proofs.said.first_said.Given as goal

abbrev pub invariant-loop-at : goal.invariant-loop-at
invariant-loop-at l = Knows (slice_range l.text l.from l.to) (l.at - l.from) l.is_denied
