use Rattle.niss_text.specs.Doubts.{HasNone}
use Rattle.niss_text.proofs.sights.first_seen.Given as goal

abbrev pub invariant-loop-at : goal.invariant-loop-at
invariant-loop-at l = HasNone l.text l.sight l.from l.at
