use Rattle.std.proofs.Common.{◌≡◌, length}
use Rattle.niss_attempts.proofs.TriedLemmas.{AreTried}
use Rattle.niss_attempts.proofs.doubts.another.first_begun.Given as goal

abbrev pub invariant-loop-at : goal.invariant-loop-at
invariant-loop-at g l = record {
  tries : AreTried (g.S.Sought.is_possible l.sought l.lines) (g.S.Sought.tells l.sought l.lines) l.at l.tried;
  room : length l.out ≡ length l.initial.out;
  places : length l.places ≡ length l.initial.places;
}
