use Rattle.std.proofs.Common.{◌≡◌, length}
use Rattle.niss_attempts.proofs.BesideLemmas.{IsFoundBelow}
use Rattle.niss_attempts.proofs.doubts.beside.Solved.found_in.Given as goal

abbrev pub invariant-loop-line : goal.invariant-loop-line
invariant-loop-line l = record {
  found : IsFoundBelow l.self.text.now l.lines l.rest l.self.scramble.now l.self.solution.now l.found;
  room : length l.out ≡ length l.initial.out;
  places : length l.places ≡ length l.initial.places;
}

abbrev pub decreases-loop-line : goal.decreases-loop-line
decreases-loop-line l = length l.rest
