use Rattle.std.proofs.Common.{ℕ, ◌+◌, ◌≤◌, length}
use Rattle.niss_attempts.specs.Runs.{Alike}
use Rattle.niss_attempts.proofs.attempts.runs.alike.Given as goal

abbrev pub invariant-loop-line : goal.invariant-loop-line
invariant-loop-line l = record {
  are : (n : ℕ) → Alike l.attempt n l.rest → Alike l.attempt (l.count + n) l.lines;
  few : l.count + length l.rest ≤ length l.lines;
}

abbrev pub decreases-loop-line : goal.decreases-loop-line
decreases-loop-line l = length l.rest
