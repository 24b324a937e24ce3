use Rattle.std.proofs.Common.{◌≡◌, ◌-◌, ◌≤◌, length}
use Rattle.niss_attempts.specs.Attempts.{attempts_from}
use Rattle.niss_attempts.proofs.attempts.runs.next_run.Given as goal

abbrev pub invariant-loop-line : goal.invariant-loop-line
invariant-loop-line l = record {
  same : attempts_from l.from l.lines ≡ attempts_from l.first l.lines;
  further : l.from ≤ l.first;
  within : l.first ≤ length l.lines;
}

abbrev pub decreases-loop-line : goal.decreases-loop-line
decreases-loop-line l = length l.lines - l.first
