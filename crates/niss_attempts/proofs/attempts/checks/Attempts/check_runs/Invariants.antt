use Rattle.std.proofs.Common.{◌≡◌, ◌+◌, ◌-◌, ◌≤◌, List, ◌++◌, length, take, drop}
use Rattle.niss_attempts.specs.declared.attempts.checks.AttemptCheck.{AttemptCheck}
use Rattle.niss_attempts.specs.Attempts.{Are, IsOfAttempt, attempts_from}
use Rattle.niss_attempts.proofs.attempts.checks.Attempts.check_runs.Given as goal

abbrev pub invariant-loop-run : goal.invariant-loop-run
invariant-loop-run l = record {
  are : l.count ≤ length l.checks → (more : List AttemptCheck) → Are (IsOfAttempt l.self.text.now l.self.lines.now) (attempts_from l.at l.self.lines.now) more →
      Are (IsOfAttempt l.self.text.now l.self.lines.now) (attempts_from 0 l.self.lines.now) (take l.count l.checks ++ more);
  few : l.count ≤ l.at;
  counted : l.count + length (attempts_from l.at l.self.lines.now) ≡ length (attempts_from 0 l.self.lines.now);
  within : l.at ≤ length l.self.lines.now;
  after : drop l.count l.checks ≡ drop l.count l.initial.checks;
}

abbrev pub decreases-loop-run : goal.decreases-loop-run
decreases-loop-run l = length l.self.lines.now - l.at
