use Rattle.std.proofs.Common.{◌≡◌, ◌+◌, ◌≤◌, List, ◌++◌, length, take, drop}
use Rattle.niss_attempts.specs.declared.attempts.checks.AttemptCheck.{AttemptCheck}
use Rattle.niss_attempts.specs.Attempts.{Are, IsOfSolutions}
use Rattle.niss_attempts.proofs.attempts.checks.Attempts.check_parts.Given as goal

abbrev pub invariant-loop-part : goal.invariant-loop-part
invariant-loop-part l = record {
  are : l.count ≤ length l.checks → (more : List AttemptCheck) → Are (IsOfSolutions l.self.text.now l.self.lines.now l.self.known.scrambles.now l.self.known.ends.now) l.rest more →
      Are (IsOfSolutions l.self.text.now l.self.lines.now l.self.known.scrambles.now l.self.known.ends.now) l.self.parts.now (take l.count l.checks ++ more);
  counted : l.count + length l.rest ≡ length l.self.parts.now;
  after : drop l.count l.checks ≡ drop l.count l.initial.checks;
}

abbrev pub decreases-loop-part : goal.decreases-loop-part
decreases-loop-part l = length l.rest
