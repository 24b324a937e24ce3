use Rattle.std.proofs.Common.{◌≡◌, length}
use Rattle.niss_lines.specs.LineFacts.{has_half_prime}
use Rattle.niss_lines.proofs.facts.has_half_prime.Given as goal

abbrev pub invariant-loop-byte : goal.invariant-loop-byte
invariant-loop-byte l = has_half_prime l.rest ≡ has_half_prime l.line

abbrev pub decreases-loop-byte : goal.decreases-loop-byte
decreases-loop-byte l = length l.rest
