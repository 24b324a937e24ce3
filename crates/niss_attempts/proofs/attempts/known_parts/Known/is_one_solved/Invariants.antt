use Rattle.std.proofs.Common.{◌≡◌, ℕ, List, false}
use Rattle.std.specs.List.{list_any, range_with_len}
use Rattle.niss_attempts.specs.Attempts.{solves_known}
use Rattle.niss_lines.specs.LineFacts.{IsReadAs}
use Rattle.niss_attempts.proofs.attempts.known_parts.Known.is_one_solved.Given as goal

abbrev pub invariant-loop-number : goal.invariant-loop-number
invariant-loop-number l =
    (line : List ℕ) → IsReadAs line l.solution → list_any (solves_known l.self.scrambles.now l.self.ends.now line) (range_with_len 0 l.number) ≡ false
