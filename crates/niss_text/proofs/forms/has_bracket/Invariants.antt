use Rattle.std.proofs.Common.{◌≡◌, ℕ, ◌+◌, ◌-◌, ◌<◌, ◌≤◌, true, length, drop, get_or}
use Rattle.niss_text.specs.Signs.{is_digit}
use Rattle.niss_text.proofs.forms.has_bracket.Given as goal

abbrev pub invariant-loop-rest : goal.invariant-loop-rest
invariant-loop-rest l = record {
  fits : length l.rest ≤ length l.line;
  rest : l.rest ≡ drop (length l.line - length l.rest) l.line;
  none : (k : ℕ) → k < length l.line - length l.rest → get_or l.line k 0 ≡ 40 → is_digit (get_or l.line (k + 1) 0) ≡ true;
}

abbrev pub decreases-loop-rest : goal.decreases-loop-rest
decreases-loop-rest l = length l.rest
