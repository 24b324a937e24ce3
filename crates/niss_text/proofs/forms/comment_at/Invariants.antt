use Rattle.std.proofs.Common.{◌≡◌, ◌<◌, ◌≤◌, ◌+◌, ◌-◌, ℕ, length, drop, get_or}
use Rattle.niss_text.proofs.forms.comment_at.Given as goal

abbrev pub invariant-loop-rest : goal.invariant-loop-rest
invariant-loop-rest l = record {
  fits : length l.rest ≤ length l.line;
  rest : l.rest ≡ drop (length l.line - length l.rest) l.line;
  first : (k : ℕ) → k < length l.line - length l.rest → get_or l.line k 0 ≡ 47 → get_or l.line (k + 1) 0 ≡ 47 → ⊥;
}

abbrev pub decreases-loop-rest : goal.decreases-loop-rest
decreases-loop-rest l = length l.rest
