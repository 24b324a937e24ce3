use Rattle.std.proofs.Common.{◌≡◌, ℕ, ◌+◌, ◌-◌, ◌<◌, ◌≤◌, false, length, drop, get_or}
use Rattle.niss_text.specs.Titles.{begins_with_step}
use Rattle.niss_text.proofs.forms.has_step.Given as goal

abbrev pub invariant-loop-rest : goal.invariant-loop-rest
invariant-loop-rest l = record {
  fits : length l.rest ≤ length l.text;
  rest : l.rest ≡ drop (length l.text - length l.rest) l.text;
  none : (k : ℕ) → k < length l.text - length l.rest → get_or l.text k 0 ≡ 32 → begins_with_step (drop (k + 1) l.text) ≡ false;
}

abbrev pub decreases-loop-rest : goal.decreases-loop-rest
decreases-loop-rest l = length l.rest
