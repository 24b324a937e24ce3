use Rattle.std.proofs.Common.{◌≡◌, ℕ, ◌-◌, ◌<◌, ◌≤◌, false, length, drop}
use Rattle.niss_text.specs.Titles.{begins_with_pair}
use Rattle.niss_text.proofs.forms.has_pair.Given as goal

abbrev pub invariant-loop-rest : goal.invariant-loop-rest
invariant-loop-rest l = record {
  fits : length l.rest ≤ length l.words;
  rest : l.rest ≡ drop (length l.words - length l.rest) l.words;
  none : (k : ℕ) → k < length l.words - length l.rest → begins_with_pair (drop k l.words) ≡ false;
}

abbrev pub decreases-loop-rest : goal.decreases-loop-rest
decreases-loop-rest l = length l.rest
