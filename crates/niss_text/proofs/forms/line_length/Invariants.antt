use Rattle.std.proofs.Common.{◌≡◌, ℕ, ◌<◌, false, get_or}
use Rattle.niss_text.specs.Signs.{ends_line}
use Rattle.niss_text.proofs.forms.line_length.Given as goal

abbrev pub invariant-loop-at : goal.invariant-loop-at
invariant-loop-at l = (k : ℕ) → k < l.at → ends_line (get_or l.text k 0) ≡ false
