use Rattle.std.proofs.Common.{◌≡◌, ℕ, ◌<◌, true, get_or}
use Rattle.niss_text.specs.Signs.{is_digit}
use Rattle.niss_text.proofs.sign.digits_length.Given as goal

abbrev pub invariant-loop-at : goal.invariant-loop-at
invariant-loop-at l = (k : ℕ) → k < l.at → is_digit (get_or l.text k 0) ≡ true
