use Rattle.std.proofs.Common.{◌≡◌, ℕ, ◌-◌, ◌<◌, ◌≤◌, true, false, length, drop, get_or}
use Rattle.niss_text.specs.Doubts.{is_letter as is_plain_letter}
use Rattle.niss_text.specs.Said.{IsDenied}
use Rattle.niss_text.proofs.said.names_undenied.Given as goal

abbrev pub invariant-loop-rest : goal.invariant-loop-rest
invariant-loop-rest l = record {
  fits : length l.rest ≤ length l.text;
  rest : l.rest ≡ drop (length l.text - length l.rest) l.text;
  before : 0 < length l.rest → 0 < length l.text - length l.rest → is_plain_letter (get_or l.text (length l.text - length l.rest - 1) 0) ≡ false;
  denied : 0 < length l.rest → (between : ℕ) → IsDenied between l.text (length l.text - length l.rest) → l.is_denied ≡ true;
}

abbrev pub decreases-loop-rest : goal.decreases-loop-rest
decreases-loop-rest l = length l.rest
