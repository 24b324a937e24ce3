use Rattle.std.proofs.Common.{◌≡◌, ℕ, ◌+◌, ◌<◌, true, get_or}
use Rattle.niss_text.specs.Signs.{is_letter}
use Rattle.niss_text.proofs.words.has_word.Given as goal

abbrev pub invariant-loop-byte : goal.invariant-loop-byte
invariant-loop-byte l = record {
  last : (k : ℕ) → k + 1 ≡ l.byte-index → l.is_after_letter ≡ is_letter (get_or l.text k 0);
  none : (k : ℕ) → k + 1 < l.byte-index → is_letter (get_or l.text k 0) ≡ true → is_letter (get_or l.text (k + 1) 0) ≡ true → ⊥;
}
