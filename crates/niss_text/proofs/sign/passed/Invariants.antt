use Rattle.std.proofs.Common.{◌≡◌, ◌<◌, ◌≤◌, ◌-◌, ℕ, true, length, take, drop, get_or}
use Rattle.niss_text.specs.Signs.{HasNoMoves, AreSigns, AreWords, is_letter, is_spacing}
use Rattle.niss_text.specs.declared.sign.Class.TheVariants.{Letters, NoBlanks, Skipped, Words}
use Rattle.niss_text.specs.Kept.{HasTurns, is_turn}
use Rattle.niss_text.proofs.sign.passed.Given as goal

abbrev pub invariant-loop-class : goal.invariant-loop-class
invariant-loop-class l = record {
  fits : length l.rest ≤ length l.text;
  rest : l.rest ≡ drop (length l.text - length l.rest) l.text;
  skipped : l.class ≡ Skipped → HasNoMoves (take (length l.text - length l.rest) l.text);
  spacing : l.class ≡ Skipped → AreSigns is_spacing (take (length l.text - length l.rest) l.text);
  words : l.class ≡ Words → AreWords (take (length l.text - length l.rest) l.text);
  turns : l.class ≡ NoBlanks → HasTurns l.text → (k : ℕ) → k < length l.text - length l.rest → is_turn (get_or l.text k 0) ≡ true;
  letters : l.class ≡ Letters → (k : ℕ) → k < length l.text - length l.rest → is_letter (get_or l.text k 0) ≡ true;
}

abbrev pub decreases-loop-class : goal.decreases-loop-class
decreases-loop-class l = length l.rest
