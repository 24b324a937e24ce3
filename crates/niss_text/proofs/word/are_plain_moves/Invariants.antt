use Rattle.std.proofs.Common.{◌≡◌, ℕ, ◌+◌, ◌<◌, get_or}
use Rattle.niss_text.proofs.word.are_plain_moves.Given as goal

abbrev pub invariant-loop-byte : goal.invariant-loop-byte
invariant-loop-byte l = record {
  first : l.byte-index ≡ 0 → l.before ≡ 32;
  later : (k : ℕ) → k + 1 ≡ l.byte-index → l.before ≡ get_or l.text k 0;
  slash : (k : ℕ) → k < l.byte-index → get_or l.text k 0 ≡ 47 → ⊥;
}
