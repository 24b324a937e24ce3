use Rattle.std.proofs.Common.{◌≡◌, ℕ, ◌<◌, get_or}
use Rattle.niss_text.specs.Kept.{small}
use Rattle.niss_text.proofs.words.word_length.Given as goal

abbrev pub invariant-loop-at : goal.invariant-loop-at
invariant-loop-at l = (k : ℕ) → k < l.at → small (get_or l.text k 0) ≡ get_or l.word k 0
