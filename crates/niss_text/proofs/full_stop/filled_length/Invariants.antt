use Rattle.std.proofs.Common.{◌≡◌, ℕ, ◌+◌, ◌≤◌, length, get_or}
use Rattle.niss_text.proofs.full_stop.filled_length.Given as goal

abbrev pub invariant-loop-end : goal.invariant-loop-end
invariant-loop-end l = record {
  fits : l.end ≤ length l.line;
  all : (count : ℕ) → length l.line ≡ count + 1 → get_or l.line count 0 ≡ 46 → l.end ≡ count + 1;
}

abbrev pub decreases-loop-end : goal.decreases-loop-end
decreases-loop-end l = l.end
