-- The room for the moves of some lines.
use Rattle.std.proofs.Common.{ℕ, zero, suc, ◌-◌, ◌≤◌, Bool, true, false, cond, List, [], ◌∷◌, take, drop, slice_range, arith}
use Rattle.std.specs.List.{filter}
use Rattle.niss_text.specs.declared.text_line.TextLine.{TextLine}
unfoldable use Rattle.niss_text.specs.Moves.{most_bytes}

kept_or_not : (b : Bool) (line : TextLine) (rest lines : List TextLine) → most_bytes rest ≤ most_bytes lines →
    most_bytes (cond b (line ∷ rest) rest) ≤ most_bytes (line ∷ lines)
unfolding most_bytes
kept_or_not true line rest lines few = omega (arith, few)
kept_or_not false line rest lines few = omega (arith, few)

-- some of the lines take no more room than all
pub most_kept : (p : TextLine → Bool) (lines : List TextLine) → most_bytes (filter p lines) ≤ most_bytes lines
most_kept p [] = omega arith
most_kept p (line ∷ lines) = kept_or_not (p line) line (filter p lines) lines (most_kept p lines)

most_after : (n : ℕ) (lines : List TextLine) → most_bytes (drop n lines) ≤ most_bytes lines
unfolding most_bytes
most_after zero lines = omega arith
most_after (suc n) [] = omega arith
most_after (suc n) (line ∷ lines) = let h = most_after n lines in omega (arith, h)

-- nor do the first ones
pub most_first : (n : ℕ) (lines : List TextLine) → most_bytes (take n lines) ≤ most_bytes lines
unfolding most_bytes
most_first zero lines = omega arith
most_first (suc n) [] = omega arith
most_first (suc n) (line ∷ lines) = let h = most_first n lines in omega (arith, h)

-- nor those from one to another
pub most_between : (lines : List TextLine) (begin end : ℕ) → most_bytes (slice_range lines begin end) ≤ most_bytes lines
most_between lines begin end =
    let first = most_first (end - begin) (drop begin lines) in
    let after = most_after begin lines in
    omega (arith, first, after)
