use Rattle.std.proofs.Common.{◌≡◌, ◌-◌}
use Rattle.std.specs.Prelude.{find, not, slice_index}
use Rattle.std.specs.List.{range_with_len}
use Rattle.niss_attempts.specs.Blanks.{blanks_before, is_blank}
use Rattle.niss_attempts.proofs.doubts.shown_turn.last_place.Given as goal

abbrev pub invariant-loop-blanks : goal.invariant-loop-blanks
invariant-loop-blanks l =
    find (λ n. not (is_blank (slice_index l.text (l.end - 1 - n)))) (range_with_len l.blanks (l.end - l.begin - l.blanks)) ≡ blanks_before l.text l.begin l.end
