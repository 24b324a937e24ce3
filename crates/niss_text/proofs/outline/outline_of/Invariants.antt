use Rattle.std.proofs.Common.{◌≡◌, ◌-◌, ◌<◌, ◌≤◌, true, false, length}
use Rattle.niss_text.proofs.outline.outline_of.Given as goal

abbrev pub invariant-loop-rest : goal.invariant-loop-rest
invariant-loop-rest l = record {
  left : length l.rest ≤ length l.text;
  further : l.has_moves ≡ true → length l.rest < length l.text;
  number : l.number ≤ length l.text;
  first : l.seen.first ≤ length l.text - length l.rest;
  last : 0 < l.number → l.seen.first ≤ l.number;
  unnumbered : l.has_moves ≡ false → l.number ≡ 0;
}

abbrev pub decreases-loop-rest : goal.decreases-loop-rest
decreases-loop-rest l = length l.rest
