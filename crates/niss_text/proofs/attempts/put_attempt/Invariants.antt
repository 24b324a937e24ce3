use Rattle.std.proofs.Common.{◌≡◌, ℕ, ◌+◌, ◌-◌, ◌<◌, ◌≤◌, List, length, take, drop, slice_range, get_or}
use Rattle.niss_text.specs.Lines.{Covers, Counts, TakesBy, Remain, AreNumbered, Begins, BeginNumbered}
use Rattle.niss_text.specs.Groups.{AreGrouped, AreBelow, IsFresh}
use Rattle.niss_text.specs.declared.text_line.TextLine.{TextLine}
use Rattle.niss_text.proofs.GroupedLines.{SoFar, IsLast}
use Rattle.niss_text.proofs.attempts.put_attempt.Given as goal

abbrev pub invariant-loop-at : goal.invariant-loop-at
invariant-loop-at l = record {
  within : l.begin + l.at ≤ length l.text;
  more : l.written ≤ l.count;
  few : l.count ≤ l.begin + l.at;
  covers : Covers l.text 0 (take l.written l.initial.lines) l.begin → l.count ≤ length l.lines → Covers l.text 0 (take l.count l.lines) (l.begin + l.at);
  takes : (words : List (List ℕ)) (from first : ℕ) → first ≤ l.written → TakesBy words l.text from (slice_range l.initial.lines first l.written) l.begin →
      l.count ≤ length l.lines → TakesBy words l.text from (slice_range l.lines first l.count) (l.begin + l.at);
  kept : take l.written l.lines ≡ take l.written l.initial.lines;
  counts : Counts l.text 0 l.written l.begin → Counts l.text 0 l.count (l.begin + l.at);
  remain : (all end : ℕ) → l.begin + l.attempt.length ≤ end → end ≤ length l.text → Remain l.text all l.written l.begin end →
      Remain l.text all l.count (l.begin + l.at) end;
  first : AreNumbered 0 (take l.written l.initial.lines) l.attempt.number → l.at ≡ 0 → l.count ≤ length l.lines →
      AreNumbered 0 (take l.count l.lines) l.attempt.number;
  numbers : AreNumbered 0 (take l.written l.initial.lines) l.attempt.number → 0 < l.at → l.count ≤ length l.lines →
      AreNumbered 0 (take l.count l.lines) (l.attempt.number + 1);
  first_on : (seen first : ℕ) → first ≤ l.written → AreNumbered seen (slice_range l.initial.lines first l.written) l.attempt.number → l.at ≡ 0 →
      l.count ≤ length l.lines → AreNumbered seen (slice_range l.lines first l.count) l.attempt.number;
  numbers_on : (seen first : ℕ) → first ≤ l.written → AreNumbered seen (slice_range l.initial.lines first l.written) l.attempt.number → 0 < l.at →
      l.count ≤ length l.lines → AreNumbered seen (slice_range l.lines first l.count) (l.attempt.number + 1);
  begins : (l.written ≤ length l.initial.lines → Covers l.text 0 (take l.written l.initial.lines) l.begin) → Begins l.text (take l.written l.initial.lines) →
      Begins l.text (take l.count l.lines);
  in_order : (l.written ≤ length l.initial.lines → AreNumbered 0 (take l.written l.initial.lines) l.attempt.number) →
      BeginNumbered (take l.written l.initial.lines) → BeginNumbered (take l.count l.lines);
  fresh : l.at ≤ l.attempt.scramble_end → IsFresh l.group;
  numbered : l.group.number ≤ l.at;
  begun : l.at ≡ 0 → (l.count ≡ l.written) × (l.lines ≡ l.initial.lines);
  some : 0 < l.at → 0 < l.count;
  last : 0 < l.at → l.count ≤ length l.lines → (none : TextLine) → IsLast l.attempt.number l.group (get_or l.lines (l.count - 1) none);
  groups : AreBelow l.attempt.number (take l.written l.initial.lines) → AreGrouped (take l.written l.initial.lines) →
      SoFar (take l.count l.lines) l.attempt.number l.attempt.solution l.group l.attempt.scramble_end l.at;
  behind : drop l.count l.lines ≡ drop l.count l.initial.lines;
}

abbrev pub decreases-loop-at : goal.decreases-loop-at
decreases-loop-at l = l.attempt.length - l.at
