use Rattle.std.proofs.Common.{◌≡◌, ℕ, ◌+◌, ◌-◌, ◌≤◌, List, length, take, drop, slice_range}
use Rattle.niss_text.specs.Lines.{Covers, Counts, TakesBy, Remain, AreNumbered, NumbersOn, Begins, BeginNumbered}
use Rattle.niss_text.specs.Groups.{AreGrouped, AreBelow}
use Rattle.niss_text.proofs.attempts.put_attempts.Given as goal

abbrev pub invariant-loop-at : goal.invariant-loop-at
invariant-loop-at l = record {
  here : l.at ≤ length l.text;
  begun : l.fn.so_far.at ≤ l.at;
  within : l.stretch_end ≤ l.end;
  more : l.fn.so_far.lines ≤ l.count;
  few : l.count ≤ l.at;
  covers : Covers l.text 0 (take l.fn.so_far.lines l.initial.lines) l.fn.so_far.at → l.count ≤ length l.lines → Covers l.text 0 (take l.count l.lines) l.at;
  takes : (words : List (List ℕ)) (from first : ℕ) → first ≤ l.fn.so_far.lines → TakesBy words l.text from (slice_range l.initial.lines first l.fn.so_far.lines) l.fn.so_far.at →
      l.count ≤ length l.lines → TakesBy words l.text from (slice_range l.lines first l.count) l.at;
  kept : take l.fn.so_far.lines l.lines ≡ take l.fn.so_far.lines l.initial.lines;
  counts : Counts l.text 0 l.fn.so_far.lines l.fn.so_far.at → Counts l.text 0 l.count l.at;
  remain : (all : ℕ) → Remain l.text all l.fn.so_far.lines l.fn.so_far.at l.end → Remain l.text all l.count l.at l.end;
  numbered : l.fn.so_far.attempts ≤ l.fn.so_far.at → l.attempts ≤ l.at;
  numbers : AreNumbered 0 (take l.fn.so_far.lines l.initial.lines) l.fn.so_far.attempts → l.fn.so_far.attempts ≤ l.fn.so_far.at → l.count ≤ length l.lines →
      AreNumbered 0 (take l.count l.lines) l.attempts;
  numbered_on : l.fn.so_far.attempts ≤ l.fn.so_far.at + 1 → l.attempts ≤ l.at + 1;
  numbers_on : l.fn.so_far.attempts ≤ l.fn.so_far.at + 1 → NumbersOn l.initial.lines l.lines l.fn.so_far.lines l.count l.fn.so_far.attempts l.attempts;
  begins : (l.fn.so_far.lines ≤ length l.initial.lines → Covers l.text 0 (take l.fn.so_far.lines l.initial.lines) l.fn.so_far.at) →
      Begins l.text (take l.fn.so_far.lines l.initial.lines) → Begins l.text (take l.count l.lines);
  in_order : (l.fn.so_far.lines ≤ length l.initial.lines → AreNumbered 0 (take l.fn.so_far.lines l.initial.lines) l.fn.so_far.attempts) →
      l.fn.so_far.attempts ≤ l.fn.so_far.at → BeginNumbered (take l.fn.so_far.lines l.initial.lines) → BeginNumbered (take l.count l.lines);
  groups : l.fn.so_far.attempts ≤ l.fn.so_far.at → AreBelow l.fn.so_far.attempts (take l.fn.so_far.lines l.initial.lines) →
      AreGrouped (take l.fn.so_far.lines l.initial.lines) → AreBelow l.attempts (take l.count l.lines) × AreGrouped (take l.count l.lines);
  behind : drop l.count l.lines ≡ drop l.count l.initial.lines;
}

abbrev pub decreases-loop-at : goal.decreases-loop-at
decreases-loop-at l = length l.text - l.at
