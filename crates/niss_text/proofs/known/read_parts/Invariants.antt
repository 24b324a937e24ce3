use Rattle.std.proofs.Common.{◌≡◌, ◌-◌, ◌≤◌, length, take, drop, slice_range}
use Rattle.niss_text.specs.Known.{AreSaid, HaveLines, HaveNames, PartsTake, have_numbers}
use Rattle.niss_text.specs.Kept.{words_of_any_head}
use Rattle.niss_text.specs.Lines.{CoversBy, Takes}
use Rattle.niss_text.proofs.PartLemmas.{Unread}
use Rattle.niss_text.proofs.known.read_parts.Given as goal

abbrev pub invariant-loop-next : goal.invariant-loop-next
invariant-loop-next l = record {
  at : l.seen.read.at ≤ length l.text;
  within : l.next ≤ l.count;
  same : length l.lines ≡ length l.initial.lines;
  few : l.seen.parts ≤ l.next;
  takes : CoversBy words_of_any_head l.text 0 (take l.count l.initial.lines) (length l.text) → Takes l.text 0 (take l.seen.read.lines l.lines) l.seen.read.at;
  told : CoversBy words_of_any_head l.text 0 (take l.count l.initial.lines) (length l.text) → l.seen.parts ≤ length l.parts →
      PartsTake l.text l.lines 0 (take l.seen.parts l.parts) l.seen.read.at;
  unread : CoversBy words_of_any_head l.text 0 (take l.count l.initial.lines) (length l.text) →
      Unread l.text l.seen.read.at l.seen.read.lines l.next (slice_range l.lines l.next l.count);
  have : l.seen.parts ≤ length l.parts → HaveLines 0 (take l.seen.parts l.parts) l.seen.read.lines;
  says : l.seen.parts ≤ length l.parts → AreSaid l.text (take l.seen.parts l.parts);
  numbered : l.seen.parts ≤ length l.parts → l.seen.has_numbers ≡ have_numbers l.text (take l.seen.parts l.parts);
  names : CoversBy words_of_any_head l.text 0 (take l.count l.initial.lines) (length l.text) → l.seen.parts ≤ length l.parts → HaveNames l.text (take l.seen.parts l.parts);
  behind : drop l.seen.parts l.parts ≡ drop l.seen.parts l.initial.parts;
}

abbrev pub decreases-loop-next : goal.decreases-loop-next
decreases-loop-next l = l.count - l.next
