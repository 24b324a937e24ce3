use Rattle.std.proofs.Common.{◌≡◌, ◌-◌, ◌≤◌, false, length, get_or}
use Rattle.niss_text.specs.Doubts.{is_letter as is_plain_letter}
use Rattle.niss_text.proofs.AxisLemmas.{HasLabelWords}
use Rattle.niss_text.proofs.label_words.label_words_length.Given as goal

abbrev pub invariant-loop-end : goal.invariant-loop-end
invariant-loop-end l = record {
  fits : l.end ≤ length l.line;
  words : HasLabelWords l.line l.end;
  all_words : is_plain_letter (get_or l.line l.end 0) ≡ false;
}

abbrev pub decreases-loop-end : goal.decreases-loop-end
decreases-loop-end l = length l.line - l.end
