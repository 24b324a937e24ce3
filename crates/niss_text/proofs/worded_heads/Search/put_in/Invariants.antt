use Rattle.std.proofs.Common.{◌≡◌, ◌-◌, ◌≤◌, ℕ, length, get_or}
use Rattle.niss_text.specs.Known.{AreOrHeaded}
use Rattle.niss_text.specs.Kept.{words_of_any_head}
use Rattle.niss_text.specs.Lines.{CoversBy}
use Rattle.niss_text.specs.declared.text_line.TextLine.{TextLine}
use Rattle.niss_text.proofs.worded_heads.Search.put_in.Given as goal

abbrev pub invariant-loop-at : goal.invariant-loop-at
invariant-loop-at l = record {
  same : length l.lines ≡ length l.initial.lines;
  counted : length l.counts ≡ length l.initial.counts;
  covers : CoversBy words_of_any_head l.self.text.now 0 l.initial.lines (length l.self.text.now) → CoversBy words_of_any_head l.self.text.now 0 l.lines (length l.self.text.now);
  only : AreOrHeaded l.self.text.now (length l.initial.counts) l.initial.lines l.lines;
  rest : (k : ℕ) (none : TextLine) → l.at ≤ k → get_or l.lines k none ≡ get_or l.initial.lines k none;
}

abbrev pub decreases-loop-at : goal.decreases-loop-at
decreases-loop-at l = length l.lines - l.at
