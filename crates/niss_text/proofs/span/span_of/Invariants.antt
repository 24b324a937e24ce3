use Rattle.std.proofs.Common.{◌≡◌, ◌<◌, ◌≤◌, ◌-◌, true, false, length, drop}
use Rattle.niss_text.specs.Kept.{IsNoMove, begins_with_move}
use Rattle.niss_text.proofs.span.span_of.Given as goal

abbrev pub invariant-loop-rest : goal.invariant-loop-rest
invariant-loop-rest l = record {
  left : length l.rest ≤ length l.line;
  rest : l.rest ≡ drop (length l.line - length l.rest) l.line;
  lead : l.frame.lead ≤ length l.line - length l.rest;
  tail : l.frame.tail ≤ length l.line - length l.rest;
  opened : l.frame.bracket ≤ length l.line - length l.rest;
  name : l.frame.name ≤ length l.line - length l.rest;
  tail_is : IsNoMove l.line l.frame.has_tail l.frame.tail;
  open_is : IsNoMove l.line l.frame.is_open l.frame.bracket;
  moved : begins_with_move l.line ≡ true → 0 < length l.line - length l.rest → (l.frame.is_lead ≡ false) × (l.frame.lead ≡ 0);
}

abbrev pub decreases-loop-rest : goal.decreases-loop-rest
decreases-loop-rest l = length l.rest
