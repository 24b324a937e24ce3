use Rattle.niss_shell.proofs.Names.{◌≡◌, ◌-◌, ◌≤◌, ◌<◌, length, false, [], Calls, most_bytes, IsAt, MayTake, Keeps, answers_of}
use Rattle.niss_shell.proofs.Names.{lines_state, progress_of}
use Rattle.niss_shell.proofs.lines.Lines.read.Given as goal

abbrev pub invariant-loop-given : goal.invariant-loop-given
invariant-loop-given g l = record {
  keeps : Keeps l.initial.self l.self;
  at : IsAt g.W.Target.call (answers_of l.initial.self) l.count (progress_of l.self) (Calls g.S.Source.call l.initial.source l.source)
      (lines_state l.initial.output l.initial.self) (lines_state l.output l.self);
  reads : (g.S.Source.state l.source).has_failed ≡ false;
  goes_on : (g.S.Source.state l.source).has_ended ≡ false;
  empty : l.output.pending.items ≡ [];
  room : l.count ≤ most_bytes;
  ready : MayTake (most_bytes - l.count) l.self;
  block : 0 < length l.block;
}

abbrev pub decreases-loop-given : goal.decreases-loop-given
decreases-loop-given g l = most_bytes - l.count
