use Rattle.niss_shell.proofs.Names.{◌≤◌, ◌-◌, length, take, Ok, Rises, Keeps, Takes, lines_state}
use Rattle.niss_shell.proofs.lines.Lines.take_block.Given as goal

abbrev pub invariant-loop-index : goal.invariant-loop-index
invariant-loop-index g l = record {
  keeps : Keeps l.initial.self l.self;
  takes : Takes g.W.Target.call (take l.index l.bytes) (Ok tt) l.initial.self l.self
      (lines_state l.initial.output l.initial.self) (lines_state l.output l.self);
  rises : Rises l.index l.initial.self l.self;
  within : l.index ≤ length l.bytes;
}

abbrev pub decreases-loop-index : goal.decreases-loop-index
decreases-loop-index g l = length l.bytes - l.index
