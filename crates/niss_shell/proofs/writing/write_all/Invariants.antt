use Rattle.niss_shell.proofs.Names.{false, length, Writes}
use Rattle.niss_shell.proofs.writing.write_all.Given as goal

abbrev pub invariant-loop-rest : goal.invariant-loop-rest
invariant-loop-rest g l = Writes g.W.Target.call false l.piece l.rest l.initial.out l.out

abbrev pub decreases-loop-rest : goal.decreases-loop-rest
decreases-loop-rest g l = length l.rest
