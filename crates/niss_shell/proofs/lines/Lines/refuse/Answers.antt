use Rattle.niss_shell.proofs.Names.{true, false, Err, refl, CannotWrite}
use Rattle.niss_shell.proofs.StateLemmas.{answered}
use Rattle.niss_shell.proofs.lines.Lines.refuse.Goals as goal

pub returns-in-Err-clause-refused : goal.returns-in-Err-clause-refused
returns-in-Err-clause-refused g c =
    rw c.from.ensures (answered g.W.Target.call true _ (Err CannotWrite) _ _ refl (c.in-Err.ensures.sent c.args.self.now.looks.now))

pub returns-clause-refused : goal.returns-clause-refused
returns-clause-refused g c = answered g.W.Target.call false _ _ _ _ refl (c.in_default.ensures.sent c.args.self.now.looks.now)
