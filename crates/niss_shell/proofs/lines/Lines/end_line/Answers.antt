use Rattle.niss_shell.proofs.lines.Lines.end_line.Goals as goal

pub returns-in-Err-clause-answers : goal.returns-in-Err-clause-answers
returns-in-Err-clause-answers g c = λ bytes at.
    rw (← c.end.ensures.line bytes at, c.in-Err.is) c.refuse.ensures.refused
