use Rattle.niss_moves.proofs.Names.{subst, Ok, Err, IsReading}
use Rattle.niss_moves.proofs.Reading.{no_line, run_reads, ends_as}
use Rattle.niss_moves.specs.Reader.{read_line}
use Rattle.niss_moves.proofs.laws.line_is_read.Goals as goal

pub returns-clause-spelled : goal.returns-clause-spelled
unfolding read_line
returns-clause-spelled c bytes m =
    (λ e. subst (IsReading bytes) e (run_reads bytes), ends_as bytes (Ok m))

pub returns-clause-faulty : goal.returns-clause-faulty
unfolding read_line
returns-clause-faulty c bytes f =
    (λ e. let h = subst (IsReading bytes) e (run_reads bytes) in (no_line bytes f h, h), λ h. ends_as bytes (Err f) h.1)
