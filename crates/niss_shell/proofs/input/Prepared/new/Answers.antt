use Rattle.niss_shell.proofs.Names.{map, string_bytes, err_from_is_err_and}
use Rattle.niss_shell.proofs.RunLemmas.{tables_memory}
use Rattle.niss_shell.proofs.input.Prepared.new.Goals as goal

pub returns-in_err-input-clause-refused : goal.returns-in_err-input-clause-refused
returns-in_err-input-clause-refused g c =
    let p = err_from_is_err_and c.from_residual.result c.from_residual.ensures.1 in
    rw (p.1, p.2) (c.in_err-input.ensures.refused c.args.command)

pub returns-in_err-command-clause-refused : goal.returns-in_err-command-clause-refused
returns-in_err-command-clause-refused g c =
    let p = err_from_is_err_and c.from_residual-in_err-command.result c.from_residual-in_err-command.ensures.1 in
    rw (p.1, p.2) (tables_memory (λ text. text.items) c.in_ok-input.input c.args.command (map string_bytes c.args.words.now) c.in_ok-input.ensures.input c.in_err-command.ensures)
