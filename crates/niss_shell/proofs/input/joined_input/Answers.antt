use Rattle.niss_shell.proofs.Names.{List, String, map, length, ◌<◌, arith, string_bytes, common_steps, length-map, err_from_is_err_and}
use Rattle.niss_shell.proofs.RunLemmas.{runs_too_long, runs_memory}
use Rattle.niss_shell.proofs.input.joined_input.Goals as goal

some_words : {B : Type 0} (words : List (String B)) → 0 < length words → 0 < length (map string_bytes words)
some_words words h = simp length-map h

pub returns-in_default-clause-refused : goal.returns-in_default-clause-refused
returns-in_default-clause-refused g c = λ command. runs_too_long _ _
    (some_words c.args.words.now (grind (arith, common_steps))) c.in_default.ensures

pub returns-in_err-text-clause-refused : goal.returns-in_err-text-clause-refused
returns-in_err-text-clause-refused g c =
    let p = err_from_is_err_and c.from_residual.result c.from_residual.ensures.1 in
    rw (p.1, p.2) (λ command. runs_memory _ _
    (some_words c.args.words.now (grind (arith, common_steps))) (rw (← c.in-Some.ensures.0) c.in-Some.ensures.1))
