use Rattle.niss_shell.proofs.Names.{◌≡◌, ◌-◌, ◌∙◌, arith, ap, err_from_is_err_and}
use Rattle.niss_shell.proofs.Names.{near_looks_of}
use Rattle.niss_shell.proofs.OutputLemmas.{unsolved, nothing_waits, solved, reported_after, same_count}
use Rattle.niss_shell.proofs.line_command.Query.answer.Goals as goal

pub returns-in_err-outcome-in-Solutions-clause-empty : goal.returns-in_err-outcome-in-Solutions-clause-empty
returns-in_err-outcome-in-Solutions-clause-empty g c =
    let p = err_from_is_err_and c.from_residual.result c.from_residual.ensures.1 in
    rw p.1 (nothing_waits g.W.Target.call
    _ _ _ (c.in_err-outcome-in-Solutions.ensures.err c.requires.position.0 c.requires.position.1))

pub returns-in_err-outcome-in-Solutions-clause-reports : goal.returns-in_err-outcome-in-Solutions-clause-reports
returns-in_err-outcome-in-Solutions-clause-reports g c =
    let limit_is : c.new-path.result.limit ≡ c.in-Solutions.limit = ap (λ p. p.limit) c.new-path.ensures in
    let p = err_from_is_err_and c.from_residual.result c.from_residual.ensures.1 in
    rw (p.1, c.in-Solutions.is, ← limit_is) (λ e at. unsolved g.W.Target.call _ _ _ _ _ _ _
    (c.in_err-outcome-in-Solutions.ensures.err e at) c.in_err-outcome-in-Solutions.ensures.rises (c.in_err-outcome-in-Solutions.ensures.looks_at_most e at))

pub returns-in_ok-outcome-in-Solutions-clause-reports : goal.returns-in_ok-outcome-in-Solutions-clause-reports
returns-in_ok-outcome-in-Solutions-clause-reports g c =
    let limit_is : c.new-path.result.limit ≡ c.in-Solutions.limit = ap (λ p. p.limit) c.new-path.ensures in
    rw (c.in-Solutions.is, ← limit_is) (λ e at. solved g.W.Target.call _ _ _ _ _ _ c.args.output.now c.search.new.sink c.put.new.self
    (c.in_ok-outcome-in-Solutions.ensures.ok e at) (c.in_ok-outcome-in-Solutions.ensures.solutions e at) (c.in_ok-outcome-in-Solutions.ensures.looks e at)
    (rw limit_is c.set_end.ensures) c.put.ensures.taken)

pub returns-in-Counts-clause-reports : goal.returns-in-Counts-clause-reports
returns-in-Counts-clause-reports g c = λ e at.
    let found = c.count_solutions-outcome.ensures.found e at in
    let looked = c.count_solutions-outcome.ensures.looked e at in
    let nodes_are : c.count.result - c.count-before.result ≡ near_looks_of c.args.tables.now e c.in-Counts.limit 0 =
    omega (arith, c.count.ensures, c.count-before.ensures, looked) in
    rw c.in-Counts.is (reported_after g.W.Target.call _ _ _ _ c.args.output.now c.put-in-Counts.new.self
    (c.set_count.ensures ∙ same_count _ _ _ _ found.length_is found.solutions_are nodes_are)
    looked c.put-in-Counts.ensures.taken)

pub search-requires-clause-meter : goal.search-requires-clause-meter
search-requires-clause-meter g c = c.requires.meter

pub returns-in_err-outcome-in-Solutions-clause-bound : goal.returns-in_err-outcome-in-Solutions-clause-bound
returns-in_err-outcome-in-Solutions-clause-bound g c =
    let limit_is : c.new-path.result.limit ≡ c.in-Solutions.limit = ap (λ p. p.limit) c.new-path.ensures in
    rw (c.in-Solutions.is, ← limit_is) c.in_err-outcome-in-Solutions.ensures.bound

pub returns-in_ok-outcome-in-Solutions-clause-bound : goal.returns-in_ok-outcome-in-Solutions-clause-bound
returns-in_ok-outcome-in-Solutions-clause-bound g c =
    let limit_is : c.new-path.result.limit ≡ c.in-Solutions.limit = ap (λ p. p.limit) c.new-path.ensures in
    rw (c.in-Solutions.is, ← limit_is) c.in_ok-outcome-in-Solutions.ensures.bound

pub returns-in-Counts-clause-bound : goal.returns-in-Counts-clause-bound
returns-in-Counts-clause-bound g c = rw c.in-Counts.is c.count_solutions-outcome.ensures.bound
