use Rattle.std.proofs.Common.{◌≡◌, ◌-◌, ◌∷◌, ◌∙◌, true, false, length, take, drop, sym, arith, rules}
use Rattle.niss_attempts.proofs.AttemptRuns.{run_from}
use Rattle.niss_attempts.proofs.attempts.runs.next_run.Goals as goal

pub returns-then-has_scramble : goal.returns-then-has_scramble
returns-then-has_scramble c =
    let lines = c.args.lines.now in
    let first = c.loop-line.first in
    let here : take (length lines - first) (drop first lines) ≡ c.in-Some.line.now ∷ c.in-Some.others.now = search rules in
    let run =
    run_from lines c.in-Some.others.now c.in-Some.line.now first c.alike.result true here c.alike.ensures.are c.alike.ensures.few (sym c.has_scramble.ensures ∙ c.if-has_scramble.true) in
    (c.loop-line.invariant.further, omega arith, run.0, c.loop-line.invariant.same ∙ run.1)

pub loop-line-preserved : goal.loop-line-preserved
loop-line-preserved c =
    let lines = c.args.lines.now in
    let first = c.loop-line.first in
    let here : take (length lines - first) (drop first lines) ≡ c.in-Some.line.now ∷ c.in-Some.others.now = search rules in
    let run =
    run_from lines c.in-Some.others.now c.in-Some.line.now first c.alike.result false here c.alike.ensures.are c.alike.ensures.few (sym c.has_scramble.ensures ∙ c.if-has_scramble.false) in
    record { same = c.loop-line.invariant.same ∙ run.1; further = omega (arith, c.loop-line.invariant.further); within = run.0 }
