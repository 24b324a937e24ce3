use Rattle.std.proofs.Common.{◌≡◌, ◌≢◌, ◌∷◌, [], length, ap, arith, rules}
use Rattle.std.proofs.lemmas.List.{nil_from_length}
use Rattle.niss_attempts.proofs.AttemptRuns.{alike_stop, alike_more, alike_all}
use Rattle.niss_attempts.proofs.attempts.runs.alike.Goals as goal

pub returns-then-line-attempt-clause-are : goal.returns-then-line-attempt-clause-are
returns-then-line-attempt-clause-are c =
    let is : c.loop-line.rest.now ≡ c.in-Some.line.now ∷ c.in-Some.after.now = search rules in
    let differs : c.in-Some.line.now.attempt ≢ c.args.attempt = search rules in
    alike_stop c.args.attempt c.loop-line.count c.loop-line.rest.now c.args.lines.now c.in-Some.after.now c.in-Some.line.now is differs c.loop-line.invariant.are

pub loop-line-preserved : goal.loop-line-preserved
loop-line-preserved c =
    let is : c.loop-line.rest.now ≡ c.in-Some.line.now ∷ c.in-Some.after.now = search rules in
    let same : c.in-Some.line.now.attempt ≡ c.args.attempt = search rules in
    record {
      are = alike_more c.args.attempt c.loop-line.count c.loop-line.rest.now c.args.lines.now c.in-Some.after.now c.in-Some.line.now is same c.loop-line.invariant.are;
      few = omega (arith, c.loop-line.invariant.few, ap length is);
    }

pub returns-clause-are : goal.returns-clause-are
returns-clause-are c =
    let none : c.loop-line.rest.now ≡ [] = nil_from_length c.loop-line.rest.now c.in_default.ensures.cases in
    alike_all c.args.attempt c.loop-line.count c.loop-line.rest.now c.args.lines.now none c.loop-line.invariant.are
