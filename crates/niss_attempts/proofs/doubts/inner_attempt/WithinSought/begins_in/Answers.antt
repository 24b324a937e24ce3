use Rattle.std.proofs.Common.{Bool, IfOk, List, ◌≤◌, length, slice_range, subst, arith}
use Rattle.niss_text.specs.Moves.{most_bytes}
use Rattle.niss_text.specs.declared.text_line.TextLine.{TextLine}
use Rattle.niss_attempts.specs.InnerAttempt.{IsBegunIn}
use Rattle.niss_attempts.proofs.AttemptLemmas.{most_between}
use Rattle.niss_attempts.proofs.AttemptRuns.{lines_from}
use Rattle.niss_attempts.proofs.doubts.inner_attempt.WithinSought.begins_in.Goals as goal

pub returns-clause-is : goal.returns-clause-is
returns-clause-is c =
    subst (λ (lines : List TextLine). IfOk c.is_begun_in.result (λ (solves : Bool). IsBegunIn c.args.self.now.text.now lines solves))
    (lines_from c.args.lines.now c.args.at) c.is_begun_in.ensures.is

pub returns-clause-room : goal.returns-clause-room
returns-clause-room c = λ one two.
    let lines = c.args.lines.now in
    let few : most_bytes (slice_range lines c.args.at (length lines)) ≤ most_bytes lines = most_between lines c.args.at (length lines) in
    c.is_begun_in.ensures.room (omega (arith, few, one)) (omega (arith, few, two))
