use Rattle.std.proofs.Common.{◌≡◌, ◌∷◌, [], length, take, ap, arith, rules}
use Rattle.std.proofs.lemmas.List.{nil_from_length}
use Rattle.niss_attempts.specs.Attempts.{IsOfSolutions}
use Rattle.niss_attempts.proofs.AttemptRuns.{one_check, no_check, after_check}
use Rattle.niss_attempts.proofs.attempts.checks.Attempts.check_parts.Goals as goal

pub loop-part-preserved : goal.loop-part-preserved
loop-part-preserved c =
    let it = c.args.self.now in
    let is : c.loop-part.rest.now ≡ c.in-Some.part.now ∷ c.in-Some.after.now = search rules in
    let same : length c.put_check.new.checks ≡ length c.loop-part.checks = c.put_check.auto.checks in
    record {
      are = λ room. one_check (IsOfSolutions it.text.now it.lines.now it.known.scrambles.now it.known.ends.now) it.parts.now c.loop-part.rest.now c.in-Some.after.now
          c.in-Some.part.now c.loop-part.checks c.put_check.new.checks c.loop-part.count c.in_ok-check.check is (omega (arith, room, same)) c.put_check.ensures
          c.in_ok-check.ensures.is (c.loop-part.invariant.are (omega (arith, room, same)));
      counted = omega (arith, c.loop-part.invariant.counted, ap length is);
      after = after_check c.loop-part.checks c.put_check.new.checks c.args.checks.now c.loop-part.count c.in_ok-check.check c.put_check.ensures c.loop-part.invariant.after;
    }

pub returns-clause-are : goal.returns-clause-are
returns-clause-are c = λ room.
    let it = c.args.self.now in
    let none : c.loop-part.rest.now ≡ [] = nil_from_length c.loop-part.rest.now c.in_default.ensures.cases in
    no_check (IsOfSolutions it.text.now it.lines.now it.known.scrambles.now it.known.ends.now) it.parts.now c.loop-part.rest.now (take c.loop-part.count c.loop-part.checks) none
    (c.loop-part.invariant.are room)
