use Rattle.std.proofs.Common.{◌≡◌, length, take, refl, ap, arith}
use Rattle.niss_attempts.specs.Attempts.{IsOfAttempt, attempts_from}
use Rattle.niss_attempts.proofs.AttemptRuns.{one_check, no_check, after_check}
use Rattle.niss_attempts.proofs.attempts.checks.Attempts.check_runs.Goals as goal

pub loop-run-preserved : goal.loop-run-preserved
loop-run-preserved c =
    let it = c.args.self.now in
    let found = c.in-Some.ensures in
    let same : length c.put_check.new.checks ≡ length c.loop-run.checks = c.put_check.auto.checks in
    let inv = c.loop-run.invariant in
    record {
      are = λ room. one_check (IsOfAttempt it.text.now it.lines.now) (attempts_from 0 it.lines.now) (attempts_from c.loop-run.at it.lines.now)
          (attempts_from c.in-Some.run'.end it.lines.now) c.in-Some.run' c.loop-run.checks c.put_check.new.checks c.loop-run.count _ found.3
          (omega (arith, room, same)) c.put_check.ensures (record { scramble = refl; name = (refl, refl); of_run = (refl, c.in_ok-judged.ensures.is) })
          (inv.are (omega (arith, room, same)));
      few = omega (arith, inv.few, found.0, found.1);
      counted = omega (arith, inv.counted, ap length found.3);
      within = found.2;
      after = after_check c.loop-run.checks c.put_check.new.checks c.args.checks.now c.loop-run.count _ c.put_check.ensures inv.after;
    }

pub returns-clause-are : goal.returns-clause-are
returns-clause-are c = λ room.
    let it = c.args.self.now in
    no_check (IsOfAttempt it.text.now it.lines.now) (attempts_from 0 it.lines.now) (attempts_from c.loop-run.at it.lines.now)
    (take c.loop-run.count c.loop-run.checks) c.in_default.ensures (c.loop-run.invariant.are room)

pub returns-clause-all : goal.returns-clause-all
returns-clause-all c = omega (arith, c.loop-run.invariant.counted, ap length c.in_default.ensures)
