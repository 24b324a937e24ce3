use Rattle.std.proofs.Common.{◌+◌, ◌<◌, ℕ, length, arith}
use Rattle.niss_attempts.proofs.MovedLemmas.{step_more}
use Rattle.niss_attempts.proofs.TailLemmas.{plain_tail}
use Rattle.niss_attempts.proofs.steps.corners.Around.longer.Goals as goal

pub returns : goal.returns
returns c scramble text bounds first is =
    let step : ℕ = c.args.step in
    let attempt = c.args.self.now.attempt.now in
    let within : step + 1 < length bounds = omega (arith, c.requires, is.attempt.number) in
    record {
      attempt = is.attempt;
      ordered = (omega (arith, is.ordered.0), within);
      are = λ known.
          let steps = is.attempt.are_steps known in
          let own = is.are known in
          record {
            reads_before = own.reads_before;
            reads_own =
                step_more text bounds attempt.steps.items c.deref.result.now first step c.args.self.now.own c.then.result _ c.deref.ensures.0 steps
                (is.attempt.are_parted known) is.ordered.0 within c.then.ensures own.reads_own;
            ends = plain_tail text bounds attempt.tails (step + 1) _ steps.are_bounds.ascend (is.attempt.are_tails known) within;
          };
    }
