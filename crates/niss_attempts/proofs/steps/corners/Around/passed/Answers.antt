use Rattle.std.proofs.Common.{ℕ, List, sym, subst, arith}
use Rattle.std.specs.Prelude.{slice_index}
use Rattle.niss_attempts.specs.Corners.{Reads}
use Rattle.niss_attempts.specs.Parts.{steps_line}
use Rattle.niss_attempts.proofs.CornerLines.{joined_steps, ascends_between}
use Rattle.niss_attempts.proofs.TailLemmas.{steps_none, steps_stay_dead}
use Rattle.niss_attempts.proofs.steps.corners.Around.passed.Goals as goal

pub returns : goal.returns
returns c scramble text bounds first end is = record {
  attempt = is.attempt;
  ordered = (omega arith, is.ordered.1);
  are = λ known.
      let own = is.are known in
      let up = (is.attempt.are_steps known).are_bounds.ascend in
      record {
        reads_before = subst (λ (bytes : List ℕ). Reads bytes c.then.result)
            (joined_steps text (slice_index bounds 0) (slice_index bounds first) (slice_index bounds end)
            (ascends_between bounds 0 first up (omega arith) (omega (arith, is.ordered.0, is.ordered.1))) (ascends_between bounds first end up is.ordered.0 is.ordered.1))
            (c.then.ensures (steps_line text bounds 0 first) (steps_line text bounds first end) own.reads_before own.reads_own
            (steps_stay_dead text bounds 0 first end (is.attempt.are_parted known) up (omega arith) is.ordered.0 is.ordered.1));
        reads_own = subst (λ (bytes : List ℕ). Reads bytes c.nothing.result) (sym (steps_none text bounds end)) c.nothing.ensures;
        ends = own.ends;
      };
}
