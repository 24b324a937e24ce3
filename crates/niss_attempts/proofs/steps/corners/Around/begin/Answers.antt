use Rattle.std.proofs.Common.{ℕ, List, sym, subst, arith}
use Rattle.niss_attempts.specs.Corners.{Reads}
use Rattle.niss_attempts.proofs.TailLemmas.{steps_none, plain_tail}
use Rattle.niss_attempts.proofs.steps.corners.Around.begin.Goals as goal

pub returns : goal.returns
returns c scramble text bounds is = record {
  attempt = is;
  ordered = (omega arith, omega (arith, is.number));
  are = λ known. record {
    reads_before = subst (λ (bytes : List ℕ). Reads bytes c.nothing.result) (sym (steps_none text bounds 0)) c.nothing.ensures;
    reads_own = subst (λ (bytes : List ℕ). Reads bytes c.nothing-2.result) (sym (steps_none text bounds 0)) c.nothing-2.ensures;
    ends = plain_tail text bounds c.args.attempt.now.tails 0 _ (is.are_steps known).are_bounds.ascend (is.are_tails known) (omega (arith, is.number));
  };
}
