use Rattle.niss_attempts.proofs.NearLemmas.{near_end, near_step}
use Rattle.niss_attempts.proofs.doubts.beside.near.are_near.Goals as goal

pub loop-after-preserved : goal.loop-after-preserved
loop-after-preserved c =
    near_step c.args.one.now c.args.other.now c.loop-after.rest.now c.loop-after.other_rest.now c.in-Some.after.now c.in-Some.other_after.now c.in-Some.ensures c.loop-after.invariant

pub returns : goal.returns
returns c =
    near_end c.are_near_at_begin.result c.args.one.now c.args.other.now c.loop-after.rest.now c.loop-after.other_rest.now c.in_default.ensures c.loop-after.invariant c.are_near_at_begin.ensures
