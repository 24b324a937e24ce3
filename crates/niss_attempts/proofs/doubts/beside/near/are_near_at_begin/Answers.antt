use Rattle.niss_attempts.proofs.NearLemmas.{begin_end, begin_step}
use Rattle.niss_attempts.proofs.doubts.beside.near.are_near_at_begin.Goals as goal

pub loop-front-preserved : goal.loop-front-preserved
loop-front-preserved c =
    begin_step c.args.one.now c.args.other.now c.loop-front.rest.now c.loop-front.other_rest.now c.in-Some.front.now c.in-Some.other_front.now c.in-Some.ensures c.loop-front.invariant

pub returns : goal.returns
returns c =
    begin_end c.are_few.result c.args.one.now c.args.other.now c.loop-front.rest.now c.loop-front.other_rest.now c.in_default.ensures c.loop-front.invariant c.are_few.ensures
