use Rattle.std.proofs.Common.{◌∙◌}
use Rattle.niss_attempts.specs.Parts.{read_byte}
use Rattle.niss_attempts.proofs.BracketLemmas.{depth_more}
use Rattle.niss_attempts.proofs.steps.dead.Depth.after.Goals as goal

pub loop-byte-preserved : goal.loop-byte-preserved
loop-byte-preserved c =
    c.after_byte-depth.ensures ∙ depth_more c.args.self c.loop-byte.depth (read_byte c.args.reading) c.args.steps.now c.loop-byte.byte-index _ c.read.result
    c.loop-byte-test.true c.read.ensures c.loop-byte.invariant
