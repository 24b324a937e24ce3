use Rattle.std.proofs.Common.{take}
use Rattle.niss_attempts.specs.Corners.{Brings}
use Rattle.niss_attempts.proofs.steps.cube_corners.Corners.after.Given as goal

abbrev pub invariant-loop-token : goal.invariant-loop-token
invariant-loop-token l = Brings l.corners.to (take l.token-index l.tokens)
