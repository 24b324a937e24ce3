use Rattle.std.proofs.Common.{take}
use Rattle.niss_moves.specs.Effects.{inverse}
use Rattle.niss_attempts.specs.Corners.{Brings}
use Rattle.niss_attempts.proofs.steps.cube_corners.Corners.after_inverse.Given as goal

abbrev pub invariant-loop-token : goal.invariant-loop-token
invariant-loop-token l = Brings l.corners.to (inverse (take l.token-index l.tokens))
