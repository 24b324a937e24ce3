use Rattle.niss_cube.proofs.Words.{◌∙◌, map_of}
use Rattle.niss_cube.proofs.IdleTurns.{idle-is}
use Rattle.niss_cube.proofs.step.Step.is_idle.Goals as goal

pub returns : goal.returns
returns c = c.holds_all.ensures ∙ idle-is c.args.self c.args.turn (map_of c.solved-cube.result) (map_of c.turn.new.self) c.solved-cube.ensures c.turn.ensures
