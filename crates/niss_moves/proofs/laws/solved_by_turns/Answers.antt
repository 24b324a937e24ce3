use Rattle.niss_moves.proofs.Solving.{solved_by_turns}
use Rattle.niss_moves.proofs.laws.solved_by_turns.Goals as goal

pub returns : goal.returns
returns c = solved_by_turns
