use Rattle.niss_moves.proofs.Cleaned.{rewriting_lowers}
use Rattle.niss_moves.proofs.laws.cleaning_ends.Goals as goal

pub returns-clause-lowers : goal.returns-clause-lowers
returns-clause-lowers c = rewriting_lowers
