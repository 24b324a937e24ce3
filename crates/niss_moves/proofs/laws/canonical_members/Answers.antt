use Rattle.niss_moves.proofs.CanonicalLists.{canonical_members}
use Rattle.niss_moves.proofs.laws.canonical_members.Goals as goal

pub returns-clause-members : goal.returns-clause-members
returns-clause-members c = canonical_members
