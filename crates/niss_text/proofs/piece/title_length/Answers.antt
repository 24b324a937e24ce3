use Rattle.std.proofs.Common.{inr}
use Rattle.niss_text.proofs.piece.title_length.Goals as goal

pub returns-clause-is : goal.returns-clause-is
returns-clause-is c = λ some. inr c.head_length.ensures.words
