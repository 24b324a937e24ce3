use Rattle.niss_text.proofs.KeptLemmas.{sign_begins}
use Rattle.niss_text.proofs.heads.end_length.Goals as goal

pub returns-then-dash-gt0-clause-begin : goal.returns-then-dash-gt0-clause-begin
returns-then-dash-gt0-clause-begin c = sign_begins c.args.text.now c.sign_length-dash.result (λ some. (c.sign_length-dash.ensures.is some).1)
