use Rattle.std.proofs.Common.{refl, sym, ◌∙◌}
use Rattle.std.proofs.lemmas.Bool.{false≢true, not-true}
use Rattle.niss_text.specs.Said.{words_of}
use Rattle.niss_text.proofs.NamedLemmas.{named}
use Rattle.niss_text.proofs.said.names.Goals as goal

pub returns-then-not-says-clause-said : goal.returns-then-not-says-clause-said
returns-then-not-says-clause-said c = λ yes.
    named (words_of c.args.wanted) c.args.text.now (λ has. false≢true (sym (not-true c.says-then-says.result yes) ∙ c.says-then-says.ensures.all refl has))
    (c.says.ensures.said c.if-says.true)
