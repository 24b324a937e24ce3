use Rattle.std.proofs.Common.{refl}
use Rattle.niss_text.proofs.words.names_step.Goals as goal
unfoldable use Rattle.niss_text.specs.Said.{before_words, listed}

pub returns-clause-said : goal.returns-clause-said
unfolding listed before_words
returns-clause-said c = λ is. c.fits_one_of.ensures.whole refl is

pub returns-clause-all : goal.returns-clause-all
unfolding listed before_words
returns-clause-all c = λ some is. c.fits_one_of.ensures.all refl some is
