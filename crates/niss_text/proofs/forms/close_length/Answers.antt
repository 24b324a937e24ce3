use Rattle.std.proofs.Common.{inl, inr, refl}
use Rattle.niss_text.proofs.KeptLemmas.{mark_spells}
use Rattle.niss_text.proofs.forms.close_length.Goals as goal

pub returns-then-round-gt0-clause-letters : goal.returns-then-round-gt0-clause-letters
returns-then-round-gt0-clause-letters c = mark_spells c.args.text.now c.mark_length-round.result 41 c.mark_length-round.ensures.is (inr (inl refl))

pub returns-else-round-gt0-clause-letters : goal.returns-else-round-gt0-clause-letters
returns-else-round-gt0-clause-letters c = mark_spells c.args.text.now c.mark_length.result 93 c.mark_length.ensures.is (inr (inr (inr refl)))
