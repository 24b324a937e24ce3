use Rattle.std.proofs.Common.{◌∙◌, None, refl, sym}
use Rattle.niss_attempts.proofs.BesideLemmas.{of_none}
use Rattle.niss_attempts.proofs.doubts.beside.doubt_beside.Goals as goal

pub returns-else-has_long_other-clause-is : goal.returns-else-has_long_other-clause-is
returns-else-has_long_other-clause-is c =
    of_none c.args.text.now c.args.lines.now c.args.scramble.now None (sym c.if-has_long_other.false ∙ c.has_long_other.ensures) refl
