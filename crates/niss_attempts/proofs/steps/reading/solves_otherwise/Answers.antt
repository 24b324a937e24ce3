use Rattle.std.proofs.Common.{◌∙◌, sym}
use Rattle.niss_attempts.proofs.ReadingLemmas.{not_otherwise}
use Rattle.niss_attempts.proofs.steps.reading.solves_otherwise.Goals as goal

pub returns-else-changes : goal.returns-else-changes
returns-else-changes c =
    c.if-changes.false ∙ sym (not_otherwise c.line_is_read.ensures.spelled c.one_reading.ensures c.args.whole.now.scramble.now c.args.whole.now.steps.now c.args.whole.now.bounds.now c.stretch-all.result.now
    c.args.reading c.requires.whole.are_bounds c.requires.not c.stretch-all.ensures.is (sym c.changes.ensures ∙ c.if-changes.false))
