use Rattle.std.proofs.Common.{take, slice_range, sym, subst, ◌∙◌}
use Rattle.std.proofs.lemmas.List.{length-take-le}
use Rattle.niss_text.specs.Said.{SaysSolution}
use Rattle.niss_text.proofs.line.cut_line.Goals as goal

pub returns-then-length-text-clause-said : goal.returns-then-length-text-clause-said
returns-then-length-text-clause-said c = λ yes.
    let line = c.line_of-line in
    subst (λ n. SaysSolution (slice_range (take n c.args.text.now) line.result.label_begin line.result.label_end))
    (sym (line.ensures.length ∙ length-take-le c.line_length-length.result c.args.text.now c.line_length-length.ensures.fits)) (line.ensures.said yes)

pub returns-clause-said : goal.returns-clause-said
returns-clause-said c = λ yes.
    let line = c.line_of-line in
    subst (λ n. SaysSolution (slice_range (take n c.args.text.now) line.result.label_begin line.result.label_end))
    (sym (line.ensures.length ∙ length-take-le c.line_length-length.result c.args.text.now c.line_length-length.ensures.fits)) (line.ensures.said yes)
