use Rattle.niss_attempts.specs.Parts.{IsAnswerTo}
use Rattle.niss_attempts.proofs.ReadAttemptLemmas.{as_written, tells_answer}
use Rattle.niss_attempts.proofs.steps.parts.solving_part.Goals as goal

pub returns-in-Ok : goal.returns-in-Ok
returns-in-Ok c =
    let scramble = c.args.scramble.now in
    let steps = c.args.steps.now in
    let whole = c.whole.result in
    let read = c.whole.ensures scramble steps c.in-Ok.ensures.read in
    tells_answer scramble steps c.answer_to.result read.fits
    (as_written (λ r s b. IsAnswerTo r s b c.answer_to.result) scramble steps whole.scramble.now whole.steps.now whole.bounds.now whole.corners.now read c.answer_to.ensures)
