use Rattle.std.proofs.Common.{◌≡◌, ◌∙◌, ◌++◌, [], Ok, ap, map}
use Rattle.niss_moves.specs.Reader.{read_line}
use Rattle.niss_attempts.specs.MovedStep.{with_blank}
use Rattle.niss_attempts.specs.Parts.{number_of_steps, read_byte, solves_line, steps_line}
use Rattle.niss_attempts.specs.declared.steps.reading.Reading.TheVariants.{AsWritten}
use Rattle.niss_attempts.proofs.doubts.moved_step.solves_exchanged.Goals as goal

pub returns : goal.returns
returns c =
    let steps = c.args.whole.now.steps.now in
    let bounds = c.args.whole.now.bounds.now in
    let places = c.args.exchange.now in
    let front_is : map (read_byte AsWritten) c.stretch.result.now ≡ steps_line steps bounds 0 places.first = ap (map (read_byte AsWritten)) c.stretch.ensures.is in
    let early_is : map (read_byte AsWritten) c.stretch-2.result.now ≡ steps_line steps bounds places.middle places.last = ap (map (read_byte AsWritten)) c.stretch-2.ensures.is in
    let late_is : map (read_byte AsWritten) c.stretch-3.result.now ≡ steps_line steps bounds places.first places.middle = ap (map (read_byte AsWritten)) c.stretch-3.ensures.is in
    let rest_is : map (read_byte AsWritten) c.stretch-rest.result.now ≡ steps_line steps bounds places.last (number_of_steps bounds) =
    ap (map (read_byte AsWritten)) c.stretch-rest.ensures.is in
    c.solves_so.ensures _
    (c.feed.ensures.bytes _ (c.feed_with_blank-3.ensures.bytes _ (c.feed_with_blank-2.ensures.bytes _ (c.feed_with_blank.ensures.bytes [] c.new-reader.ensures.bytes))))
    ∙ ap (λ line. solves_line (Ok c.args.whole.now.scramble.now) (read_line line)) (λ i. with_blank (front_is i) ++ with_blank (early_is i) ++ with_blank (late_is i) ++ rest_is i)
