use Rattle.std.proofs.Common.{◌≡◌, ◌∙◌, ℕ, List, [], map, Ok, sym, ap}
use Rattle.niss_moves.specs.Line.{Moves}
use Rattle.niss_moves.specs.Reader.{read_line}
use Rattle.niss_attempts.specs.Parts.{read_byte}
use Rattle.niss_attempts.proofs.CornerLines.{step_reads}
use Rattle.niss_attempts.proofs.steps.corners.corners_of_step.Goals as goal

pub returns-in-Ok : goal.returns-in-Ok
returns-in-Ok c =
    let line : List ℕ = map (read_byte c.args.reading) c.args.step.now in
    let m : Moves = c.moves.result.now in
    let is : read_line line ≡ Ok m = sym (c.in-Ok.ensures.line line (c.feed.ensures.bytes [] c.new-reader.ensures.bytes)) ∙ ap Ok (sym c.moves.ensures) in
    step_reads c.args.reading c.args.step.now c.of.result m c.line_is_read.ensures.spelled is c.of.ensures.normal c.of.ensures.undone c.of.ensures.inverse
    (c.of.ensures.plain ∙ c.is_plain.ensures) c.of.ensures.lives

pub returns-in-Err : goal.returns-in-Err
returns-in-Err c = c.dead.ensures (map (read_byte c.args.reading) c.args.step.now) (c.stands_nowhere.ensures c.if-stands_nowhere.true)
