use Rattle.std.proofs.Common.{◌∙◌, ℕ, List, Option, map, ap, subst}
use Rattle.std.specs.Prelude.{IfSome}
use Rattle.niss_attempts.specs.Corners.{IsAroundBorder, Reads}
use Rattle.niss_attempts.specs.Parts.{read_byte}
use Rattle.niss_attempts.specs.ShownTurn.{turn_bytes}
use Rattle.niss_attempts.specs.declared.steps.corners.Around.{Around}
use Rattle.niss_attempts.specs.declared.steps.reading.Reading.TheVariants.{AsWritten}
use Rattle.niss_attempts.proofs.LostLemmas.{turn_read, turn_rests}
use Rattle.niss_attempts.proofs.doubts.lost_turn.may_with_turn.Goals as goal

pub returns-in-Some-corners_of_step : goal.returns-in-Some-corners_of_step
returns-in-Some-corners_of_step c scramble steps bounds number is none =
    let it = subst (λ (o : Option Around). IfSome o (IsAroundBorder scramble steps bounds number)) c.in-Some.is is in
    c.may_insert.ensures scramble steps bounds number (turn_bytes c.args.turn) it.1 it.0
    (subst (λ (bytes : List ℕ). Reads bytes c.in-Some-corners_of_step.own) (ap (map (read_byte AsWritten)) c.turn_bytes.ensures ∙ turn_read c.args.turn)
    c.in-Some-corners_of_step.ensures)
    (turn_rests c.args.turn) none
