use Rattle.std.proofs.Common.{◌∙◌, ap, sym}
use Rattle.niss_attempts.specs.ShownTurn.{is_face_letter}
use Rattle.niss_attempts.proofs.ShownLemmas.{none_apart, none_lettered}
use Rattle.niss_attempts.proofs.doubts.turn_words.may_begin.Goals as goal

pub returns-then-is_face_letter : goal.returns-then-is_face_letter
returns-then-is_face_letter c none = none_apart c.args.text.now c.args.at (sym c.is_apart.ensures ∙ none)

pub returns-else-is_face_letter : goal.returns-else-is_face_letter
returns-else-is_face_letter c none =
    none_lettered c.args.text.now c.args.at (ap is_face_letter (sym c.byte_at.ensures) ∙ sym c.is_face_letter.ensures ∙ none)
