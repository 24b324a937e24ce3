use Rattle.std.proofs.Common.{◌∙◌, ◌+◌, ℕ, ap, drop, sym}
use Rattle.std.specs.Prelude.{slice_get}
use Rattle.std.proofs.lemmas.List.{drop-drop}
use Rattle.niss_attempts.specs.ShownTurn.{steps_among}
use Rattle.niss_attempts.proofs.ShownLemmas.{above_next, first_dropped}
use Rattle.niss_attempts.proofs.doubts.shown_turn.Border.next.Goals as goal

pub returns : goal.returns
returns c text lines number is = record {
  text_is = is.text_is;
  number_is = ap (λ (n : ℕ). n + 1) is.number_is;
  above_is = is.below_is ∙ sym (above_next lines number);
  below_is = c.first_step-below.ensures.first ∙ ap (λ xs. slice_get xs 0) is.rest_is ∙ first_dropped (steps_among lines) (number + 1);
  one_is = is.one_is;
  rest_is = c.first_step-below.ensures.after ∙ ap (drop 1) is.rest_is ∙ drop-drop 1 (number + 1) (steps_among lines);
}
