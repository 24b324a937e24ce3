use Rattle.std.proofs.Common.{take, refl, sym, subst, ◌∙◌}
use Rattle.std.proofs.lemmas.Bool.{false≢true, not-true}
use Rattle.niss_text.specs.Signs.{is_letter}
use Rattle.niss_text.specs.Said.{HasWord, words_of_step}
use Rattle.niss_text.proofs.words.says_solution.Goals as goal

pub returns-then-at-title : goal.returns-then-at-title
returns-then-at-title c = λ yes.
    let said = c.place_said-at.ensures.said c.if-at-title.true in
    record {
      said = said.0;
      of_none = λ step. false≢true (sym (not-true c.says.result yes) ∙ c.says.ensures.all refl
          (subst (λ n. HasWord is_letter words_of_step (take n c.args.title.now)) said.1 step));
    }
