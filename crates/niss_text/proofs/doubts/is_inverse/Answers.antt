use Rattle.std.proofs.Common.{◌≡◌, ◌==◌, inl, inr, not, false, refl, sym, ap, ◌∙◌}
use Rattle.std.proofs.lemmas.Bool.{false≢true, false_from_ne_true, not-true}
use Rattle.niss_text.proofs.SaidLemmas.{step_of_test}
use Rattle.niss_text.proofs.doubts.is_inverse.Goals.{then-not-is_a-via-then-not-is_a, then-not-is_a-via-else-not-is_a+then-has_bracket}
use Rattle.niss_text.proofs.doubts.is_inverse.Goals as goal

pub returns-then-is_said-clause-only : goal.returns-then-is_said-clause-only
returns-then-is_said-clause-only c = λ is unslashed.
    let other = c.is_said-then-is_said in
    let none : other.result ≡ false = not-true other.result is in
    record {
      kind = step_of_test c.args.told.now.kind (sym c.is_a.ensures ∙ c.if-not-is_a.false);
      said = c.is_said.ensures.said c.if-is_said.true;
      label = λ affirms has. false≢true (sym none ∙ other.ensures.label refl affirms has);
      comment = λ affirms has. false≢true (sym none ∙ other.ensures.comment refl affirms has);
      unbracketed = c.has_bracket.ensures.none c.if-has_bracket.false unslashed;
    }

pub returns-then-is_said-clause-all : goal.returns-then-is_said-clause-all
returns-then-is_said-clause-all c = λ plain.
    let other = c.is_said-then-is_said in
    ap not (false_from_ne_true other.result (λ yes. elim (other.ensures.said yes) [ inl has ↦ plain.label has.word | inr has ↦ plain.comment has.word ]))

pub returns-else-is_said-clause-all : goal.returns-else-is_said-clause-all
returns-else-is_said-clause-all c = λ plain.
    elim plain.said [
      | inl has ↦ c.is_said.ensures.label refl plain.undenied.0 has
      | inr has ↦ c.is_said.ensures.comment refl plain.undenied.1 has
    ]

pub returns-then-not-is_a-clause-all : goal.returns-then-not-is_a-clause-all
returns-then-not-is_a-clause-all c = λ plain.
    elim c.then-not-is_a.branch [
      | then-not-is_a-via-then-not-is_a w ↦ sym w.if-not-is_a.true ∙ c.is_a.ensures ∙ ap (λ k. k == 3) plain.kind
      | then-not-is_a-via-else-not-is_a+then-has_bracket w ↦ sym (w.has_bracket.ensures.some plain.unbracketed) ∙ w.if-has_bracket.true
    ]
