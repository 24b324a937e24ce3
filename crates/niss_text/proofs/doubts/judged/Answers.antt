use Rattle.std.proofs.Common.{ℕ, Bool, inl, inr, if◌then◌else◌, sym, ap, ◌∙◌}
use Rattle.niss_text.proofs.SaidLemmas.{told_true}
use Rattle.niss_text.proofs.doubts.judged.Goals as goal

pub returns-clause-sided : goal.returns-clause-sided
returns-clause-sided c = λ unslashed. record {
  only = λ one.
      let on = c.is_inverse.ensures.only (told_true c.is_inverse.result (sym c.flag.ensures ∙ one)) unslashed in
      record { kind = on.kind; said = on.said; label = on.label; comment = on.comment; unbracketed = on.unbracketed };
  all = λ on.
      let yes = c.is_inverse.ensures.all (record {
        kind = on.kind;
        said = on.said;
        label = on.label;
        comment = on.comment;
        undenied = on.undenied;
        unbracketed = on.unbracketed;
      }) in
      let number : Bool → ℕ = λ b. if b then 1 else 0 in
      c.flag.ensures ∙ ap number yes;
  free = λ note number. c.doubt_of-doubt.ensures.free note (elim number [
    | inl side ↦ inl (sym c.number.ensures.value ∙ side)
    | inr repeated ↦ inr (sym c.number.ensures.value ∙ repeated)
  ]);
}
