use Rattle.niss_shell.proofs.Names.{◌≡◌, ◌∙◌, ap, sym, subst, IsInput, output_state}
use Rattle.niss_shell.proofs.RunLemmas.{runs_source, runs_text}
use Rattle.niss_shell.proofs.input.Prepared.answer.Goals as goal

pub returns-in-None : goal.returns-in-None
returns-in-None g c = λ words input.
    let back : c.looks-1.given.0 ≡ c.read.new.self.looks.now = c.looks-1.given.1 (sym (c.read.ensures.keeps.looks ∙ c.new-lines.ensures.same_meter)) in
    runs_source g.R.Source.call g.W.Target.call c.new-lines.ensures.command (ap (output_state c.args.output.now) c.new-lines.ensures.looks)
    (ap (output_state c.read.new.output) (sym back))
    (subst (λ t. IsInput (λ v. v.items) t words) c.in-None.is input) c.read.ensures.answers c.read.ensures.empty

pub returns-in-Some : goal.returns-in-Some
returns-in-Some g c = λ words input.
    let back : c.looks-in-Some-1.given.0 ≡ c.take_text.new.self.looks.now = c.looks-in-Some-1.given.1 (sym (c.take_text.ensures.keeps.looks ∙ c.new-lines.ensures.same_meter)) in
    let joins = subst (λ t. IsInput (λ v. v.items) t words) c.in-Some.is input in
    runs_text g.R.Source.call g.W.Target.call _ c.new-lines.ensures.command (ap (output_state c.args.output.now) c.new-lines.ensures.looks)
    (ap (output_state c.take_text.new.output) (sym back))
    joins.0 (c.as_slice.ensures.value ∙ joins.1) joins.2 c.take_text.ensures.answers c.take_text.ensures.empty
