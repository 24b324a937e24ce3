use Rattle.std.proofs.Common.{◌≡◌, List, ◌∷◌, length, subst, rules}
use Rattle.niss_text.specs.declared.text_line.TextLine.{TextLine}
use Rattle.niss_text.specs.Kept.{words_of_any_head}
use Rattle.niss_text.specs.Lines.{CoversBy}
use Rattle.niss_text.proofs.PartLemmas.{first_place, last_place}
use Rattle.niss_text.proofs.parts.place_of.Goals as goal

pub returns-in-Some : goal.returns-in-Some
returns-in-Some c = λ text at far.
    let first : c.args.lines.now ≡ c.in-Some.line.now ∷ c.in-Some.field-0-1.now = search rules in
    first_place text at c.in-Some.line.now c.in-Some.field-0-1.now c.args.end
    (subst (λ (ls : List TextLine). CoversBy words_of_any_head text at ls c.args.end) first far)

pub returns-in-None : goal.returns-in-None
returns-in-None c = λ text at far.
    let none : length c.args.lines.now ≡ 0 = search rules in
    last_place text at c.args.lines.now c.args.end none far
