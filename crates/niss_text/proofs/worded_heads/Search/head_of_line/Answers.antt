use Rattle.std.proofs.Common.{sym, ap, subst, ◌∙◌, arith}
use Rattle.niss_text.specs.Doubts.{is_capital}
use Rattle.niss_text.specs.Kept.{AreInNotation, ArePlainBefore}
use Rattle.niss_text.specs.Signs.{HasNoMoves}
use Rattle.niss_text.proofs.WordedLemmas.{begin_of_line, byte_of_line, rest_behind}
use Rattle.niss_text.proofs.worded_heads.Search.head_of_line.Goals as goal

pub returns-clause-plain : goal.returns-clause-plain
returns-clause-plain c = λ moves. c.in_ok-kind.ensures.plain (subst (λ v. AreInNotation v) (sym c.part_of-whole.ensures.is) moves)

pub returns-clause-commented : goal.returns-clause-commented
returns-clause-commented c = λ count moves.
    c.in_ok-kind.ensures.commented count (subst (λ v. ArePlainBefore v count) (sym c.part_of-whole.ensures.is) moves)

pub returns-clause-within : goal.returns-clause-within
returns-clause-within c = omega (arith, c.in_ok-head.ensures.some, c.in_ok-head.ensures.fits, c.part_of-whole.ensures.long)

pub returns-clause-words : goal.returns-clause-words
returns-clause-words c =
    begin_of_line c.args.self.now.text.now c.part_of-whole.result.now c.args.line.now.begin c.args.line.now.end c.in_ok-head.head.1 c.part_of-whole.ensures.is
    (returns-clause-within c) c.in_ok-head.ensures.words

pub returns-clause-rest : goal.returns-clause-rest
returns-clause-rest c =
    byte_of_line c.args.self.now.text.now c.part_of-whole.result.now c.args.line.now.begin c.args.line.now.end c.in_ok-head.head.1 c.part_of-whole.ensures.is
    (returns-clause-within c) (ap (λ b. is_capital b) (sym c.byte_at.ensures) ∙ sym c.is_capital.ensures ∙ c.if-is_capital.false)

pub returns-clause-blank : goal.returns-clause-blank
returns-clause-blank c = λ none.
    subst (λ v. HasNoMoves v)
    (rest_behind c.args.self.now.text.now c.part_of-whole.result.now c.args.line.now.begin c.args.line.now.end c.in_ok-head.head.1 c.part_of-whole.ensures.is
    (returns-clause-within c)) (c.in_ok-kind.ensures.blank none)
