use Rattle.std.proofs.Common.{ℕ, List, take, slice_range, sym, subst, ◌∙◌, arith}
use Rattle.niss_text.specs.Kept.{BeginNoMoves, IsTitleEnd}
use Rattle.niss_text.proofs.KeptLemmas.{part_of_rest, moves_begin, title_none}
use Rattle.niss_text.proofs.LayerLemmas.{none_at_end}
use Rattle.niss_text.proofs.line.headed_line.Goals as goal

pub returns-then-is_empty-clause-margin : goal.returns-then-is_empty-clause-margin
returns-then-is_empty-clause-margin c =
    let line : List ℕ = c.args.line.now in
    let rest : List ℕ = c.from_place-rest.result.now in
    let blank : ℕ = c.blanks-blank.result in
    subst (λ n. BeginNoMoves (slice_range line c.args.head n)) (sym c.bare.ensures.label.0)
    (subst (λ v. BeginNoMoves v) (part_of_rest line rest c.args.head blank c.from_place-rest.ensures) (moves_begin (take blank rest) c.blanks-blank.ensures.empty))

pub returns-then-is_empty-clause-title : goal.returns-then-is_empty-clause-title
returns-then-is_empty-clause-title c =
    let line : List ℕ = c.args.line.now in
    let moves : ℕ = c.bare.result.moves in
    let label = c.bare.ensures.label in
    subst (λ n. IsTitleEnd (slice_range line n moves)) (sym (label.1.0 ∙ sym label.1.1)) (title_none line moves)

pub returns-then-is_empty-clause-comment : goal.returns-then-is_empty-clause-comment
returns-then-is_empty-clause-comment c = none_at_end c.args.line.now c.bare.result.comment (omega (arith, c.bare.ensures.comment))
