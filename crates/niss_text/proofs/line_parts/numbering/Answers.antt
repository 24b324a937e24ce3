use Rattle.std.proofs.Common.{ℕ, List, ◌≡◌, ◌+◌, take, subst, arith}
use Rattle.niss_text.specs.Kept.{BeginNoMoves, begins_moves}
use Rattle.niss_text.proofs.KeptLemmas.{none_more, moves_begin}
use Rattle.niss_text.proofs.line_parts.numbering.Goals as goal

pub returns-clause-begin : goal.returns-clause-begin
returns-clause-begin c =
    let line : List ℕ = c.args.line.now in
    let numbered : List ℕ = c.from_place-numbered.result.now in
    let begin : ℕ = c.margin-begin.result in
    let number : ℕ = c.number_length-number.result in
    let blanks : ℕ = c.blanks.result in
    let after : List ℕ = c.from_place.result.now in
    let there : begin + (number + blanks) ≡ begin + number + blanks = omega arith in
    subst (λ n. BeginNoMoves (take n line)) there
    (none_more begins_moves line numbered begin (number + blanks) (moves_begin (take begin line) c.margin-begin.ensures.empty) c.from_place-numbered.ensures
    (none_more begins_moves numbered after number blanks c.number_length-number.ensures.begin c.from_place.ensures
    (moves_begin (take blanks after) c.blanks.ensures.empty)))
