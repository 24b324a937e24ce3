use Rattle.std.proofs.Common.{ℕ, List, inl, refl, take, map, ap, arith}
use Rattle.niss_text.specs.Kept.{words_of_head, small}
use Rattle.niss_text.proofs.KeptLemmas.{mark_spells, only_none, only_nth}
use Rattle.niss_text.proofs.heads.list_mark_length.Goals as goal

pub returns-else-bracket-eq0-clause-words : goal.returns-else-bracket-eq0-clause-words
returns-else-bracket-eq0-clause-words c =
    let text : List ℕ = c.args.line.now in
    let n : ℕ = c.mark_length-bracket.result in
    only_none words_of_head (take n text) (mark_spells text n 40 c.mark_length-bracket.ensures.is (inl refl))

pub returns-then-eq-clause-words : goal.returns-then-eq-clause-words
returns-then-eq-clause-words c =
    only_nth words_of_head c.args.line.now c.mark_length.result 4 (omega arith) (λ some. ap (λ v. map small v) (c.mark_length.ensures.is some))
