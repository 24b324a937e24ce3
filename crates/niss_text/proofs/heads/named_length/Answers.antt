use Rattle.std.proofs.Common.{ℕ, List, take, arith}
use Rattle.niss_text.specs.Kept.{words_of_any_head}
use Rattle.niss_text.proofs.KeptLemmas.{any_head, name_word, only_then, title_head}
use Rattle.niss_text.proofs.heads.named_length.Goals as goal

pub returns-then-number-gt0-clause-words : goal.returns-then-number-gt0-clause-words
returns-then-number-gt0-clause-words c =
    let line : List ℕ = c.args.line.now in
    let word : ℕ = c.name_length-word.result in
    let rest : List ℕ = c.from_place.result.now in
    let number : ℕ = c.head_number_length-number.result in
    only_then words_of_any_head line rest word number
    (name_word (take word line) (c.name_length-word.ensures.word (omega (arith, c.if-word-gt0.true))))
    c.from_place.ensures (any_head (take number rest) (title_head (take number rest) c.head_number_length-number.ensures.words))
