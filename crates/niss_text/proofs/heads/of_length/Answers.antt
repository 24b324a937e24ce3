use Rattle.std.proofs.Common.{ℕ, List, inl, inr, refl, take, arith}
use Rattle.niss_text.specs.Kept.{words_of_title}
use Rattle.niss_text.proofs.KeptLemmas.{mark_spells, only_none, only_nth}
use Rattle.niss_text.proofs.heads.of_length.Goals as goal

pub returns-then-slash-gt0-clause-words : goal.returns-then-slash-gt0-clause-words
returns-then-slash-gt0-clause-words c =
    let text : List ℕ = c.args.text.now in
    let n : ℕ = c.mark_length-slash.result in
    only_none words_of_title (take n text) (mark_spells text n 47 c.mark_length-slash.ensures.is (inr (inr (inl refl))))

pub returns-else-slash-gt0-clause-words : goal.returns-else-slash-gt0-clause-words
returns-else-slash-gt0-clause-words c = only_nth words_of_title c.args.text.now c.word_length.result 3 (omega arith) c.word_length.ensures.word
