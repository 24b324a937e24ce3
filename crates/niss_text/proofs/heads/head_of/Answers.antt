use Rattle.std.proofs.Common.{ℕ, List, ◌≡◌, ◌+◌, take, subst, arith}
use Rattle.niss_text.specs.Kept.{HasOnlyWords, words_of_head}
use Rattle.niss_text.proofs.KeptLemmas.{only_begin, only_moves, only_then, title_head}
use Rattle.niss_text.proofs.heads.head_of.Goals as goal

pub returns-then-word-gt0-clause-words : goal.returns-then-word-gt0-clause-words
returns-then-word-gt0-clause-words c =
    let line : List ℕ = c.args.line.now in
    let numbered : List ℕ = c.from_place-numbered.result.now in
    let number : ℕ = c.number_length-number.result in
    let blank : ℕ = c.blanks-blank.result in
    let word : ℕ = c.head_length-word.result in
    let w : List (List ℕ) = words_of_head in
    let there : number + (blank + word) ≡ number + blank + word = omega arith in
    subst (λ n. HasOnlyWords w (take n line)) there
    (only_then w line numbered number (blank + word) (only_begin w (take number line) c.number_length-number.ensures.begin) c.from_place-numbered.ensures
    (only_then w numbered c.from_place.result.now blank word (only_moves w (take blank numbered) c.blanks-blank.ensures.empty) c.from_place.ensures
    (title_head (take word c.from_place.result.now) c.head_length-word.ensures.words)))

pub returns-then-number-gt0-clause-words : goal.returns-then-number-gt0-clause-words
returns-then-number-gt0-clause-words c =
    only_begin words_of_head (take c.number_length-number.result c.args.line.now) c.number_length-number.ensures.begin
