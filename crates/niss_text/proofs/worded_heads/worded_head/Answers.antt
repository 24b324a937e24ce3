use Rattle.std.proofs.Common.{ℕ, List, take}
use Rattle.niss_text.specs.Kept.{words_of_any_head}
use Rattle.niss_text.proofs.KeptLemmas.{any_head, only_begin, only_moves, only_then}
use Rattle.niss_text.proofs.worded_heads.worded_head.Goals as goal

pub returns-then-eq-clause-words : goal.returns-then-eq-clause-words
returns-then-eq-clause-words c =
    let w : List (List ℕ) = words_of_any_head in
    let begin : ℕ = c.margin-begin.result in
    only_then w c.args.line.now c.from_place-rest.result.now begin c.head_of-kind.result.1
    (only_moves w (take begin c.args.line.now) c.margin-begin.ensures.empty) c.from_place-rest.ensures (any_head (take c.head_of-kind.result.1 c.from_place-rest.result.now) c.head_of-kind.ensures.words)

pub returns-then-name-gt0-clause-words : goal.returns-then-name-gt0-clause-words
returns-then-name-gt0-clause-words c =
    let w : List (List ℕ) = words_of_any_head in
    let begin : ℕ = c.margin-begin.result in
    only_then w c.args.line.now c.from_place-rest.result.now begin c.named_length-name.result
    (only_moves w (take begin c.args.line.now) c.margin-begin.ensures.empty) c.from_place-rest.ensures c.named_length-name.ensures.words

pub returns-then-number-gt0-clause-words : goal.returns-then-number-gt0-clause-words
returns-then-number-gt0-clause-words c =
    let w : List (List ℕ) = words_of_any_head in
    let begin : ℕ = c.margin-begin.result in
    let rest : List ℕ = c.from_place-rest.result.now in
    only_then w c.args.line.now rest begin c.number_length-number.result
    (only_moves w (take begin c.args.line.now) c.margin-begin.ensures.empty) c.from_place-rest.ensures
    (only_begin w (take c.number_length-number.result rest) c.number_length-number.ensures.begin)
