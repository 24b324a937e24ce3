use Rattle.std.proofs.Common.{ℕ, List, ◌≡◌, ◌+◌, ◌-◌, length, take, ap, subst, refl, length-drop, arith}
use Rattle.niss_text.specs.Kept.{HasOnlyWords, words_of_title}
use Rattle.niss_text.proofs.KeptLemmas.{only_begin, only_moves, only_then, title_word, sign_begins}
use Rattle.niss_text.proofs.TitleLemmas.{title_colon, title_some, title_within}
use Rattle.niss_text.proofs.heads.head_length.Goals as goal

pub returns-then-colon-gt0-clause-words : goal.returns-then-colon-gt0-clause-words
returns-then-colon-gt0-clause-words c =
    let line : List ℕ = c.args.line.now in
    let after : List ℕ = c.from_place-rest.result.now in
    let number : List ℕ = c.trimmed-after.result.now in
    let word : ℕ = c.head_word_length-word.result in
    let colon : ℕ = c.sign_length-colon.result in
    let blanks : ℕ = length after - length number in
    let w : List (List ℕ) = words_of_title in
    let ended : HasOnlyWords w (take (blanks + colon) after) =
    only_then w after number blanks colon (only_moves w (take blanks after) c.trimmed-after.ensures.skipped) c.trimmed-after.ensures.rest
    (only_begin w (take colon number) (sign_begins number colon (λ some. (c.sign_length-colon.ensures.is some).1))) in
    let there : word + (blanks + colon) ≡ length line - length number + colon =
    omega (arith, ap length c.from_place-rest.ensures, length-drop word line, c.trimmed-after.ensures.fits, c.head_word_length-word.ensures.fits) in
    subst (λ n. HasOnlyWords w (take n line)) there
    (only_then w line after word (blanks + colon)
    (title_word (take word line) (c.head_word_length-word.ensures.word (omega (arith, c.if-word-eq0.false)))) c.from_place-rest.ensures ended)

pub returns-then-number-gt0-clause-words : goal.returns-then-number-gt0-clause-words
returns-then-number-gt0-clause-words c =
    let line : List ℕ = c.args.line.now in
    let word : ℕ = c.head_word_length-word.result in
    only_then words_of_title line c.from_place-rest.result.now word c.head_number_length-number.result
    (title_word (take word line) (c.head_word_length-word.ensures.word (omega (arith, c.if-word-eq0.false))))
    c.from_place-rest.ensures c.head_number_length-number.ensures.words

pub returns-then-word-eq0-clause-title : goal.returns-then-word-eq0-clause-title
returns-then-word-eq0-clause-title c = λ title.
    let line : List ℕ = c.args.line.now in
    absurd (omega (
      arith,
      c.if-word-eq0.true,
      c.head_word_length-word.ensures.all title.count (omega (arith, title_within line title)) title.word,
      title_some line title,
    ))

pub returns-else-number-gt0-clause-title : goal.returns-else-number-gt0-clause-title
returns-else-number-gt0-clause-title c = λ title.
    let line : List ℕ = c.args.line.now in
    let is : c.head_word_length-word.result ≡ title.count =
    c.head_word_length-word.ensures.all title.count (omega (arith, title_within line title)) title.word in
    absurd (omega (
      arith,
      c.if-colon-gt0.false,
      c.sign_length-colon.ensures.colon refl
          (title_colon line c.from_place-rest.result.now c.trimmed-after.result.now c.head_word_length-word.result title is c.from_place-rest.ensures
          c.trimmed-after.ensures.begun),
    ))
