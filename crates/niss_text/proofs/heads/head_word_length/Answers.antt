use Rattle.std.proofs.Common.{◌≡◌, ◌⊎◌, inl, inr, ℕ, List, get_or, codes, refl, ap, ◌∙◌, arith}
use Rattle.niss_text.specs.Kept.{small}
use Rattle.niss_text.proofs.TitleLemmas.{word_by_first, word_found}
use Rattle.niss_text.proofs.heads.head_word_length.Goals as goal

-- a letter of ASCII, as a small one
both_small : (b capital letter : ℕ) → small capital ≡ letter → small letter ≡ letter → (b ≡ capital) ⊎ (b ≡ letter) → small b ≡ letter
both_small b capital letter first second (inl is) = ap small is ∙ first
both_small b capital letter first second (inr is) = ap small is ∙ second

pub returns-in-115-clause-all : goal.returns-in-115-clause-all
returns-in-115-clause-all c = λ count within is.
    let text : List ℕ = c.args.text.now in
    let found = c.word_length.ensures in
    word_found text (codes "scramble") c.word_length.result count (omega arith) found.fits within found.word found.all
    ((word_by_first text count is).scramble (both_small (get_or text 0 0) 83 115 refl refl c.in-115.is))

pub returns-in-97-clause-all : goal.returns-in-97-clause-all
returns-in-97-clause-all c = λ count within is.
    let text : List ℕ = c.args.text.now in
    let found = c.word_length-in-97.ensures in
    word_found text (codes "attempt") c.word_length-in-97.result count (omega arith) found.fits within found.word found.all
    ((word_by_first text count is).attempt (both_small (get_or text 0 0) 65 97 refl refl c.in-97.is))

pub returns-in-101-clause-all : goal.returns-in-101-clause-all
returns-in-101-clause-all c = λ count within is.
    let text : List ℕ = c.args.text.now in
    let found = c.word_length-in-101.ensures in
    word_found text (codes "extra") c.word_length-in-101.result count (omega arith) found.fits within found.word found.all
    ((word_by_first text count is).extra (both_small (get_or text 0 0) 69 101 refl refl c.in-101.is))
