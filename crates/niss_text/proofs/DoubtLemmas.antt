-- Letters that are written as moves are, and which doubt has which number.
use Rattle.std.proofs.Common.{◌≡◌, ℕ, ◌+◌, ◌<◌, ◌≤◌, true, false, List, length, map, refl, sym, ap, ◌∙◌, arith}
use Rattle.std.specs.Prelude.{codes}
use Rattle.std.proofs.lemmas.Bool.{false≢true}
use Rattle.std.proofs.lemmas.List.{length-map}
use Rattle.niss_text.specs.Kept.{small}
use Rattle.niss_text.specs.declared.doubts.Doubt.{Doubt}
use Rattle.niss_text.specs.declared.doubts.Doubt.TheVariants.{Nothing, AnotherScramble, SeveralSolutions, Side, Letters, SmallLetters, Comment, Repetition, Insertion, StepOrScramble, Signs}
use Rattle.niss_text.specs.declared.sights.Sight.TheVariants.{Joined, Parted, Prime}
use Rattle.niss_text.specs.Doubts.{IsAsWritten, number_of, sees}

pub none_joined : (text : List ℕ) (from to : ℕ) → ((k : ℕ) → from + 1 ≤ k → k < to → sees text Joined k ≡ false) → IsAsWritten text from to
none_joined text from to none = record {
  apart = λ j after before seen k far near. none k (omega (arith, far)) near;
  unprimed = λ unseen k far near. none k (omega (arith, far)) near;
}

pub none_parted : (text : List ℕ) (from to prime : ℕ) → ((k : ℕ) → from + 1 ≤ k → k < to → sees text Parted k ≡ false) → from ≤ prime →
    prime < to → sees text Prime prime ≡ true → IsAsWritten text from to
none_parted text from to prime none after before primed = record {
  apart = λ j far near seen k. absurd (false≢true (sym (none j (omega (arith, far)) near) ∙ seen));
  unprimed = λ unseen k. absurd (false≢true (sym (unseen prime after before) ∙ primed));
}

-- the words for a scramble in small letters
pub small_word : (bytes : List ℕ) → bytes ≡ codes "Scramble" → map small bytes ≡ codes "scramble"
small_word bytes e = ap (map small) e

pub small_head : (bytes : List ℕ) → bytes ≡ codes "Scramble:" → map small bytes ≡ codes "scramble:"
small_head bytes e = ap (map small) e

-- bytes that are a word, but for capitals, are some
pub some_spelled : (bytes word : List ℕ) → map small bytes ≡ word → 0 < length word → 0 < length bytes
some_spelled bytes word e some = omega (arith, some, ap length e, length-map bytes small)

pub is_nothing : (d : Doubt) → number_of d ≡ 0 → d ≡ Nothing
is_nothing Nothing h = refl
is_nothing AnotherScramble h = absurd (omega arith)
is_nothing SeveralSolutions h = absurd (omega arith)
is_nothing Side h = absurd (omega arith)
is_nothing Letters h = absurd (omega arith)
is_nothing SmallLetters h = absurd (omega arith)
is_nothing Comment h = absurd (omega arith)
is_nothing Repetition h = absurd (omega arith)
is_nothing Insertion h = absurd (omega arith)
is_nothing StepOrScramble h = absurd (omega arith)
is_nothing Signs h = absurd (omega arith)

pub is_letters : (d : Doubt) → number_of d ≡ 4 → d ≡ Letters
is_letters Nothing h = absurd (omega arith)
is_letters AnotherScramble h = absurd (omega arith)
is_letters SeveralSolutions h = absurd (omega arith)
is_letters Side h = absurd (omega arith)
is_letters Letters h = refl
is_letters SmallLetters h = absurd (omega arith)
is_letters Comment h = absurd (omega arith)
is_letters Repetition h = absurd (omega arith)
is_letters Insertion h = absurd (omega arith)
is_letters StepOrScramble h = absurd (omega arith)
is_letters Signs h = absurd (omega arith)

pub is_small_letters : (d : Doubt) → number_of d ≡ 5 → d ≡ SmallLetters
is_small_letters Nothing h = absurd (omega arith)
is_small_letters AnotherScramble h = absurd (omega arith)
is_small_letters SeveralSolutions h = absurd (omega arith)
is_small_letters Side h = absurd (omega arith)
is_small_letters Letters h = absurd (omega arith)
is_small_letters SmallLetters h = refl
is_small_letters Comment h = absurd (omega arith)
is_small_letters Repetition h = absurd (omega arith)
is_small_letters Insertion h = absurd (omega arith)
is_small_letters StepOrScramble h = absurd (omega arith)
is_small_letters Signs h = absurd (omega arith)
