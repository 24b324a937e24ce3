use Rattle.std.proofs.Common.{map, sym, subst, refl}
use Rattle.std.specs.List.{Contains}
use Rattle.niss_text.specs.Kept.{small}
use Rattle.niss_text.specs.Said.{words_of, words_of_solution, words_of_scramble, words_of_inverse, words_of_switch, words_of_denial}
use Rattle.niss_text.specs.declared.words.Wanted.{Wanted}
use Rattle.niss_text.proofs.words.Wanted.has.Goals as goal
unfoldable use Rattle.niss_text.specs.Said.{before_words, listed}

pub returns-in-Solution-clause-said : goal.returns-in-Solution-clause-said
unfolding listed before_words
returns-in-Solution-clause-said c = λ is.
    let said : Contains words_of_solution (map small c.args.word.now) = c.fits_one_of.ensures.whole refl is in
    subst (λ (w : Wanted). Contains (words_of w) (map small c.args.word.now)) (sym c.in-Solution.is) said

pub returns-in-Solution-clause-all : goal.returns-in-Solution-clause-all
unfolding listed before_words
returns-in-Solution-clause-all c = λ some is.
    c.fits_one_of.ensures.all refl some (subst (λ (w : Wanted). Contains (words_of w) (map small c.args.word.now)) c.in-Solution.is is)

pub returns-in-Scramble-clause-said : goal.returns-in-Scramble-clause-said
unfolding listed before_words
returns-in-Scramble-clause-said c = λ is.
    let said : Contains words_of_scramble (map small c.args.word.now) = c.fits_one_of-in-Scramble.ensures.whole refl is in
    subst (λ (w : Wanted). Contains (words_of w) (map small c.args.word.now)) (sym c.in-Scramble.is) said

pub returns-in-Scramble-clause-all : goal.returns-in-Scramble-clause-all
unfolding listed before_words
returns-in-Scramble-clause-all c = λ some is.
    c.fits_one_of-in-Scramble.ensures.all refl some (subst (λ (w : Wanted). Contains (words_of w) (map small c.args.word.now)) c.in-Scramble.is is)

pub returns-in-Inverse-clause-said : goal.returns-in-Inverse-clause-said
unfolding listed before_words
returns-in-Inverse-clause-said c = λ is.
    let said : Contains words_of_inverse (map small c.args.word.now) = c.fits_one_of-in-Inverse.ensures.whole refl is in
    subst (λ (w : Wanted). Contains (words_of w) (map small c.args.word.now)) (sym c.in-Inverse.is) said

pub returns-in-Inverse-clause-all : goal.returns-in-Inverse-clause-all
unfolding listed before_words
returns-in-Inverse-clause-all c = λ some is.
    c.fits_one_of-in-Inverse.ensures.all refl some (subst (λ (w : Wanted). Contains (words_of w) (map small c.args.word.now)) c.in-Inverse.is is)

pub returns-in-Switch-clause-said : goal.returns-in-Switch-clause-said
unfolding listed before_words
returns-in-Switch-clause-said c = λ is.
    let said : Contains words_of_switch (map small c.args.word.now) = c.fits_one_of-in-Switch.ensures.whole refl is in
    subst (λ (w : Wanted). Contains (words_of w) (map small c.args.word.now)) (sym c.in-Switch.is) said

pub returns-in-Switch-clause-all : goal.returns-in-Switch-clause-all
unfolding listed before_words
returns-in-Switch-clause-all c = λ some is.
    c.fits_one_of-in-Switch.ensures.all refl some (subst (λ (w : Wanted). Contains (words_of w) (map small c.args.word.now)) c.in-Switch.is is)

pub returns-in-Denial-clause-said : goal.returns-in-Denial-clause-said
unfolding listed before_words
returns-in-Denial-clause-said c = λ is.
    let said : Contains words_of_denial (map small c.args.word.now) = c.fits_one_of-in-Denial.ensures.whole refl is in
    subst (λ (w : Wanted). Contains (words_of w) (map small c.args.word.now)) (sym c.in-Denial.is) said

pub returns-in-Denial-clause-all : goal.returns-in-Denial-clause-all
unfolding listed before_words
returns-in-Denial-clause-all c = λ some is.
    c.fits_one_of-in-Denial.ensures.all refl some (subst (λ (w : Wanted). Contains (words_of w) (map small c.args.word.now)) c.in-Denial.is is)
