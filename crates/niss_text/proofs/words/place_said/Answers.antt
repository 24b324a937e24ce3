use Rattle.std.proofs.Common.{◌≡◌, ℕ, ◌-◌, ◌+◌, ◌<◌, ◌≤◌, List, false, drop, get_or, length, length-drop, sym, ap, subst, ◌∙◌, arith}
use Rattle.std.proofs.lemmas.Bool.{false≢true}
use Rattle.std.proofs.lemmas.List.{drop-drop, get_or-drop, length-take-le}
use Rattle.niss_text.specs.Doubts.{is_letter as is_plain_letter}
use Rattle.niss_text.specs.Said.{words_of}
use Rattle.niss_text.proofs.KeptLemmas.{passed_so_far}
use Rattle.niss_text.proofs.SaidLemmas.{said_here, two_letters, left_next, passed_last}
use Rattle.niss_text.proofs.words.place_said.Goals.{else-letters-gt1-via-then-letters-gt1+else-has, else-letters-gt1-via-else-letters-gt1}
use Rattle.niss_text.proofs.words.place_said.Goals as goal

pub returns-then-not-has_word-clause-all : goal.returns-then-not-has_word-clause-all
returns-then-not-has_word-clause-all c = λ all has.
    let two = two_letters (words_of c.args.wanted) c.args.text.now all has in
    absurd (false≢true (sym c.if-not-has_word.true ∙ c.has_word.ensures has.at two.0 two.1))

pub returns-then-has-clause-said : goal.returns-then-has-clause-said
returns-then-has-clause-said c = λ yes.
    let text : List ℕ = c.args.text.now in
    let rest : List ℕ = c.loop-rest.rest.now in
    let inv = c.loop-rest.invariant in
    let letters = c.letters_in_front-letters in
    said_here (words_of c.args.wanted) text rest (length text - length rest) letters.result inv.rest (omega arith) letters.ensures.fits
    (c.has.ensures.said c.if-has.true) (inv.before (omega (arith, c.if-letters-gt1.true, letters.ensures.fits))) (letters.ensures.all_letters)

pub loop-rest-preserved : goal.loop-rest-preserved
loop-rest-preserved c =
    let text : List ℕ = c.args.text.now in
    let rest : List ℕ = c.loop-rest.rest.now in
    let next : List ℕ = c.from_place-rest.result.now in
    let others : List ℕ = c.from_place-others.result.now in
    let inv = c.loop-rest.invariant in
    let letters = c.letters_in_front-letters in
    let l : ℕ = letters.result in
    let s : ℕ = c.sign_size.result in
    let behind : others ≡ drop l rest = c.from_place-others.ensures in
    let is : next ≡ drop (l + s) rest = c.from_place-rest.ensures ∙ ap (λ v. drop s v) behind ∙ drop-drop s l rest in
    let fits : l + s ≤ length rest = omega (arith, c.sign_size.ensures.fits, ap length behind, length-drop l rest, letters.ensures.fits) in
    let far = passed_so_far text rest next (l + s) inv.fits inv.rest fits is in
    let inner : (k : ℕ) → 0 < k → k < s → is_plain_letter (get_or (drop l rest) k 0) ≡ false =
    subst (λ (v : List ℕ). (k : ℕ) → 0 < k → k < s → is_plain_letter (get_or v k 0) ≡ false) behind c.sign_size.ensures.inner in
    record {
      fits = omega (arith, far.0, inv.fits);
      rest = far.1;
      before = λ some more. passed_last text rest (length text - length rest) l s (length text - length next) inv.rest
          (c.sign_size.ensures.some (omega (arith, some, far.0, ap length behind, length-drop l rest))) (letters.ensures.all_letters) inner
          (omega (arith, far.0, inv.fits));
      left = λ all has. left_next (words_of c.args.wanted) rest next l s is fits (letters.ensures.letters) (letters.ensures.all_letters)
          (λ k some lt. sym (ap is_plain_letter (get_or-drop l rest k 0)) ∙ inner k some lt) all
          (λ more said. elim c.else-letters-gt1.branch [
            | else-letters-gt1-via-then-letters-gt1+else-has w ↦ false≢true (sym w.if-has.false ∙ w.has.ensures.all (omega (arith, more, length-take-le l rest letters.ensures.fits)) said)
            | else-letters-gt1-via-else-letters-gt1 w ↦ omega (arith, more, w.if-letters-gt1.false)
          ]) (inv.left all has);
    }
