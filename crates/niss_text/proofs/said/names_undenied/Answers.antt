use Rattle.std.proofs.Common.{◌≡◌, ℕ, ◌-◌, ◌+◌, ◌<◌, ◌≤◌, List, false, drop, get_or, length, length-drop, sym, ap, subst, ◌∙◌, arith}
use Rattle.std.proofs.lemmas.Bool.{false≢true}
use Rattle.std.proofs.lemmas.List.{drop-drop, get_or-drop, length-take-le}
use Rattle.niss_text.specs.Doubts.{is_letter as is_plain_letter}
use Rattle.niss_text.specs.Said.{words_of, IsDenied}
use Rattle.niss_text.proofs.KeptLemmas.{passed_so_far}
use Rattle.niss_text.proofs.SaidLemmas.{said_here, passed_last}
use Rattle.niss_text.proofs.NamedLemmas.{denied_next, none_denied, zero_behind}
use Rattle.niss_text.proofs.said.names_undenied.Goals as goal

pub loop-rest-preserved : goal.loop-rest-preserved
loop-rest-preserved c =
    let text : List ℕ = c.args.text.now in
    let rest : List ℕ = c.loop-rest.rest.now in
    let next : List ℕ = c.from_place-rest.result.now in
    let others : List ℕ = c.from_place-others.result.now in
    let inv = c.loop-rest.invariant in
    let letters = c.letters_in_front-letters in
    let l : ℕ = letters.result in
    let s : ℕ = c.sign_size-sign.result in
    let behind : others ≡ drop l rest = c.from_place-others.ensures in
    let is : next ≡ drop (l + s) rest = c.from_place-rest.ensures ∙ ap (λ v. drop s v) behind ∙ drop-drop s l rest in
    let fits : l + s ≤ length rest = omega (arith, c.sign_size-sign.ensures.fits, ap length behind, length-drop l rest, letters.ensures.fits) in
    let far = passed_so_far text rest next (l + s) inv.fits inv.rest fits is in
    let inner : (k : ℕ) → 0 < k → k < s → is_plain_letter (get_or (drop l rest) k 0) ≡ false =
    subst (λ (v : List ℕ). (k : ℕ) → 0 < k → k < s → is_plain_letter (get_or v k 0) ≡ false) behind c.sign_size-sign.ensures.inner in
    let at : ℕ = length text - length next in
    let left : 0 < length next → 0 < length rest = λ some. omega (arith, some, ap length is, length-drop (l + s) rest) in
    let sign : 0 < length next → 0 < s = λ some.
    c.sign_size-sign.ensures.some (omega (arith, some, ap length is, length-drop (l + s) rest, ap length behind, length-drop l rest)) in
    let blank : get_or rest l 0 ≡ get_or others 0 0 = zero_behind rest others l behind in
    record {
      fits = omega (arith, far.0, inv.fits);
      rest = far.1;
      before = λ some more. passed_last text rest (length text - length rest) l s at inv.rest (sign some) (letters.ensures.all_letters) inner
          (omega (arith, far.0, inv.fits));
      denied = λ some. denied_next text rest (length text - length rest) l s at c.loop-rest.is_denied c.stays_denied-is_denied.result inv.rest
          (omega (arith, far.0, inv.fits)) (sign some) (letters.ensures.letters) (letters.ensures.all_letters)
          (λ k more lt. sym (ap is_plain_letter (get_or-drop l rest k 0)) ∙ inner k more lt) (inv.before (left some)) (inv.denied (left some))
          (λ more none is_blank one. c.stays_denied-is_denied.ensures.none (omega (arith, more, length-take-le l rest letters.ensures.fits)) none (sym blank ∙ is_blank) one)
          (λ more was links is_blank one.
          c.stays_denied-is_denied.ensures.goes_on (omega (arith, more, length-take-le l rest letters.ensures.fits)) was links (sym blank ∙ is_blank) one);
    }

pub loop-rest-init : goal.loop-rest-init
loop-rest-init c =
    let text : List ℕ = c.args.text.now in
    let none : length text - length text ≡ 0 = omega arith in
    record {
      fits = omega arith;
      rest = ap (λ n. drop n text) (sym none);
      before = λ some more. absurd (omega (arith, more));
      denied = λ some between is. absurd (none_denied text between (subst (λ n. IsDenied between text n) none is));
    }

pub returns-then-not-is_denied_behind : goal.returns-then-not-is_denied_behind
returns-then-not-is_denied_behind c = λ yes.
    let text : List ℕ = c.args.text.now in
    let rest : List ℕ = c.loop-rest.rest.now in
    let inv = c.loop-rest.invariant in
    let letters = c.letters_in_front-letters in
    let some : 0 < length rest = omega (arith, c.if-letters-gt1.true, letters.ensures.fits) in
    let here = said_here (words_of c.args.wanted) text rest (length text - length rest) letters.result inv.rest (omega arith) letters.ensures.fits
    (c.has.ensures.said c.if-has.true) (inv.before some) (letters.ensures.all_letters) in
    record {
      word = here.0;
      free = λ between is. false≢true (sym c.if-not-is_denied.true ∙ inv.denied some between (subst (λ n. IsDenied between text n) here.1 is));
    }
