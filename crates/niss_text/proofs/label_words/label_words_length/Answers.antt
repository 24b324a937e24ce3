use Rattle.std.proofs.Common.{◌≡◌, ℕ, List, ◌+◌, ◌∙◌, sym, ap, get_or, drop, length, refl, length-drop, arith}
use Rattle.std.proofs.lemmas.List.{get_or-drop}
use Rattle.niss_text.specs.Doubts.{is_letter as is_plain_letter}
use Rattle.niss_text.proofs.AxisLemmas.{words_begin, words_on, label_words}
use Rattle.niss_text.proofs.label_words.label_words_length.Goals as goal

pub loop-end-init : goal.loop-end-init
loop-end-init c = record {
  fits = c.length_of-end.ensures.fits;
  words = words_begin c.args.line.now c.length_of-end.result c.length_of-end.ensures.fits (c.length_of-end.ensures.words refl);
  all_words = c.length_of-end.ensures.all_words refl;
}

pub loop-end-preserved : goal.loop-end-preserved
loop-end-preserved c =
    let line : List ℕ = c.args.line.now in
    let rest : List ℕ = c.from_place-rest.result.now in
    let end : ℕ = c.loop-end.end in
    let size : ℕ = c.length_of.result in
    let inv = c.loop-end.invariant in
    let is : rest ≡ drop (end + 1) line = c.from_place-rest.ensures in
    let there : end + 1 + size ≡ end + (1 + size) = omega arith in
    record {
      fits = omega (arith, c.length_of.ensures.fits, ap length is, length-drop (end + 1) line, c.loop-end-test.true);
      words = words_on line rest end size inv.words (sym c.parts_axis.ensures ∙ c.if-not-parts_axis.false) is c.length_of.ensures.fits
          (c.length_of.ensures.words refl) (c.length_of.ensures.all_words refl);
      all_words = ap is_plain_letter (sym (ap (λ v. get_or v size 0) is ∙ get_or-drop (end + 1) line size 0 ∙ ap (λ n. get_or line n 0) there))
          ∙ c.length_of.ensures.all_words refl;
    }

pub returns-then-not-parts_axis-clause-words : goal.returns-then-not-parts_axis-clause-words
returns-then-not-parts_axis-clause-words c = label_words c.args.line.now c.loop-end.end c.loop-end.invariant.fits c.loop-end.invariant.words

pub returns-clause-words : goal.returns-clause-words
returns-clause-words c = label_words c.args.line.now c.loop-end.end c.loop-end.invariant.fits c.loop-end.invariant.words
