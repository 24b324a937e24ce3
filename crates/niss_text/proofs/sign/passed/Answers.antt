use Rattle.std.proofs.Common.{◌-◌, length, take, sym, ◌∙◌, arith}
use Rattle.std.proofs.lemmas.Bool.{not-true}
use Rattle.niss_text.proofs.SignLemmas.{skipped, worded}
use Rattle.niss_text.proofs.KeptLemmas.{passed_so_far, passed_none, passed_signs}
use Rattle.niss_text.proofs.SpacingLemmas.{signs_one, spaced}
use Rattle.niss_text.specs.Signs.{is_of_moves, is_of_letters, is_spacing, is_skipped, ends_word, parts_words}
use Rattle.niss_text.proofs.TurnLemmas.{turns_more}
use Rattle.niss_text.proofs.SaidLemmas.{letters_more}
use Rattle.niss_text.proofs.sign.passed.Goals as goal

pub loop-class-preserved : goal.loop-class-preserved
loop-class-preserved c =
    let text = c.args.text.now in
    let rest = c.loop-class.rest.now in
    let next = c.from_place-rest.result.now in
    let inv = c.loop-class.invariant in
    let sign = c.first_sign-sign.result in
    let is_first = c.first_sign-sign.ensures.sign in
    let ascii = c.first_sign-sign.ensures.ascii in
    let far = passed_so_far text rest next sign.length inv.fits inv.rest is_first.fits c.from_place-rest.ensures in
    record {
      fits = omega (arith, far.0, inv.fits);
      rest = far.1;
      skipped = λ is. passed_none is_of_moves text rest next sign.length inv.fits inv.rest is_first.fits c.from_place-rest.ensures
          (inv.skipped is) (skipped sign.kind (take sign.length rest) (sym (c.has.ensures.skipped is) ∙ c.if-not-has.false) is_first.is);
      spacing = λ is. passed_signs is_spacing text rest next sign.length inv.fits inv.rest is_first.fits c.from_place-rest.ensures
          (inv.spacing is) (signs_one is_spacing (take sign.length rest)
          (spaced sign.kind (take sign.length rest) (sym (c.has.ensures.skipped is) ∙ c.if-not-has.false) is_first.is));
      words = λ is. passed_none parts_words text rest next sign.length inv.fits inv.rest is_first.fits c.from_place-rest.ensures
          (inv.words is) (worded sign.kind (take sign.length rest) (c.has.ensures.words is c.if-not-has.false) is_first.is);
      turns = λ is all. turns_more text rest (length text - length rest) (length text - length next) sign.length (is_skipped sign.kind)
          (ends_word sign.kind) inv.rest (omega (arith, is_first.some, is_first.fits)) (omega (arith, far.0, inv.fits))
          (not-true (ends_word sign.kind) (sym (c.has.ensures.no_blanks is) ∙ c.if-not-has.false)) ascii.turn ascii.blank all (inv.turns is all);
      letters = λ is. letters_more text rest (length text - length rest) (length text - length next) sign.length (is_of_letters sign.kind)
          inv.rest (omega (arith, is_first.some, is_first.fits)) (omega (arith, far.0, inv.fits))
          (sym (c.has.ensures.letters is) ∙ c.if-not-has.false) is_first.letter (inv.letters is);
    }
