use Rattle.niss_cube.proofs.Words.{◌∙◌, ap, sym, arith, get_or, moved_by, Token, place_at, places, letter_of}
use Rattle.niss_cube.proofs.Shown.{moved_letter, text_is, text_at}
use Rattle.niss_cube.proofs.facelet_text.rotated.Goals as goal

pub returns : goal.returns
returns c = λ e is.
    let m : Token = Token.Rotation c.args.axis c.args.power in
    text_is (λ q. moved_by m (e q)) c.loop-position.letter-items c.loop-position-test.array_long (λ j l.
    c.loop-position.invariant j (omega arith)
    ∙ text_at e c.args.text.now is _ (c.before_rotation-before.ensures.in_range j l)
    ∙ sym (moved_letter m e (place_at (get_or c.before_rotation-before.result.now j 0)))
    ∙ ap (letter_of (λ q. moved_by m (e q)) places) (c.before_rotation-before.ensures.moves j l))
