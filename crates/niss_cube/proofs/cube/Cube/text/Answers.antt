use Rattle.niss_cube.proofs.Words.{◌≡◌, ◌∙◌, ap, sym, arith, rules, get_or, map_of, letter_of, places, place_at, SOLVED_TEXT}
use Rattle.niss_cube.proofs.CubieKinds.{lists_of, one_to_one}
use Rattle.niss_cube.proofs.Shown.{brought_letter, solved_letter, text_is}
use Rattle.niss_cube.proofs.cube.Cube.text.Goals as goal

pub loop-position-preserved : goal.loop-position-preserved
loop-position-preserved c =
    let cube = c.args.self.now in
    let from = solved_letter c.origin.result c.origin.ensures.0 in
    let here : get_or SOLVED_TEXT c.origin.result 0 ≡ letter_of (map_of cube) places (place_at c.loop-position.position) =
    from.1
    ∙ sym (brought_letter (map_of cube) (one_to_one (lists_of cube) cube.are_cubies) (place_at c.origin.result) from.0)
    ∙ ap (letter_of (map_of cube) places) c.origin.ensures.1 in
    search (rules, here)

pub returns : goal.returns
returns c = text_is (map_of c.args.self.now) c.loop-position.letter-items c.loop-position-test.array_long (λ j l. c.loop-position.invariant j (omega arith))
