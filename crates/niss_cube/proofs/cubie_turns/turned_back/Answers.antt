use Rattle.niss_cube.proofs.Words.{◌≡◌, ◌∙◌, ◌-◌, ◌%◌, refl, arith, get_or, length-set}
use Rattle.niss_cube.proofs.CubieKinds.{written_more}
use Rattle.niss_cube.proofs.cubie_turns.turned_back.Goals as goal

pub loop-home-preserved : goal.loop-home-preserved
loop-home-preserved g c =
    let l = c.loop-home in
    let before = c.args.orientations.now in
    let places = c.args.places.now in (
      length-set l.back l.home _ ∙ l.invariant.0,
      written_more (λ i turn. turn ≡ (g.row.FACELETS - get_or before (get_or places i 0) 0) % g.row.FACELETS) l.back l.home _ 0 (omega arith) refl l.invariant.1,
    )
