use Rattle.niss_cube.proofs.Words.{◌≡◌, ◌∙◌, ◌+◌, ◌%◌, refl, arith, get_or, length-set}
use Rattle.niss_cube.proofs.CubieKinds.{written_more}
use Rattle.niss_cube.proofs.cubie_turns.turn_orientations.Goals as goal

pub loop-place-preserved : goal.loop-place-preserved
loop-place-preserved g c =
    let l = c.loop-place in
    let before = c.args.orientations.now in
    let from = c.args.from.now in
    let added = c.args.added.now in (
      length-set l.turned l.place _ ∙ l.invariant.0,
      written_more (λ i turn. turn ≡ (get_or before (get_or from i 0) 0 + get_or added i 0) % g.row.FACELETS) l.turned l.place _ 0 (omega arith) refl l.invariant.1,
    )
