use Rattle.niss_cube.proofs.Words.{◌≡◌, ◌∙◌, refl, arith, length-set, renamed_home, renamed_orientation}
use Rattle.niss_cube.proofs.CubieKinds.{written_more}
use Rattle.niss_cube.proofs.cube.coordinate.renaming.RenamedPlaces.renamed.Goals as goal

pub loop-place-preserved : goal.loop-place-preserved
loop-place-preserved g c =
    let l = c.loop-place in
    let self = c.args.self.now in
    let homes = c.args.homes.now in
    let turns = c.args.orientations.now in
    record {
      homes_len = length-set l.new_homes l.place _ ∙ l.invariant.homes_len;
      orientations_len = length-set l.new_orientations l.place _ ∙ l.invariant.orientations_len;
      homes = written_more (λ i home. home ≡ renamed_home self.from self.to homes i) l.new_homes l.place _ 0 (omega arith) refl l.invariant.homes;
      orientations = written_more (λ i turn. turn ≡ renamed_orientation g.row.FACELETS self.from self.inward homes turns i) l.new_orientations l.place _ 0 (omega arith) refl l.invariant.orientations;
    }
