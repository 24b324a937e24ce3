use Rattle.niss_cube.proofs.cube.Cube.flip.Goals as goal

pub returns : goal.returns
returns c = c.rank.ensures
