use Rattle.niss_cube.proofs.cube.Cube.twist.Goals as goal

pub returns : goal.returns
returns c = c.rank.ensures
