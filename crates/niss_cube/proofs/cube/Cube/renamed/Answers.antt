use Rattle.niss_cube.proofs.Words.{arith}
use Rattle.niss_cube.proofs.CubieKinds.{lists_of, CubieLists, tabulated-is}
use Rattle.niss_cube.proofs.MovedCubies.{Under, Made, made}
use Rattle.niss_cube.proofs.cube.Cube.renamed.Goals.{After-renamed-2}
use Rattle.niss_cube.proofs.cube.Cube.renamed.Goals as goal

abbrev written : After-renamed-2 → CubieLists
written c = record { corners = c.renamed.result.0; twists = c.renamed.result.1; edges = c.renamed-2.result.0; flips = c.renamed-2.result.1 }

renamed-is : (c : After-renamed-2) → Made (Under c.args.renaming) (lists_of c.args.self.now) (written c)
renamed-is c =
    made (Under c.args.renaming) (lists_of c.args.self.now) (written c) c.args.self.now.are_cubies
    (tabulated-is 8 _ _ (omega (arith, c.renamed.type_inv)) (rw c.table-table.ensures at c.renamed.ensures.homes))
    (tabulated-is 8 _ _ (omega (arith, c.renamed.type_inv)) (rw c.table-table.ensures at c.renamed.ensures.orientations))
    (tabulated-is 12 _ _ (omega (arith, c.renamed-2.type_inv)) (rw c.table-table.ensures at c.renamed-2.ensures.homes))
    (tabulated-is 12 _ _ (omega (arith, c.renamed-2.type_inv)) (rw c.table-table.ensures at c.renamed-2.ensures.orientations))

pub invariant_of-result : goal.invariant_of-result
invariant_of-result c = record { are_cubies = (renamed-is (goal.at.invariant_of-result c).After-renamed-2).0 }

pub returns : goal.returns
returns c = (renamed-is (goal.at.returns c).After-renamed-2).1
