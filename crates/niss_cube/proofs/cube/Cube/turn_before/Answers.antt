use Rattle.niss_cube.proofs.Words.{arith}
use Rattle.niss_cube.proofs.CubieKinds.{lists_of, CubieLists, tabulated-is}
use Rattle.niss_cube.proofs.MovedCubies.{Before, Made, made}
use Rattle.niss_cube.proofs.cube.Cube.turn_before.Goals.{After-turn_orientations-2}
use Rattle.niss_cube.proofs.cube.Cube.turn_before.Goals as goal

abbrev written : After-turn_orientations-2 → CubieLists
written c = record {
  corners = c.turn_homes.result;
  twists = c.turn_orientations.result;
  edges = c.turn_homes-2.result;
  flips = c.turn_orientations-2.result;
}

turned-is : (c : After-turn_orientations-2) → Made (Before c.args.turn) (lists_of c.args.self.now) (written c)
turned-is c =
    made (Before c.args.turn) (lists_of c.args.self.now) (written c) c.args.self.now.are_cubies
    (tabulated-is 8 _ _ (omega (arith, c.turn_homes.type_inv)) (rw c.cubie_turn-table.ensures.value at c.turn_homes.ensures))
    (tabulated-is 8 _ _ (omega (arith, c.turn_orientations.type_inv)) (rw c.cubie_turn-table.ensures.value at c.turn_orientations.ensures))
    (tabulated-is 12 _ _ (omega (arith, c.turn_homes-2.type_inv)) (rw c.cubie_turn-table.ensures.value at c.turn_homes-2.ensures))
    (tabulated-is 12 _ _ (omega (arith, c.turn_orientations-2.type_inv))
    (rw c.cubie_turn-table.ensures.value at c.turn_orientations-2.ensures))

pub invariant_of-self-5 : goal.invariant_of-self-5
invariant_of-self-5 c = record { are_cubies = (turned-is (goal.at.invariant_of-self-5 c).After-turn_orientations-2).0 }

pub returns : goal.returns
returns c = (turned-is (goal.at.returns c).After-turn_orientations-2).1
