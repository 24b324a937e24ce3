use Rattle.niss_cube.proofs.turn_tables.TurnTables.build_in.Goals as goal

pub invariant_of-result : goal.invariant_of-result
invariant_of-result g c = record {
  are_flips = c.in_ok-build_in.ensures;
  are_twists = c.in_ok-build_in-2.ensures;
  are_slices = c.in_ok-build_in-3.ensures;
}
