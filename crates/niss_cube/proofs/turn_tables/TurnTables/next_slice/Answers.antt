use Rattle.niss_cube.proofs.turn_tables.TurnTables.next_slice.Goals as goal

pub returns : goal.returns
returns g c = rw c.args.self.now.are_slices at c.next.ensures
