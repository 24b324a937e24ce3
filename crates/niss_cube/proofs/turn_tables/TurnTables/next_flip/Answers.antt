use Rattle.niss_cube.proofs.turn_tables.TurnTables.next_flip.Goals as goal

pub returns : goal.returns
returns g c = rw c.args.self.now.are_flips at c.next.ensures
