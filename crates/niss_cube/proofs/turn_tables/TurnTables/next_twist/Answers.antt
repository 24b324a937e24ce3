use Rattle.niss_cube.proofs.turn_tables.TurnTables.next_twist.Goals as goal

pub returns : goal.returns
returns g c = rw c.args.self.now.are_twists at c.next.ensures
