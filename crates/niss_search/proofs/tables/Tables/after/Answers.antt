use Rattle.niss_search.proofs.Words.{turned}
use Rattle.niss_search.proofs.tables.Tables.after.Goals as goal

pub returns-clause-turned : goal.returns-clause-turned
returns-clause-turned g c = λ e h.
    rw c.position_after.ensures
    ((c.positions_follow_cubes.ensures.follow c.args.self.now).after_turn e c.args.position.now c.args.turn c.requires.of_step h)

pub returns-clause-position : goal.returns-clause-position
returns-clause-position g c =
    let e = c.requires.position.0 in
    ((λ q. turned c.args.turn (e q)), returns-clause-turned g c e c.requires.position.1)

pub position_after-requires : goal.position_after-requires
position_after-requires g c = record { position = c.requires.position; of_step = c.requires.of_step }

pub returns-clause-value : goal.returns-clause-value
returns-clause-value g c = c.position_after.ensures
