use Rattle.niss_ways.proofs.StartLemmas.{held_after}
use Rattle.niss_ways.proofs.start.made_after.Goals as goal

pub returns-clause-held : goal.returns-clause-held
returns-clause-held c s of_s =
    held_after s c.args.moves.now c.args.rotation c.to_faces-turns.result.1 c.then.result c.then.ensures c.to_faces-turns.ensures.rotation of_s
