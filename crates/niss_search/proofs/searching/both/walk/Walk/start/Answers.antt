use Rattle.niss_search.proofs.LookLemmas.{starts_inverse}
use Rattle.niss_search.proofs.searching.both.walk.Walk.start.Goals as goal

pub returns-in-Inverse : goal.returns-in-Inverse
returns-in-Inverse g c = record {
  starts = starts_inverse c.inverse_has_steps.ensures c.args.self.now.tables.now c.args.self.now.cube.now c.inverse.result c.inverse.ensures c.requires;
  is_here = rw c.in-Inverse.is c.inverse.ensures;
}
