use Rattle.niss_search.proofs.Words.{arith}
use Rattle.std.proofs.lemmas.Grind.{elements}
use Rattle.niss_search.proofs.searching.depth_first.next_near.Goals as goal

pub loop-index-preserved : goal.loop-index-preserved
loop-index-preserved g c = record { far = grind (arith, elements); ticks = omega arith }

pub returns-clause-far : goal.returns-clause-far
returns-clause-far g c = record { far = grind (arith, elements); looked = omega arith }
