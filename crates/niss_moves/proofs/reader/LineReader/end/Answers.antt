use Rattle.niss_moves.proofs.Names.{arith}
use Rattle.niss_moves.proofs.ReaderLemmas.{at_the_end, line_of_fed, reads_so}
use Rattle.niss_moves.proofs.reader.LineReader.end.Goals as goal

pub returns-in-Some-clause-line : goal.returns-in-Some-clause-line
returns-in-Some-clause-line c bytes h = grind (arith, at_the_end, line_of_fed _ bytes h)

pub returns-in-None-clause-line : goal.returns-in-None-clause-line
returns-in-None-clause-line c bytes h = grind (arith, at_the_end, line_of_fed _ bytes h)

pub returns-in-Some-clause-reading : goal.returns-in-Some-clause-reading
returns-in-Some-clause-reading c bytes h = reads_so bytes _ (returns-in-Some-clause-line c bytes h)

pub returns-in-None-clause-reading : goal.returns-in-None-clause-reading
returns-in-None-clause-reading c bytes h = reads_so bytes _ (returns-in-None-clause-line c bytes h)
