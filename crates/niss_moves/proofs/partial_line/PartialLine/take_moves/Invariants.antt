use Rattle.niss_moves.proofs.Names.{◌-◌, ◌≤◌, length, take, count}
use Rattle.niss_moves.proofs.ReaderLemmas.{HasTaken}
use Rattle.niss_moves.proofs.partial_line.PartialLine.take_moves.Given as goal

abbrev pub invariant-loop-self : goal.invariant-loop-self
invariant-loop-self l = record {
  within : l.taken ≤ length l.bytes;
  taken : HasTaken l.initial.self l.self (take l.taken l.bytes);
}

abbrev pub decreases-loop-self : goal.decreases-loop-self
decreases-loop-self l = 256 - count l.self
